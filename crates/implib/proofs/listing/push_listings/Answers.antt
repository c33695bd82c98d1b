use Rattle.std.proofs.Common.{◌+◌, sym, ◌∙◌, arith}
use Rattle.implib.proofs.ListingLemmas.{both_listed}
use Rattle.implib.proofs.listing.push_listings.Goals as goal

pub returns-clause-listings : goal.returns-clause-listings
returns-clause-listings c =
    both_listed c.args.row.now c.args.names.now _ c.first_text-name.result.0 c.first_text-name.result.1.now c.first_text-name-2.result.0 (6 + c.len-len.result) c.len-len.result c.args.member c.args.header c.args.found.now.items c.push.new.self.items c.push-2.new.self.items
    c.requires.names (sym c.lists_symbol.ensures ∙ c.if-not-lists_symbol.false) (omega (arith, c.len-len.ensures)) c.len-len.ensures c.first_text-name.ensures.text c.first_text-name.ensures.rest c.first_text-name-2.ensures.text c.in_ok-push.ensures.items c.in_ok-push-2.ensures.items
