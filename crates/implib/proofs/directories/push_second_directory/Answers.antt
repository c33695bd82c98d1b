use Rattle.std.proofs.Common.{sym}
use Rattle.implib.specs.Listings.{headers_from}
use Rattle.implib.proofs.SizeLemmas.{length-headers_from}
use Rattle.implib.proofs.ListingLemmas.{second_written}
use Rattle.implib.proofs.directories.push_second_directory.Goals as goal

pub returns : goal.returns
returns c =
    second_written (headers_from c.args.dll.now c.args.start c.args.rows.now) c.args.listings.now _ c.args.out.now.items c.push_u32.new.out.items c.push_headers.new.out.items c.push_u32-2.new.out.items c.push_listed_members.new.out.items c.push_names.new.out.items
    (sym (length-headers_from c.args.dll.now c.args.start c.args.rows.now)) c.in_ok-push_u32.ensures c.in_ok-push_headers.ensures c.in_ok-push_u32-2.ensures c.in_ok-push_listed_members.ensures c.in_ok-push_names.ensures
