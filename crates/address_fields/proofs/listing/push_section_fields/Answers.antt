use Rattle.std.proofs.Common.{◌≡◌, [], get_or, refl, sym, append-nil, ◌∙◌, arith}
use Rattle.std.proofs.lemmas.List.{get_or_default}
use Rattle.address_fields.specs.AddressFields.{section_fields}
use Rattle.address_fields.proofs.ListedLemmas.{section_more, fit_here}
use Rattle.address_fields.proofs.listing.push_section_fields.Goals as goal

pub loop-k-init : goal.loop-k-init
unfolding section_fields
loop-k-init c = sym (append-nil c.args.fields.now.items)

pub push_fields-requires : goal.push_fields-requires
push_fields-requires c =
    let n = c.loop-k.k-index in
    let i = get_or c.args.pieces.now n 0 in
    let read : c.fixes.result.now ≡ get_or c.args.fixes.now i [] = c.fixes.ensures ∙ c.index-fixes-k.is ∙ get_or_default c.args.fixes.now i c.index-fixes-k.result [] (c.requires.fixes n 0 (omega arith)) in
    fit_here c.args.rvas.now c.args.fixes.now c.args.pieces.now n c.fixes.result.now (omega arith) c.requires.fit read

pub loop-k-preserved : goal.loop-k-preserved
loop-k-preserved c =
    let n = c.loop-k.k-index in
    let i = get_or c.args.pieces.now n 0 in
    let read : c.fixes.result.now ≡ get_or c.args.fixes.now i [] = c.fixes.ensures ∙ c.index-fixes-k.is ∙ get_or_default c.args.fixes.now i c.index-fixes-k.result [] (c.requires.fixes n 0 (omega arith)) in
    section_more c.args.rvas.now c.args.fixes.now c.args.pieces.now n _ c.fixes.result.now c.loop-k.fields.items c.args.fields.now.items c.push_fields.new.fields.items (omega arith) refl read c.loop-k.invariant c.in_ok-push_fields.ensures
