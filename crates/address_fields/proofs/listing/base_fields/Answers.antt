use Rattle.std.proofs.Common.{◌<◌, ◌++◌, ℕ, List, length, subst, sym, ◌∙◌, ap, arith}
use Rattle.std.specs.List.{All}
use Rattle.image_writer.proofs.LaidOutLemmas.{all_here}
use Rattle.address_fields.specs.AddressFields.{Fits, section_fields, all_fields}
use Rattle.address_fields.proofs.ListedLemmas.{all_more}
use Rattle.address_fields.proofs.listing.base_fields.Goals as goal

pub loop-section-init : goal.loop-section-init
unfolding all_fields
loop-section-init c = c.new-fields.ensures.items

pub push_section_fields-requires-clause-rvas : goal.push_section_fields-requires-clause-rvas
push_section_fields-requires-clause-rvas c =
    let P : ℕ → Type 0 = λ k. k < length c.args.rvas.now in
    subst (All P) (sym c.deref.ensures.value) (all_here P c.args.sections.now c.loop-section.section-index c.section-item.result (omega arith) c.section-item.is c.requires.rvas)

pub push_section_fields-requires-clause-fixes : goal.push_section_fields-requires-clause-fixes
push_section_fields-requires-clause-fixes c =
    let P : ℕ → Type 0 = λ k. k < length c.args.fixes.now in
    subst (All P) (sym c.deref.ensures.value) (all_here P c.args.sections.now c.loop-section.section-index c.section-item.result (omega arith) c.section-item.is c.requires.fixes)

pub push_section_fields-requires-clause-fit : goal.push_section_fields-requires-clause-fit
push_section_fields-requires-clause-fit c =
    let P : ℕ → Type 0 = Fits c.args.rvas.now c.args.fixes.now in
    subst (All P) (sym c.deref.ensures.value) (all_here P c.args.sections.now c.loop-section.section-index c.section-item.result (omega arith) c.section-item.is c.requires.fit)

pub loop-section-preserved : goal.loop-section-preserved
loop-section-preserved c =
    all_more c.args.rvas.now c.args.fixes.now c.args.sections.now c.loop-section.section-index c.section-item.result c.loop-section.fields.items c.push_section_fields.new.fields.items (omega arith) c.section-item.is c.loop-section.invariant
    (c.in_ok-push_section_fields.ensures ∙ ap (λ (ks : List ℕ). c.loop-section.fields.items ++ section_fields c.args.rvas.now c.args.fixes.now ks) c.deref.ensures.value)
