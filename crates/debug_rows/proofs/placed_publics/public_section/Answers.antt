use Rattle.std.proofs.Common.{ℕ, true, false, List, length, sym, ap, ◌∙◌}
use Rattle.std.proofs.lemmas.Bool.{ltb-true}
use Rattle.link_base.specs.NameText.{same_name}
use Rattle.section_group.specs.Uniqueness.{rows_of}
use Rattle.debug_rows.proofs.SectionLemmas.{owner_read, listed_by}
use Rattle.debug_rows.proofs.placed_publics.public_section.Goals as goal

pub returns-then-eq : goal.returns-then-eq
returns-then-eq c =
    let sections = c.args.sections.now in
    let section = c.in_ok-section.section.now in
    let found = c.in_ok-section.ensures.lookup in
    let owned = owner_read c.args.owner.now c.args.public.now.piece c.in_ok-index.field-0.now (length (rows_of sections)) c.in_ok-index.ensures.lookup.0 c.in_ok-index.ensures.lookup.1 in
    let named = ap (λ (name : List ℕ). same_name section.name name) (sym c.of.ensures) ∙ sym c.eq.ensures ∙ c.if-eq.true in
    record { section = sym (listed_by c.args.owner.now sections c.args.public.now c.in_ok-index.field-0.now section true (ltb-true c.in_ok-index.field-0.now (length sections) (sym found.0)) found.1 owned named) }

pub returns : goal.returns
returns c =
    let sections = c.args.sections.now in
    let section = c.in_ok-section.section.now in
    let found = c.in_ok-section.ensures.lookup in
    let owned = owner_read c.args.owner.now c.args.public.now.piece c.in_ok-index.field-0.now (length (rows_of sections)) c.in_ok-index.ensures.lookup.0 c.in_ok-index.ensures.lookup.1 in
    let named = ap (λ (name : List ℕ). same_name section.name name) (sym c.of.ensures) ∙ sym c.eq.ensures ∙ c.if-eq.false in
    record { section = sym (listed_by c.args.owner.now sections c.args.public.now c.in_ok-index.field-0.now section false (ltb-true c.in_ok-index.field-0.now (length sections) (sym found.0)) found.1 owned named) }
