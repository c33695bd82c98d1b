use Rattle.std.proofs.Common.{◌≡◌, ◌<◌, ℕ, List, length, get_or, refl, sym, ap, ◌∙◌, arith}
use Rattle.std.proofs.lemmas.List.{length-map}
use Rattle.link_base.specs.Bytes.{first_below}
use Rattle.link_base.specs.NameText.{same_name}
use Rattle.link_base.proofs.CallerLemmas.{first_below-more, first_below-found}
use Rattle.section_group.specs.Uniqueness.{row_of, rows_of}
use Rattle.link_image.specs.NamedSections.{is_named}
use Rattle.link_image.proofs.PdataLemmas.{name_read}
use Rattle.link_image.proofs.tables.section_named.Goals as goal

pub loop-index-init : goal.loop-index-init
unfolding first_below
loop-index-init c = refl

pub returns-then-eq-clause-named : goal.returns-then-eq-clause-named
returns-then-eq-clause-named c =
    let sections = c.args.sections.now in
    let i = c.loop-index.index in
    let count : length (rows_of sections) ≡ length sections = length-map sections row_of in
    let lt : i < length sections = omega arith in
    let tested : is_named (rows_of sections) c.args.name.now i ≡ c.eq.result =
    ap (λ (name : List ℕ). same_name name c.args.name.now) (name_read sections i c.index-sections-index.result lt)
    ∙ ap (same_name (get_or sections i c.index-sections-index.result).name) (sym c.of.ensures)
    ∙ sym c.eq.ensures in
    sym (first_below-found i (length (rows_of sections)) (is_named (rows_of sections) c.args.name.now) (omega (arith, lt, count)) c.loop-index.invariant (tested ∙ c.if-eq.true))

pub loop-index-preserved : goal.loop-index-preserved
loop-index-preserved c =
    let sections = c.args.sections.now in
    let i = c.loop-index.index in
    let lt : i < length sections = omega arith in
    let tested : is_named (rows_of sections) c.args.name.now i ≡ c.eq.result =
    ap (λ (name : List ℕ). same_name name c.args.name.now) (name_read sections i c.index-sections-index.result lt)
    ∙ ap (same_name (get_or sections i c.index-sections-index.result).name) (sym c.of.ensures)
    ∙ sym c.eq.ensures in
    first_below-more i (is_named (rows_of sections) c.args.name.now) c.loop-index.invariant (tested ∙ c.if-eq.false)

pub returns-clause-named : goal.returns-clause-named
returns-clause-named c =
    let sections = c.args.sections.now in
    let ends : length (rows_of sections) ≡ c.loop-index.index = omega (arith, length-map sections row_of) in
    sym (ap (λ (n : ℕ). first_below n (is_named (rows_of sections) c.args.name.now)) ends ∙ c.loop-index.invariant)
