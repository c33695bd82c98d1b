use Rattle.std.proofs.Common.{◌≡◌, ◌+◌, ℕ, ◌<◌, [], ◌∷◌, ◌++◌, cond, List, None, length, get_or, map, filter, refl, sym, subst, ◌∙◌, arith}
use Rattle.std.specs.List.{range_with_len}
use Rattle.std.specs.Option.{IfSome}
use Rattle.std.proofs.lemmas.Bool.{eqb-true}
use Rattle.coff_records.specs.ObjectFile.{section_total}
use Rattle.link_base.proofs.RangeLemmas.{kept_grows}
use Rattle.module_view.specs.ImportModule.{module_definitions}
use Rattle.comdat.specs.Entries.{KeepsEntries}
use Rattle.comdat.specs.Groups.{Named}
use Rattle.comdat.specs.Selection.{goes_by_name, entry_in}
use Rattle.comdat.proofs.RowEndLemmas.{choices_none, no_entries}
use Rattle.comdat.proofs.RowLemmas.{says_at}
use Rattle.comdat.proofs.sections.read_module.Goals as goal

pub returns-then-is_empty : goal.returns-then-is_empty
returns-then-is_empty c = λ names modules named within is zipped kept.
    let view = c.args.«module».now in
    let choices = c.comdat_choices-choices.result.now in
    let none = choices_none view.bytes (module_definitions view) choices c.comdat_choices-choices.ensures.choices (eqb-true (length choices) 0 (sym c.is_empty.ensures ∙ c.if-is_empty.true)) in
    subst (λ (all : List Named). KeepsEntries names modules all c.args.entries.now.items) (no_entries c.args.position view.bytes named none) kept

pub read_section-requires : goal.read_section-requires
read_section-requires c =
    let view = c.args.«module».now in
    let choices = c.comdat_choices-choices.result.now in
    let i = c.loop-index.index in
    let lt : i < section_total view.bytes = omega (arith, c.section_count-index-end.ensures.count) in
    subst (λ (n : ℕ). IfSome (get_or choices i None) (λ said. IfSome said.leader (λ k. k < n))) (sym c.requires) (says_at view.bytes (module_definitions view) choices i c.comdat_choices-choices.ensures.choices lt).leads

pub loop-index-preserved : goal.loop-index-preserved
loop-index-preserved c = λ names modules named within is zipped kept.
    let view = c.args.«module».now in
    let position = c.args.position in
    let i = c.loop-index.index in
    let before = named ++ map (entry_in position view.bytes) (filter (goes_by_name view.bytes) (range_with_len 1 i)) in
    let lt : i < section_total view.bytes = omega (arith, c.section_count-index-end.ensures.count) in
    let says = says_at view.bytes (module_definitions view) c.comdat_choices-choices.result.now i c.comdat_choices-choices.ensures.choices lt in
    let after = c.in_ok-read_section.ensures names modules before view (record { within = within; is = is; first = omega arith; last = omega arith }) says zipped (c.loop-index.invariant names modules named within is zipped kept) in
    subst (λ (all : List Named). KeepsEntries names modules all c.read_section.new.entries.items)
    (kept_grows (entry_in position view.bytes) (goes_by_name view.bytes) 1 i (i + 1) named before (before ++ cond (goes_by_name view.bytes (i + 1)) (entry_in position view.bytes (i + 1) ∷ []) []) (omega arith) refl refl)
    after

pub returns : goal.returns
returns c = λ names modules named within is zipped kept.
    let bytes = c.args.«module».now.bytes in
    let all : c.loop-index.index ≡ section_total bytes = omega (arith, c.section_count-index-end.ensures.count) in
    subst (λ (n : ℕ). KeepsEntries names modules (named ++ map (entry_in c.args.position bytes) (filter (goes_by_name bytes) (range_with_len 1 n))) c.loop-index.entries.items) all
    (c.loop-index.invariant names modules named within is zipped kept)
