use Rattle.std.proofs.Common.{◌≡◌, ◌-◌, ◌∷◌, ℕ, false, List, None, length, map, refl, subst, sym, ap, ◌∙◌, arith}
use Rattle.std.specs.Prelude.{replicate, true}
use Rattle.std.specs.List.{range_with_len}
use Rattle.std.proofs.lemmas.Bool.{eqb-true, eqb-false}
use Rattle.link_base.specs.Bytes.{first_below}
use Rattle.coff_aux.specs.Comdats.{parents_of}
use Rattle.module_view.specs.ImportModule.{module_definitions}
use Rattle.coff_aux.specs.Parents.{AreParents, comes_back}
use Rattle.comdat.specs.ChosenBy.{by_choices}
use Rattle.comdat.specs.Chains.{at_chain_end}
use Rattle.comdat.proofs.OpenedLemmas.{ends, parents_are, flags_at_ends}
use Rattle.comdat.proofs.OrderLemmas.{if_some}
use Rattle.comdat.proofs.RowEndLemmas.{choices_none, choices_all, group_total, parents_of_choices, all_chosen}
use Rattle.comdat.proofs.selection.chosen_row.Goals as goal

pub returns-then-is_empty : goal.returns-then-is_empty
returns-then-is_empty c = λ chosen later is.
    let bytes = c.args.«module».now.bytes in
    let choices = c.comdat_choices-choices.result.now in
    let none = choices_none bytes (module_definitions c.args.«module».now) choices c.comdat_choices-choices.ensures.choices (eqb-true (length choices) 0 (sym c.is_empty.ensures ∙ c.if-is_empty.true)) in
    all_chosen bytes c.section_count-count.result (replicate c.section_count-count.result true) c.args.selected.now chosen later none c.section_count-count.ensures.count refl is

pub flags_in_order-requires : goal.flags_in_order-requires
flags_in_order-requires c =
    let bytes = c.args.«module».now.bytes in
    let choices = c.comdat_choices-choices.result.now in
    let all = choices_all bytes (module_definitions c.args.«module».now) choices c.comdat_choices-choices.ensures.choices (eqb-false (length choices) 0 (sym c.is_empty.ensures ∙ c.if-is_empty.false)) in
    omega (arith, c.requires, group_total bytes (by_choices choices) all)

pub own_flags-requires : goal.own_flags-requires
own_flags-requires c =
    let bytes = c.args.«module».now.bytes in
    let choices = c.comdat_choices-choices.result.now in
    let all = choices_all bytes (module_definitions c.args.«module».now) choices c.comdat_choices-choices.ensures.choices (eqb-false (length choices) 0 (sym c.is_empty.ensures ∙ c.if-is_empty.false)) in
    omega (arith, c.requires, group_total bytes (by_choices choices) all)

pub returns-in-Some : goal.returns-in-Some
returns-in-Some c = λ chosen later is.
    let bytes = c.args.«module».now.bytes in
    let choices = c.comdat_choices-choices.result.now in
    let all = choices_all bytes (module_definitions c.args.«module».now) choices c.comdat_choices-choices.ensures.choices (eqb-false (length choices) 0 (sym c.is_empty.ensures ∙ c.if-is_empty.false)) in
    if_some _ c.in-Some.is c.in_ok-in_order.ensures bytes chosen later all (ends bytes c.section_count-count.ensures.opened) is

pub follow_chains-requires-clause-parents : goal.follow_chains-requires-clause-parents
follow_chains-requires-clause-parents c =
    let bytes = c.args.«module».now.bytes in
    let choices = c.comdat_choices-choices.result.now in
    let all = choices_all bytes (module_definitions c.args.«module».now) choices c.comdat_choices-choices.ensures.choices (eqb-false (length choices) 0 (sym c.is_empty.ensures ∙ c.if-is_empty.false)) in
    subst AreParents (sym (c.deref.ensures.value ∙ c.in_ok-parents.ensures ∙ parents_of_choices bytes choices all)) (parents_are bytes)

pub follow_chains-requires-clause-ends : goal.follow_chains-requires-clause-ends
follow_chains-requires-clause-ends c =
    let bytes = c.args.«module».now.bytes in
    let choices = c.comdat_choices-choices.result.now in
    let all = choices_all bytes (module_definitions c.args.«module».now) choices c.comdat_choices-choices.ensures.choices (eqb-false (length choices) 0 (sym c.is_empty.ensures ∙ c.if-is_empty.false)) in
    subst (λ (parents : List ℕ). first_below (length parents) (comes_back parents) ≡ None) (sym (c.deref.ensures.value ∙ c.in_ok-parents.ensures ∙ parents_of_choices bytes choices all)) (ends bytes c.section_count-count.ensures.opened)

pub returns : goal.returns
returns c = λ chosen later is.
    let bytes = c.args.«module».now.bytes in
    let choices = c.comdat_choices-choices.result.now in
    let all = choices_all bytes (module_definitions c.args.«module».now) choices c.comdat_choices-choices.ensures.choices (eqb-false (length choices) 0 (sym c.is_empty.ensures ∙ c.if-is_empty.false)) in
    let told = c.in_ok-own.ensures.flags bytes chosen later all is in
    let parents = c.deref.ensures.value ∙ c.in_ok-parents.ensures ∙ parents_of_choices bytes choices all in
    let own = c.deref-2.result.now in (
      c.in_ok-flags.ensures
          ∙ ap (λ (ps : List ℕ). map (at_chain_end ps (false ∷ own)) (range_with_len 1 (length ps - 1))) parents
          ∙ flags_at_ends bytes chosen own (length (parents_of bytes) - 1) c.section_count-count.ensures.opened (c.deref-2.ensures.value ∙ told.0) refl,
      told.1,
    )
