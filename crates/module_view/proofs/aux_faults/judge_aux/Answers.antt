use Rattle.std.proofs.Common.{Vec, Global, Option, subst, sym, ap, ◌∙◌, arith}
use Rattle.std.specs.Prelude.{option_map, IfSome}
use Rattle.coff_object.proofs.CallerLemmas.{records_fit, headers_fit}
use Rattle.module_view.specs.declared.error.ModuleError.{ModuleError}
use Rattle.module_view.specs.declared.error.ModuleError.TheVariants as error
use Rattle.coff_aux.specs.AuxFaults.{aux_fault}
use Rattle.coff_aux.specs.Steps.{StandInOrder}
use Rattle.module_view.specs.declared.comdat_choice.ComdatChoice.{ComdatChoice}
use Rattle.module_view.specs.Opening.{RefusesToOpen}
use Rattle.coff_aux.proofs.CallerLemmas.{weak_stands, no_comdat_fault, fault_by_records, in_order_fault}
use Rattle.module_view.specs.SymbolLists.{definitions_of}
use Rattle.module_view.specs.Choices.{AscendBySymbol, AreChoicesBy}
use Rattle.module_view.proofs.DefinitionLemmas.{definitions_ascend}
use Rattle.module_view.proofs.ChoiceLemmas.{none_kept, all_kept}
use Rattle.module_view.proofs.aux_faults.judge_aux.Goals as goal

pub returns-in-Some-clause-refused : goal.returns-in-Some-clause-refused
returns-in-Some-clause-refused c =
    subst (λ (e : ModuleError). RefusesToOpen (option_map error.Object (aux_fault c.args.object.now)) e) (sym c.aux_error.ensures)
    (ap (option_map error.Object) (weak_stands c.args.object.now c.in-Some.index (sym c.in-Some.ensures)))

pub returns-then-not-any_comdat-clause-comdats : goal.returns-then-not-any_comdat-clause-comdats
returns-then-not-any_comdat-clause-comdats c =
    none_kept c.args.object.now (definitions_of c.args.object.now) c.new.result.items (sym c.requires.comdat ∙ c.if-not-any_comdat.true) c.new.ensures.items

pub returns-then-not-any_comdat-clause-accepted : goal.returns-then-not-any_comdat-clause-accepted
returns-then-not-any_comdat-clause-accepted c =
    no_comdat_fault c.args.object.now (sym c.requires.comdat ∙ c.if-not-any_comdat.true) (sym c.in_default.ensures)

pub section_symbols-requires : goal.section_symbols-requires
section_symbols-requires c =
    omega (arith, records_fit c.args.object.now c.requires.sound, c.requires.short)

pub choices_in_order-requires-clause-order : goal.choices_in_order-requires-clause-order
choices_in_order-requires-clause-order c =
    subst AscendBySymbol (sym (c.deref-4.ensures.value ∙ c.requires.definitions)) (definitions_ascend c.args.object.now)

pub returns-in-Some-2-clause-comdats : goal.returns-in-Some-2-clause-comdats
returns-in-Some-2-clause-comdats c =
    let made = subst (λ (found : Option (Vec (Option ComdatChoice) Global)). IfSome found (λ choices. AreChoicesBy c.args.object.now c.deref-4.result.now choices.items)) c.in-Some-2.is c.in_ok-choices.ensures.choices in
    all_kept c.args.object.now c.in-Some-2.choices.items c.deref-4.result.now (sym c.requires.comdat ∙ c.if-not-any_comdat.false) (c.deref-4.ensures.value ∙ c.requires.definitions) made

pub returns-in-Some-2-clause-accepted : goal.returns-in-Some-2-clause-accepted
returns-in-Some-2-clause-accepted c =
    let ordered = subst (λ (found : Option (Vec (Option ComdatChoice) Global)). IfSome found (λ _. StandInOrder c.args.object.now)) c.in-Some-2.is c.in_ok-choices.ensures.order in
    in_order_fault c.args.object.now ordered (sym c.in_default.ensures)

pub comdat_fault-requires-clause-few : goal.comdat_fault-requires-clause-few
comdat_fault-requires-clause-few c =
    omega (arith, records_fit c.args.object.now c.requires.sound, headers_fit c.args.object.now c.requires.sound, c.requires.short)

pub returns-in-Some-3-clause-refused : goal.returns-in-Some-3-clause-refused
returns-in-Some-3-clause-refused c =
    ap (option_map error.Object) (fault_by_records c.args.object.now (sym c.in_default.ensures) ∙ sym c.in_ok-error.ensures ∙ c.in-Some-3.is)

pub choices_of-requires-clause-order : goal.choices_of-requires-clause-order
choices_of-requires-clause-order c =
    subst AscendBySymbol (sym (c.deref-in-None-2.ensures.value ∙ c.requires.definitions)) (definitions_ascend c.args.object.now)

pub returns-clause-comdats : goal.returns-clause-comdats
returns-clause-comdats c =
    all_kept c.args.object.now c.in_ok-choices-in-None.choices.items c.deref-in-None-2.result.now (sym c.requires.comdat ∙ c.if-not-any_comdat.false) (c.deref-in-None-2.ensures.value ∙ c.requires.definitions) c.in_ok-choices-in-None.ensures

pub returns-clause-accepted : goal.returns-clause-accepted
returns-clause-accepted c =
    fault_by_records c.args.object.now (sym c.in_default.ensures) ∙ sym c.in_ok-error.ensures ∙ c.in-None.is
