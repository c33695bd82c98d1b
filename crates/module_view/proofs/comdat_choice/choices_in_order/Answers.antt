use Rattle.std.proofs.Common.{◌≡◌, ◌+◌, false, List, ◌∷◌, [], length, Option, None, Some, sym, ap, ◌∙◌, length-append, arith}
use Rattle.std.proofs.Common.{Vec, Global}
use Rattle.coff_aux.specs.AuxFaults.{fails_of}
use Rattle.coff_aux.specs.Comdats.{SectionSymbols, comdat_record_of, section_symbols_of}
use Rattle.coff_aux.specs.Steps.{is_out_of_order}
use Rattle.coff_aux.specs.declared.comdat.ComdatRecord.{ComdatRecord}
use Rattle.coff_aux.proofs.CallerLemmas.{noted_count, noted_there}
use Rattle.module_view.specs.declared.comdat_choice.ComdatChoice.{ComdatChoice}
use Rattle.module_view.specs.Choices.{IsChoiceBy}
use Rattle.module_view.proofs.ChoiceLemmas.{all_more, choices_more, some_made, none_made}
use Rattle.module_view.proofs.comdat_choice.choices_in_order.Goals.{in-Some+else-is_out_of_order+in_ok-push-in-Some, in-None+in_ok-push-in-None}
use Rattle.module_view.proofs.comdat_choice.choices_in_order.Goals as goal

pub bounds-symbols-index : goal.bounds-symbols-index
bounds-symbols-index c =
    omega (arith, noted_count c.args.object.now c.args.symbols.now c.requires.noted, c.section_count-index-end.ensures, c.loop-index-test.true)

pub comdat_record-requires-clause-symbol : goal.comdat_record-requires-clause-symbol
comdat_record-requires-clause-symbol c =
    ap (λ (noted : SectionSymbols). noted.first)
    (noted_there c.args.object.now c.args.symbols.now c.requires.noted c.loop-index.index _ (omega (arith, c.section_count-index-end.ensures, c.loop-index-test.true)))

pub loop-index-preserved : goal.loop-index-preserved
loop-index-preserved c =
    let bytes = c.args.object.now in
    let definitions = c.args.definitions.now in
    let i = c.loop-index.index in
    let choices = c.loop-index.choices.items in
    let before = c.loop-index.invariant in
    let noted = noted_there bytes c.args.symbols.now c.requires.noted i _ (omega (arith, c.section_count-index-end.ensures, c.loop-index-test.true)) in
    let second = (section_symbols_of bytes (i + 1)).second in
    let items = λ (v : Vec (Option ComdatChoice) Global). v.items in
    let fails = λ (said : Option ComdatRecord). fails_of (is_out_of_order i) said in
    elim c.match-comdat_record.branch [
      | in-Some+else-is_out_of_order+in_ok-push-in-Some w ↦
          let choice : Option ComdatChoice = Some w.choice_of-choice.result in
          let grown = ap items w.choices-is ∙ w.in_ok-push-in-Some.ensures.items in
          let there = sym c.comdat_record.ensures ∙ w.in-Some.is in
          record {
            count = omega (arith, ap (λ (xs : List (Option ComdatChoice)). length xs) grown, length-append choices (choice ∷ []), before.count);
            made = choices_more (λ k. IsChoiceBy definitions (comdat_record_of bytes (k + 1)) (section_symbols_of bytes (k + 1)).second) choices _ choice i before.count grown before.made
                (some_made definitions _ w.in-Some.said _ second w.choice_of-choice.result there (ap (λ (s : SectionSymbols). s.second) noted) w.choice_of-choice.ensures);
            order = all_more (λ k. fails_of (is_out_of_order k) (comdat_record_of bytes (k + 1)) ≡ false) i before.order
                (ap fails there ∙ sym w.is_out_of_order.ensures ∙ w.if-is_out_of_order.false);
          }
      | in-None+in_ok-push-in-None w ↦
          let choice : Option ComdatChoice = None in
          let grown = ap items w.choices-is ∙ w.in_ok-push-in-None.ensures.items in
          let there = sym c.comdat_record.ensures ∙ w.in-None.is in
          record {
            count = omega (arith, ap (λ (xs : List (Option ComdatChoice)). length xs) grown, length-append choices (choice ∷ []), before.count);
            made = choices_more (λ k. IsChoiceBy definitions (comdat_record_of bytes (k + 1)) (section_symbols_of bytes (k + 1)).second) choices _ choice i before.count grown before.made
                (none_made definitions _ second there);
            order = all_more (λ k. fails_of (is_out_of_order k) (comdat_record_of bytes (k + 1)) ≡ false) i before.order (ap fails there);
          }
    ]
