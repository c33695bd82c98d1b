use Rattle.std.proofs.Common.{◌+◌, List, ◌∷◌, [], length, Option, subst, sym, ap, ◌∙◌, length-append, arith}
use Rattle.coff_aux.specs.Comdats.{SectionSymbols, comdat_record_of, section_symbols_of}
use Rattle.coff_aux.proofs.CallerLemmas.{noted_count, noted_there}
use Rattle.module_view.specs.declared.comdat_choice.ComdatChoice.{ComdatChoice}
use Rattle.module_view.specs.Choices.{IsChoiceBy}
use Rattle.module_view.proofs.ChoiceLemmas.{choices_more, some_made, none_made}
use Rattle.module_view.proofs.comdat_choice.choices_of.Goals.{in-Some, in-None}
use Rattle.module_view.proofs.comdat_choice.choices_of.Goals as goal

pub bounds-symbols-index : goal.bounds-symbols-index
bounds-symbols-index c =
    omega (arith, noted_count c.args.object.now c.args.symbols.now c.requires.noted, c.section_count-index-end.ensures, c.loop-index-test.true)

pub comdat_record-requires-clause-symbol : goal.comdat_record-requires-clause-symbol
comdat_record-requires-clause-symbol c =
    ap (λ (noted : SectionSymbols). noted.first)
    (noted_there c.args.object.now c.args.symbols.now c.requires.noted c.loop-index.index _ (omega (arith, c.section_count-index-end.ensures, c.loop-index-test.true)))

pub loop-index-preserved : goal.loop-index-preserved
loop-index-preserved c =
    let bytes = c.args.object.now in
    let definitions = c.args.definitions.now in
    let i = c.loop-index.index in
    let choices = c.loop-index.choices.items in
    let choice = c.match-comdat_record.choice in
    let grown = c.in_ok-push.ensures.items in
    let noted = noted_there bytes c.args.symbols.now c.requires.noted i _ (omega (arith, c.section_count-index-end.ensures, c.loop-index-test.true)) in
    let second = (section_symbols_of bytes (i + 1)).second in
    let last : IsChoiceBy definitions (comdat_record_of bytes (i + 1)) second choice = elim c.match-comdat_record.branch [
      | in-Some w ↦ subst (IsChoiceBy definitions (comdat_record_of bytes (i + 1)) second) (sym w.choice-is)
          (some_made definitions _ w.in-Some.said _ second w.choice_of.result (sym c.comdat_record.ensures ∙ w.in-Some.is) (ap (λ (s : SectionSymbols). s.second) noted) w.choice_of.ensures)
      | in-None w ↦ subst (IsChoiceBy definitions (comdat_record_of bytes (i + 1)) second) (sym w.choice-is) (none_made definitions _ second (sym c.comdat_record.ensures ∙ w.in-None.is))
    ] in
    record {
      count = omega (arith, ap (λ (xs : List (Option ComdatChoice)). length xs) grown, length-append choices (choice ∷ []), c.loop-index.invariant.count);
      made = choices_more (λ k. IsChoiceBy definitions (comdat_record_of bytes (k + 1)) (section_symbols_of bytes (k + 1)).second) choices _ choice i c.loop-index.invariant.count grown c.loop-index.invariant.made last;
    }
