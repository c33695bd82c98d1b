use Rattle.std.proofs.Common.{◌≡◌, ◌+◌, ◌<◌, ℕ, false, length, get_or, None}
use Rattle.coff_aux.specs.AuxFaults.{fails_of}
use Rattle.coff_aux.specs.Comdats.{comdat_record_of, section_symbols_of}
use Rattle.coff_aux.specs.Steps.{is_out_of_order}
use Rattle.module_view.specs.Choices.{IsChoiceBy}
use Rattle.module_view.proofs.comdat_choice.choices_in_order.Given as goal

abbrev pub invariant-loop-index : goal.invariant-loop-index
invariant-loop-index l = record {
  count : length l.choices.items ≡ l.index;
  made : (k : ℕ) → k < l.index → IsChoiceBy l.definitions (comdat_record_of l.object (k + 1)) (section_symbols_of l.object (k + 1)).second (get_or l.choices.items k None);
  order : (k : ℕ) → k < l.index → fails_of (is_out_of_order k) (comdat_record_of l.object (k + 1)) ≡ false;
}
