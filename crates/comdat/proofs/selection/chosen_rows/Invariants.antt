use Rattle.std.proofs.Common.{◌≡◌, map}
use Rattle.std.specs.List.{range_with_len}
use Rattle.comdat.specs.Selection.{chosen_row}
use Rattle.symbol_names.specs.Kept.{row_flags}
use Rattle.comdat.proofs.OpenedLemmas.{told_from}
use Rattle.comdat.proofs.selection.chosen_rows.Given as goal

abbrev pub invariant-loop-position : goal.invariant-loop-position
invariant-loop-position l = record {
  rest : l.rest ≡ told_from l.modules l.position;
  chosen : map row_flags l.chosen.items ≡ map (chosen_row l.modules) (range_with_len 0 l.position);
}
