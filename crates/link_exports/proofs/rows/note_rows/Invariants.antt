use Rattle.std.proofs.Common.{◌≡◌, fold, take}
use Rattle.link_exports.specs.Exports.{with_row}
use Rattle.link_exports.specs.Steps.{AreNoted}
use Rattle.link_exports.proofs.rows.note_rows.Given as goal

abbrev pub invariant-loop-row : goal.invariant-loop-row
invariant-loop-row l = record {
  known : AreNoted l.noted;
  rows : l.noted.rows.items ≡ fold with_row l.fn.noted.rows.items (take l.row-index l.rows);
}
