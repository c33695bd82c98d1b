use Rattle.std.proofs.Common.{◌≡◌, ◌≤◌, length}
use Rattle.std.specs.List.{All}
use Rattle.link_imports.specs.Imports.{rows_below}
use Rattle.link_imports.specs.Steps.{CanBeTold}
use Rattle.link_imports.proofs.imports.import_rows.Given as goal

abbrev pub invariant-loop-position : goal.invariant-loop-position
invariant-loop-position l = record {
  rows : l.rows.items ≡ rows_below l.modules l.kept l.position;
  few : length l.rows.items ≤ l.position;
  told : All CanBeTold l.rows.items;
}
