use Rattle.std.proofs.Common.{◌≡◌, fold, map, take}
use Rattle.std.specs.Prelude.{filter_map}
use Rattle.directives.specs.Said.{said}
use Rattle.link_exports.specs.Exports.{export_said, with_row}
use Rattle.link_exports.specs.Steps.{AreNoted}
use Rattle.link_exports.proofs.rows.note_directives.Given as goal

abbrev pub invariant-loop-directive : goal.invariant-loop-directive
invariant-loop-directive l = record {
  known : AreNoted l.noted;
  rows : l.noted.rows.items ≡ fold with_row l.fn.noted.rows.items (filter_map export_said (map said (take l.directive-index l.directives)));
}
