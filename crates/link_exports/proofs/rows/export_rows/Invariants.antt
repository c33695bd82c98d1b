use Rattle.std.proofs.Common.{◌≡◌, [], fold, take}
use Rattle.link_exports.specs.Exports.{all_exports, with_row}
use Rattle.link_exports.specs.Steps.{AreNoted}
use Rattle.link_exports.proofs.rows.export_rows.Given as goal

abbrev pub invariant-loop-module : goal.invariant-loop-module
invariant-loop-module l = record {
  known : AreNoted l.noted;
  rows : l.noted.rows.items ≡ fold with_row [] (all_exports l.options.exports.items (take l.module-index l.modules));
}
