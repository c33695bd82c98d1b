use Rattle.std.proofs.Common.{◌≡◌, []}
use Rattle.export_tables.specs.ExportTable.{targets_in}
use Rattle.export_tables.proofs.targets.no_targets.Given as goal

abbrev pub invariant-loop : goal.invariant-loop
invariant-loop l = l.targets.items ≡ targets_in l.rows l.base l.counter []
