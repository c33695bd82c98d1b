use Rattle.std.proofs.Common.{◌≡◌, None, map, take}
use Rattle.link_base.specs.Refusals.{first_standing}
use Rattle.link_fields.specs.ExportTargets.{export_target, export_fault}
use Rattle.link_fields.proofs.export_targets.export_targets.Given as goal

abbrev pub invariant-loop-row : goal.invariant-loop-row
invariant-loop-row l = record {
  targets : l.targets.items ≡ map (export_target l.names) (take l.row-index l.rows);
  none : first_standing (map (export_fault l.names) (take l.row-index l.rows)) ≡ None;
}
