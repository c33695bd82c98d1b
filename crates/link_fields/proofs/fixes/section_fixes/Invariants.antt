use Rattle.std.proofs.Common.{◌≡◌, ◌+◌, ◌++◌, length}
use Rattle.coff_records.specs.ObjectFile.{relocation_total}
use Rattle.link_fields.specs.Fixes.{fixes_from, section_fixes}
use Rattle.link_fields.specs.Steps.{HoldsTargets}
use Rattle.link_fields.proofs.fixes.section_fixes.Given as goal

abbrev pub invariant-loop-relocation : goal.invariant-loop-relocation
invariant-loop-relocation l = record {
  can : (goal.iterator-loop-relocation).can_next l.relocation-iterator;
  ends : (goal.iterator-loop-relocation).is_finite l.relocation-iterator;
  count : l.number + length l.relocation-iterator ≡ relocation_total l.object l.section;
  fixes : l.fixes.items ++ fixes_from l.names l.position l.object l.number l.relocation-iterator ≡ section_fixes l.names l.position l.object l.section;
  held : HoldsTargets l.names l.last.position l.last.targets.items;
}
