use Rattle.std.proofs.Common.{◌≡◌, ◌++◌, map, take}
use Rattle.icf.specs.Fields.{field_in}
use Rattle.icf.proofs.fields.add_fields.Given as goal

abbrev pub invariant-loop-fix : goal.invariant-loop-fix
invariant-loop-fix l = l.fields.items ≡ l.initial.fields.items ++ map (field_in l.owners l.rank) (take l.fix-index l.fixes)
