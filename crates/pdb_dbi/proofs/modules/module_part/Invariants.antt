use Rattle.std.proofs.Common.{◌≡◌, take}
use Rattle.pdb_dbi.specs.ModuleInfo.{module_part}
use Rattle.pdb_dbi.proofs.modules.module_part.Given as goal

abbrev pub invariant-loop-position : goal.invariant-loop-position
invariant-loop-position l = l.out.items ≡ module_part l.list (take l.position l.modules)
