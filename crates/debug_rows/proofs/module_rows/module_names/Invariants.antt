use Rattle.std.proofs.Common.{◌≡◌, map, take}
use Rattle.debug_rows.specs.ModuleNames.{module_name}
use Rattle.debug_rows.proofs.module_rows.module_names.Given as goal

abbrev pub invariant-loop-module : goal.invariant-loop-module
invariant-loop-module l = l.names.items ≡ map module_name (take l.module-index l.modules)
