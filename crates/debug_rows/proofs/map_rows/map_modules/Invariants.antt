use Rattle.std.proofs.Common.{◌≡◌, map, take}
use Rattle.debug_rows.specs.MapLists.{map_module}
use Rattle.debug_rows.proofs.map_rows.map_modules.Given as goal

abbrev pub invariant-loop-module : goal.invariant-loop-module
invariant-loop-module l = l.rows.items ≡ map map_module (take l.module-index l.modules)
