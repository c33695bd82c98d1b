use Rattle.std.proofs.Common.{◌≡◌, ◌++◌, take}
use Rattle.map_file.specs.MapText.{module_lines}
use Rattle.map_file.proofs.text.push_modules.Given as goal

abbrev pub invariant-loop-position : goal.invariant-loop-position
invariant-loop-position l = l.out.items ≡ l.initial.out.items ++ module_lines (take l.position l.rows)
