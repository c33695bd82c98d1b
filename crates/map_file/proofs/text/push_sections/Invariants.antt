use Rattle.std.proofs.Common.{◌≡◌, ◌++◌, take}
use Rattle.map_file.specs.MapText.{section_lines}
use Rattle.map_file.proofs.text.push_sections.Given as goal

abbrev pub invariant-loop-index : goal.invariant-loop-index
invariant-loop-index l = l.out.items ≡ l.initial.out.items ++ section_lines (take l.index l.rows)
