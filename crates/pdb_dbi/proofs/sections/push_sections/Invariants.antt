use Rattle.std.proofs.Common.{◌≡◌, ◌++◌}
use Rattle.std.specs.List.{flat_map, range_with_len}
use Rattle.pdb_dbi.specs.SectionMap.{section_descriptor}
use Rattle.pdb_dbi.proofs.sections.push_sections.Given as goal

abbrev pub invariant-loop-index : goal.invariant-loop-index
invariant-loop-index l = l.out.items ≡ l.initial.out.items ++ flat_map (section_descriptor l.headers) (range_with_len 0 l.index)
