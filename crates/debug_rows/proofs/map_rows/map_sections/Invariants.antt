use Rattle.std.proofs.Common.{◌≡◌, take}
use Rattle.section_group.specs.Uniqueness.{rows_of}
use Rattle.debug_rows.specs.MapLists.{map_sections_of}
use Rattle.debug_rows.proofs.map_rows.map_sections.Given as goal

abbrev pub invariant-loop-index : goal.invariant-loop-index
invariant-loop-index l = l.rows.items ≡ map_sections_of l.layout.sections.items (take l.index (rows_of l.sections))
