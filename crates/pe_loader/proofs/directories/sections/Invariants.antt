use Rattle.std.proofs.Common.{◌≡◌, map}
use Rattle.std.specs.List.{range_with_len}
use Rattle.pe_loader.specs.Extents.{section_extent}
use Rattle.pe_loader.proofs.directories.sections.Given as goal

abbrev pub invariant-loop-index : goal.invariant-loop-index
invariant-loop-index l = l.found.items ≡ map (section_extent l.image) (range_with_len 0 l.index)
