use Rattle.std.proofs.Common.{◌≡◌, true}
use Rattle.link_base.specs.Bytes.{all_below}
use Rattle.pe_loader.specs.LoadedImage.{section_floor, is_section_placed}
use Rattle.pe_loader.proofs.file_judging.has_sections.Given as goal

-- the sections so far are placed, and the last of them ends at the floor
abbrev pub invariant-loop-index : goal.invariant-loop-index
invariant-loop-index l = (l.floor ≡ section_floor l.image l.index) × (all_below l.index (is_section_placed l.image) ≡ true)
