use Rattle.std.proofs.Common.{◌≡◌, ◌+◌, ◌++◌, drop, map}
use Rattle.section_group.specs.PieceContents.{piece_contents}
use Rattle.image_writer.specs.RawData.{section_bytes}
use Rattle.image_writer.specs.RawData.{laid, Ascend}
use Rattle.image_writer.proofs.raw_data.push_section.Given as goal

abbrev pub invariant-loop-index : goal.invariant-loop-index
invariant-loop-index l =
    (l.out.items ++ laid (section_bytes l.rvas (map piece_contents l.pieces) (drop l.index-index l.section.pieces.items)) (l.placed.rva + l.placed.raw) l.place
    ≡ l.initial.out.items ++ laid (section_bytes l.rvas (map piece_contents l.pieces) l.section.pieces.items) (l.placed.rva + l.placed.raw) l.placed.rva)
    × Ascend (section_bytes l.rvas (map piece_contents l.pieces) (drop l.index-index l.section.pieces.items)) (l.placed.rva + l.placed.raw) l.place
