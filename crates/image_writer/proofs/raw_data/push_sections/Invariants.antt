use Rattle.std.proofs.Common.{◌≡◌, ◌++◌, drop, map}
use Rattle.section_group.specs.Uniqueness.{rows_of}
use Rattle.section_group.specs.PieceContents.{piece_contents}
use Rattle.image_writer.specs.RawData.{laid_all}
use Rattle.image_writer.proofs.raw_data.push_sections.Given as goal

abbrev pub invariant-loop-i : goal.invariant-loop-i
invariant-loop-i l =
    l.out.items ++ laid_all l.layout.pieces.items (map piece_contents l.pieces) (drop l.i (rows_of l.sections)) (drop l.i l.layout.sections.items)
    ≡ l.initial.out.items ++ laid_all l.layout.pieces.items (map piece_contents l.pieces) (rows_of l.sections) l.layout.sections.items
