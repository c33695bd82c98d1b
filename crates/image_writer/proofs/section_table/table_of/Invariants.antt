use Rattle.std.proofs.Common.{◌≡◌, ◌++◌, drop}
use Rattle.section_group.specs.Uniqueness.{rows_of}
use Rattle.image_writer.specs.WrittenImage.{section_rows}
use Rattle.image_writer.proofs.section_table.table_of.Given as goal

abbrev pub invariant-loop-i : goal.invariant-loop-i
invariant-loop-i l =
    l.rows.items ++ section_rows (drop l.i (rows_of l.sections)) (drop l.i l.placed) ≡ section_rows (rows_of l.sections) l.placed
