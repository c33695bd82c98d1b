use Rattle.std.proofs.Common.{◌≡◌, drop}
use Rattle.image_writer.specs.HeaderTable.{base_of_code}
use Rattle.image_writer.proofs.header_sums.code_base.Given as goal

abbrev pub invariant-loop-row : goal.invariant-loop-row
invariant-loop-row l = base_of_code (drop l.row-index l.rows) ≡ base_of_code l.rows
