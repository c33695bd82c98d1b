use Rattle.std.proofs.Common.{◌≡◌}
use Rattle.address_layout.specs.Places.{file_before}
use Rattle.address_layout.specs.Layout.{placed_at}
use Rattle.image_writer.proofs.writing.file_len.Given as goal

abbrev pub invariant-loop-placed : goal.invariant-loop-placed
invariant-loop-placed l = l.len ≡ file_before l.layout.headers (placed_at l.layout.sections.items) l.placed-index
