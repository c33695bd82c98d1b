use Rattle.link_pieces.specs.Rows.{common_places, HasStarts}
use Rattle.link_pieces.proofs.piece_index.common_rows.Given as goal

abbrev pub invariant-loop-module : goal.invariant-loop-module
invariant-loop-module l = HasStarts common_places l.modules l.module-index l.starts.items l.end
