use Rattle.link_pieces.proofs.IndexLemmas.{AreNumbers}
use Rattle.link_pieces.proofs.piece_index.import_numbers.Given as goal

abbrev pub invariant-loop-position : goal.invariant-loop-position
invariant-loop-position l = AreNumbers l.modules l.pieces l.position l.numbers.items
