use Rattle.std.proofs.Common.{refl}
use Rattle.link_pieces.proofs.commons.common_piece.Goals as goal

pub returns-clause-piece : goal.returns-clause-piece
returns-clause-piece c = λ modules asked. rw (c.of.ensures, c.raised.ensures modules asked, c.common_alignment.ensures) refl
