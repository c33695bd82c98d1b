-- Pieces without their bytes, which decide no section and no place (own).
use Rattle.std.specs.Prelude.{None}
use Rattle.section_group.specs.declared.piece.Piece.{Piece}

-- a piece with no body
abbrev pub bare : Piece → Piece
bare piece = record piece { body = None }
