-- The bytes of pieces (own).
use Rattle.std.specs.Prelude.{◌≡◌, ℕ, IsTrue, if◌then◌else◌, List, [], length, slice_index_or, unwrap_or, option_copied}
use Rattle.section_group.specs.declared.piece.Piece.{Piece}
use Rattle.section_group.specs.SectionOrder.{no_piece}

-- the bytes that a piece has in the file: those of an initialised one, where it has any
abbrev pub piece_contents : Piece → List ℕ
piece_contents piece = if piece.init then unwrap_or (option_copied piece.body) [] else []

-- an initialised piece has as many bytes as its size
abbrev pub HasItsBytes : List Piece → ℕ → Type 0
HasItsBytes pieces k =
    IsTrue (slice_index_or pieces k no_piece).init → length (piece_contents (slice_index_or pieces k no_piece)) ≡ (slice_index_or pieces k no_piece).size
