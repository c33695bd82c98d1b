-- The RVAs and the sizes of pieces that may not be there. Own.
use Rattle.std.specs.Prelude.{ℕ, List, slice_index, slice_index_or, Option, Some, None}
use Rattle.section_group.specs.declared.piece.Piece.{Piece}
use Rattle.section_group.specs.SectionOrder.{no_piece}

-- the RVA of a piece, or 0 where there is none
abbrev pub rva_of : List ℕ → Option ℕ → ℕ
rva_of rvas None = 0
rva_of rvas (Some k) = slice_index rvas k

-- the RVA and the size of a piece, where there is one
abbrev pub extent_of : List Piece → List ℕ → Option ℕ → ℕ × ℕ
extent_of pieces rvas None = (0, 0)
extent_of pieces rvas (Some k) = (slice_index rvas k, (slice_index_or pieces k no_piece).size)
