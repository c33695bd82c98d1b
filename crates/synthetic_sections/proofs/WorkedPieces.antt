-- The definitions on small values.
use Rattle.std.proofs.Common.{◌≡◌, [], ◌∷◌, map, refl}
use Rattle.synthetic_sections.specs.LinkerPieces.{table_pieces, debug_pieces, resource_pieces, thunk_piece, slot_piece}

-- tables of one import by its ordinal, which has neither a hint nor a name
by_ordinal : map (λ piece. piece.number) (table_pieces 3 (40 ∷ 16 ∷ 16 ∷ 0 ∷ 6 ∷ [])) ≡ 0 ∷ 1 ∷ 2 ∷ 4 ∷ []
unfolding table_pieces
by_ordinal = refl

-- no import, no table
without_any : table_pieces 3 (0 ∷ 0 ∷ 0 ∷ 0 ∷ 0 ∷ []) ≡ []
unfolding table_pieces
without_any = refl

-- the flags of code that can be run, and of data that can be read
flags : (thunk_piece 3 1).flags ∷ (slot_piece 3 0).flags ∷ [] ≡ 0x60000020 ∷ 0x40000040 ∷ []
flags = refl

-- the debug directory of data of 30 bytes, and of none
directory : map (λ piece. piece.size) (debug_pieces 3 30) ≡ 28 ∷ 30 ∷ []
unfolding debug_pieces
directory = refl

no_directory : debug_pieces 3 0 ≡ []
unfolding debug_pieces
no_directory = refl

-- the resource tree of 90 bytes, and none
tree : map (λ piece. piece.number ∷ piece.flags ∷ piece.align ∷ piece.size ∷ []) (resource_pieces 3 90) ≡ (8 ∷ 0x40000040 ∷ 4 ∷ 90 ∷ []) ∷ []
unfolding resource_pieces
tree = refl

no_tree : resource_pieces 3 0 ≡ []
unfolding resource_pieces
no_tree = refl
