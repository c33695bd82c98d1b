-- What a map lists of pieces does not depend on their bytes.
use Rattle.std.proofs.Common.{◌≡◌, ℕ, cond, ltb, List, [], ◌∷◌, length, map, get_or, Option, Some, None, refl, ap, ◌∙◌}
use Rattle.std.specs.Prelude.{codes}
use Rattle.std.specs.List.{filter_map}
use Rattle.std.proofs.Math.ListN.{get_or-map}
use Rattle.std.proofs.lemmas.List.{length-map}
use Rattle.link_base.specs.NameText.{same_name}
use Rattle.section_group.specs.declared.piece.Piece.{Piece}
use Rattle.section_group.specs.BarePieces.{bare}
use Rattle.section_group.specs.SectionOrder.{no_piece}
use Rattle.section_group.specs.Uniqueness.{SectionRow}
use Rattle.sorted_lists.specs.Order.{in_order}
use Rattle.debug_rows.specs.declared.piece_rows.PieceKey.{PieceKey}
use Rattle.debug_rows.specs.MapPieces.{key_of, key_at, section_keys, piece_keys, key_cmp, map_piece, row_of, map_pieces_of}

filtered_same : {X Y : Type 0} (f g : X → Option Y) → ((x : X) → f x ≡ g x) → (xs : List X) → filter_map f xs ≡ filter_map g xs
filtered_same f g same [] = refl
filtered_same f g same (x ∷ xs) = rw (same x, filtered_same f g same xs) refl

key_bare : (pieces : List Piece) (rvas : List ℕ) (k : ℕ) → key_at (map bare pieces) rvas k ≡ key_at pieces rvas k
key_bare pieces rvas k =
    ap (λ (n : ℕ). cond (ltb k n) (Some (key_of (get_or (map bare pieces) k no_piece) (get_or rvas k 0) k)) None) (length-map pieces bare)
    ∙ ap (λ (piece : Piece). cond (ltb k (length pieces)) (Some (key_of piece (get_or rvas k 0) k)) None) (get_or-map bare pieces k no_piece)

section_bare : (pieces : List Piece) (rvas : List ℕ) (section : SectionRow) → section_keys (map bare pieces) rvas section ≡ section_keys pieces rvas section
unfolding section_keys
section_bare pieces rvas section =
    ap (λ (keys : List PieceKey). cond (same_name section.name (codes ".reloc")) [] keys)
    (filtered_same (key_at (map bare pieces) rvas) (key_at pieces rvas) (key_bare pieces rvas) section.pieces)

keys_bare : (pieces : List Piece) (rvas : List ℕ) (sections : List SectionRow) → piece_keys (map bare pieces) rvas sections ≡ piece_keys pieces rvas sections
keys_bare pieces rvas [] = refl
keys_bare pieces rvas (section ∷ sections) = rw (section_bare pieces rvas section, keys_bare pieces rvas sections) refl

rows_bare : (pieces : List Piece) (keys : List PieceKey) → map (row_of (map bare pieces)) keys ≡ map (row_of pieces) keys
rows_bare pieces [] = refl
rows_bare pieces (key ∷ keys) =
    ap (λ (piece : Piece). map_piece piece key.rva ∷ map (row_of (map bare pieces)) keys) (get_or-map bare pieces key.index no_piece)
    ∙ ap (λ rows. row_of pieces key ∷ rows) (rows_bare pieces keys)

pub pieces_bare : (pieces : List Piece) (rvas : List ℕ) (sections : List SectionRow) → map_pieces_of (map bare pieces) rvas sections ≡ map_pieces_of pieces rvas sections
pieces_bare pieces rvas sections =
    ap (λ (keys : List PieceKey). map (row_of (map bare pieces)) (in_order key_cmp keys)) (keys_bare pieces rvas sections)
    ∙ rows_bare pieces (in_order key_cmp (piece_keys pieces rvas sections))
