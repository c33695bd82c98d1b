-- The jumps and the local slots: how they grow, what they are, and that they are aligned.
use Rattle.std.proofs.Common.{◌≡◌, ℕ, ◌+◌, ◌<◌, List, ◌∷◌, [], ◌++◌, length, map, inl, inr, refl, sym, ap, subst, ◌∙◌, append_assoc, arith}
use Rattle.std.specs.List.{All, range_with_len}
use Rattle.std.proofs.lemmas.List.Elements.{All-append}
use Rattle.std.proofs.lemmas.List.FromFn.{length-map-range_with_len, get_or-map-range_with_len, map-range_with_len_more}
use Rattle.link_base.proofs.RangeLemmas.{all_kept}
use Rattle.section_group.specs.declared.piece.Piece.{Piece}
use Rattle.address_layout.specs.Layout.{IsAlignment}
use Rattle.module_view.specs.Module.{ModuleView}
use Rattle.link_pieces.specs.LinkParts.{LinkParts}
use Rattle.synthetic_sections.specs.LinkerPieces.{thunk_piece, slot_piece}
use Rattle.link_imports.specs.ImportPieces.{has_thunk, thunk_pieces}
use Rattle.link_pieces.specs.LocalSlots.{slot_names}
use Rattle.link_pieces.specs.LinkerPieces.{slots_below, linker_pieces, IsLinkerPiece}

-- one item more, made of its number
pub made_more : {X : Type 0} (f : ℕ → X) (k : ℕ) (old now after : List X) → now ≡ old ++ map f (range_with_len 0 k) → after ≡ now ++ f k ∷ [] → after ≡ old ++ map f (range_with_len 0 (k + 1))
made_more {X} f k old now after is grown =
    grown
    ∙ ap (λ (xs : List X). xs ++ f k ∷ []) is
    ∙ append_assoc old (map f (range_with_len 0 k)) (f k ∷ [])
    ∙ ap (λ (xs : List X). old ++ xs) (sym (map-range_with_len_more f 0 k k (omega arith)))

-- what holds of the item of each number holds of all
pub all_made : {X : Type 0} (P : X → Type 0) (f : ℕ → X) (n : ℕ) → ((k : ℕ) → k < n → P (f k)) → All P (map f (range_with_len 0 n))
all_made P f n each k d lt =
    let below : k < n = omega (arith, lt, length-map-range_with_len f 0 n) in
    subst P (sym (get_or-map-range_with_len f 0 n k k d below (omega arith))) (each k below)

-- ---- what each is

jumps_are : (link : LinkParts) → All (IsLinkerPiece link) (thunk_pieces link.modules)
jumps_are link =
    all_kept (IsLinkerPiece link) (thunk_piece (length link.modules)) (has_thunk link.modules) 0 (length link.modules) (λ import first last kept.
    record { of_linker = refl; numbered = inl (omega arith, omega (arith, last)) })

slots_are : (link : LinkParts) → All (IsLinkerPiece link) (slots_below (length link.modules) (length (slot_names link)))
slots_are link =
    all_made (IsLinkerPiece link) (slot_piece (length link.modules)) (length (slot_names link)) (λ slot lt.
    record { of_linker = refl; numbered = inr (omega arith, omega (arith, lt)) })

pub linker_pieces_are : (link : LinkParts) → All (IsLinkerPiece link) (linker_pieces link)
linker_pieces_are link =
    All-append (IsLinkerPiece link) (thunk_pieces link.modules) (slots_below (length link.modules) (length (slot_names link))) (jumps_are link) (slots_are link)

-- ---- alignments

abbrev HasAlignment : Piece → Type 0
HasAlignment piece = IsAlignment piece.align

jumps_aligned : (modules : List ModuleView) → All HasAlignment (thunk_pieces modules)
jumps_aligned modules =
    all_kept HasAlignment (thunk_piece (length modules)) (has_thunk modules) 0 (length modules) (λ import first last kept.
    record { positive = omega arith; divides = refl })

slots_aligned : (position slots : ℕ) → All HasAlignment (slots_below position slots)
slots_aligned position slots =
    all_made HasAlignment (slot_piece position) slots (λ slot lt. record { positive = omega arith; divides = refl })

pub linker_aligned : (link : LinkParts) → All (λ (piece : Piece). IsAlignment piece.align) (linker_pieces link)
linker_aligned link =
    All-append HasAlignment (thunk_pieces link.modules) (slots_below (length link.modules) (length (slot_names link))) (jumps_aligned link.modules) (slots_aligned (length link.modules) (length (slot_names link)))
