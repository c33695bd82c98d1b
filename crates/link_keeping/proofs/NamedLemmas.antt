-- Pieces that are named are what they were besides.
use Rattle.std.proofs.Common.{◌≡◌, ℕ, ◌<◌, Bool, true, false, List, [], length, map, get_or, sym, ap, subst, ◌∙◌, arith}
use Rattle.std.specs.List.{All, range_with_len}
use Rattle.std.proofs.Math.ListN.{get_or-map}
use Rattle.std.proofs.lemmas.List.{get_or_default, length-map, ext_get_or}
use Rattle.std.proofs.lemmas.List.FromFn.{get_or-map-range_with_len, length-map-range_with_len}
use Rattle.address_layout.specs.Layout.{IsAlignment}
use Rattle.section_group.specs.declared.piece.Piece.{Piece}
use Rattle.section_group.specs.SectionOrder.{no_piece}
use Rattle.section_group.specs.PieceContents.{piece_contents, HasItsBytes}
use Rattle.link_keeping.specs.Named.{named_if}

named_at : List Piece → List Bool → ℕ → Piece
named_at old meant k = named_if (get_or meant k false) (get_or old k no_piece)

abbrev pub AreNamed : List Piece → List Bool → List Piece → Type 0
AreNamed old meant now = now ≡ map (λ k. named_if (get_or meant k false) (get_or old k no_piece)) (range_with_len 0 (length old))

pub count_named : (old : List Piece) (meant : List Bool) (now : List Piece) → AreNamed old meant now → length now ≡ length old
unfolding named_at
count_named old meant now is =
    ap (λ (ps : List Piece). length ps) is ∙ length-map-range_with_len (named_at old meant) 0 (length old)

piece_named : (old : List Piece) (meant : List Bool) (now : List Piece) (k : ℕ) → AreNamed old meant now → k < length old → get_or now k no_piece ≡ named_if (get_or meant k false) (get_or old k no_piece)
unfolding named_at
piece_named old meant now k is lt =
    ap (λ (ps : List Piece). get_or ps k no_piece) is ∙ get_or-map-range_with_len (named_at old meant) 0 (length old) k k no_piece lt (omega arith)

pub contents_named : (old : List Piece) (meant : List Bool) (now : List Piece) → AreNamed old meant now → map piece_contents now ≡ map piece_contents old
contents_named old meant now is =
    let count = count_named old meant now is in
    ext_get_or [] (map piece_contents now) (map piece_contents old) (length-map now piece_contents ∙ count ∙ sym (length-map old piece_contents)) (λ k lt.
    let within : k < length old = omega (arith, length-map now piece_contents, count) in
    get_or-map piece_contents now k no_piece
    ∙ ap piece_contents (piece_named old meant now k is within)
    ∙ sym (get_or-map piece_contents old k no_piece))

pub aligned_named : (old : List Piece) (meant : List Bool) (now : List Piece) → AreNamed old meant now → All (λ piece. IsAlignment piece.align) old → All (λ piece. IsAlignment piece.align) now
aligned_named old meant now is aligned = λ k d lt.
    let count = count_named old meant now is in
    let within : k < length old = omega arith in
    let here : get_or now k d ≡ named_if (get_or meant k false) (get_or old k no_piece) = get_or_default now k d no_piece lt ∙ piece_named old meant now k is within in
    subst (λ (piece : Piece). IsAlignment piece.align) (sym here) (aligned k no_piece within)

pub bodies_named : (old : List Piece) (meant : List Bool) (now : List Piece) → AreNamed old meant now → ((k : ℕ) → k < length old → HasItsBytes old k) → (k : ℕ) → k < length now → HasItsBytes now k
bodies_named old meant now is bodies k lt =
    let same = count_named old meant now is in
    let within : k < length old = omega arith in
    subst (λ (piece : Piece). piece.init ≡ true → length (piece_contents piece) ≡ piece.size) (sym (piece_named old meant now k is within))
    (bodies k within)
