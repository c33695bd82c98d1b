-- One piece more in a file, and the end of a list.
use Rattle.std.proofs.Common.{◌≡◌, ℕ, zero, suc, ◌+◌, ◌<◌, ◌≤◌, List, [], ◌∷◌, length, take, drop, get_or, refl, sym, ap, ◌∙◌, arith}
use Rattle.std.proofs.lemmas.List.{at_drop_more}
use Rattle.section_group.specs.declared.piece.Piece.{Piece}
use Rattle.address_layout.specs.declared.layout.Layout.{Layout}
use Rattle.image_writer.specs.PieceInFile.{piece_place, patched}
use Rattle.piece_bytes.specs.PieceBytes.{size_at, written}

pub drop_end : (xs : List ℕ) (i : ℕ) → length xs ≤ i → drop i xs ≡ []
drop_end [] zero le = refl
drop_end [] (suc i) le = refl
drop_end (x ∷ xs) zero le = absurd (omega (arith, le))
drop_end (x ∷ xs) (suc i) le = drop_end xs i (omega (arith, le))

-- one piece more is written
pub one_written : (layout : Layout) (pieces : List Piece) (i : ℕ) (members rest later part file next : List ℕ) (j n : ℕ) → j < length members → n ≡ size_at pieces (get_or members j 0) → part ≡ take n rest → later ≡ drop n rest → next ≡ patched (piece_place layout i (get_or members j 0)) part file → written layout pieces i (drop (j + 1) members) later next ≡ written layout pieces i (drop j members) rest file
unfolding written
one_written layout pieces i members rest later part file next j n lt size is_part is_later is_next =
    let k = get_or members j 0 in
    ap (λ (bytes : List ℕ). written layout pieces i (drop (j + 1) members) bytes next) (is_later ∙ ap (λ (m : ℕ). drop m rest) size)
    ∙ ap (written layout pieces i (drop (j + 1) members) (drop (size_at pieces k) rest)) (is_next ∙ ap (λ (bytes : List ℕ). patched (piece_place layout i k) bytes file) (is_part ∙ ap (λ (m : ℕ). take m rest) size))
    ∙ sym (at_drop_more (λ (ms : List ℕ). written layout pieces i ms rest file) members j 0 lt)
