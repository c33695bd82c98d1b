-- Each byte of a piece is the one that the pieces put at its address.
use Rattle.std.proofs.Common.{◌≡◌, ℕ, zero, suc, ◌+◌, ◌-◌, ◌<◌, ◌≤◌, ◌⊎◌, Bool, true, false, cond, eqb, List, [], ◌∷◌, ◌++◌, length, get_or, refl, sym, ap, ◌∙◌, subst, inl, inr, eq-eqb, le-leb, lt-ltb, arith}
use Rattle.std.proofs.Math.Nat.{add-sub_cancel_left}
use Rattle.std.proofs.lemmas.Bool.{and_from, cond-true, eqb-true, false≢true}
use Rattle.section_group.specs.Uniqueness.{SectionRow as OutRow}
use Rattle.address_layout.specs.declared.layout.Placed.{Placed}
use Rattle.address_layout.specs.Layout.{placed_at}
use Rattle.image_writer.specs.ExpectedImage.{PlacedBytes, holds, piece_byte}
use Rattle.image_writer.specs.RawData.{piece_bytes, section_bytes, all_bytes, next_place, Ascend}
use Rattle.image_writer.specs.PieceInFile.{DiffersAt}
use Rattle.image_writer.proofs.RawLemmas.{Lie, ascend_lie, front_passed, passed}
use Rattle.image_writer.proofs.ChainLemmas.{AreWritten}

abbrev pub pieces_of : List OutRow → ℕ → List ℕ
pieces_of rows i = (get_or rows i (record { name = []; flags = 0; pieces = [] })).pieces

-- ---- a section

lie_at : (rvas : List ℕ) (contents : List (List ℕ)) (low high : ℕ) (indexes : List ℕ) (j : ℕ) → Lie low high (section_bytes rvas contents indexes) → j < length indexes → 0 < length (get_or contents (get_or indexes j 0) []) → (low ≤ get_or rvas (get_or indexes j 0) 0) × (get_or rvas (get_or indexes j 0) 0 + length (get_or contents (get_or indexes j 0) []) ≤ high)
unfolding Lie
lie_at rvas contents low high [] j lie lt some = absurd (omega arith)
lie_at rvas contents low high (k ∷ ks) zero lie lt some = lie.0 some
lie_at rvas contents low high (k ∷ ks) (suc j) lie lt some = lie_at rvas contents low high ks j lie.1 (omega arith) some

next_is : (bytes : List ℕ) (rva place : ℕ) → 0 < length bytes → next_place bytes rva place ≡ rva + length bytes
next_is [] rva place some = absurd (omega arith)
next_is (b ∷ bs) rva place some = refl

section_owner : (rvas : List ℕ) (contents : List (List ℕ)) (indexes : List ℕ) (rest : List PlacedBytes) (end place j t : ℕ) → Ascend (section_bytes rvas contents indexes) end place → j < length indexes → t < length (get_or contents (get_or indexes j 0) []) → piece_byte (section_bytes rvas contents indexes ++ rest) (get_or rvas (get_or indexes j 0) 0 + t) ≡ get_or (get_or contents (get_or indexes j 0) []) t 0
unfolding Ascend
section_owner rvas contents [] rest end place j t up lt inside = absurd (omega arith)
section_owner rvas contents (k ∷ ks) rest end place zero t up lt inside =
    let rva = get_or rvas k 0 in
    let bytes = get_or contents k [] in
    cond-true (holds (piece_bytes rvas contents k) (rva + t)) (get_or bytes (rva + t - rva) 0) _ (and_from _ _ (le-leb rva (rva + t) (omega arith)) (lt-ltb (rva + t) (rva + length bytes) (omega (arith, inside))))
    ∙ ap (λ (n : ℕ). get_or bytes n 0) (add-sub_cancel_left rva t)
section_owner rvas contents (k ∷ ks) rest end place (suc j) t up lt inside =
    let bytes = get_or contents k [] in
    let rva = get_or rvas k 0 in
    let next = next_place bytes rva place in
    let later = lie_at rvas contents next end ks j (ascend_lie (section_bytes rvas contents ks) end next up.1) (omega arith) (omega (arith, inside)) in
    passed (piece_bytes rvas contents k) (section_bytes rvas contents ks ++ rest) (get_or rvas (get_or ks j 0) 0 + t) (λ some. inr (omega (arith, next_is bytes rva place some, later.0)))
    ∙ section_owner rvas contents ks rest end next j t up.1 (omega arith) inside

-- ---- all sections

-- a piece with bytes lies in its section's raw data and in its size
pub record LiesIn (rvas : List ℕ) (contents : List (List ℕ)) (k : ℕ) (place : Placed) : Type 0 where
  pub above : place.rva ≤ get_or rvas k 0
  pub in_raw : get_or rvas k 0 + length (get_or contents k []) ≤ place.rva + place.raw
  pub in_size : get_or rvas k 0 + length (get_or contents k []) ≤ place.rva + place.size

pub lies_in : (rvas : List ℕ) (contents : List (List ℕ)) (image : ℕ) (rows : List OutRow) (placed : List Placed) (start file i j : ℕ) → AreWritten rvas contents image rows placed start file → i < length rows → j < length (pieces_of rows i) → 0 < length (get_or contents (get_or (pieces_of rows i) j 0) []) → LiesIn rvas contents (get_or (pieces_of rows i) j 0) (placed_at placed i)
unfolding AreWritten
lies_in rvas contents image [] placed start file i j are lt below some = absurd (omega arith)
lies_in rvas contents image (row ∷ rows) [] start file i j are lt below some = absurd are
lies_in rvas contents image (row ∷ rows) (place ∷ placed) start file zero j are lt below some =
    let raw = lie_at rvas contents place.rva (place.rva + place.raw) row.pieces j (ascend_lie (section_bytes rvas contents row.pieces) (place.rva + place.raw) place.rva are.0.ascending) below some in
    let size = lie_at rvas contents place.rva (place.rva + place.size) row.pieces j are.0.lying below some in
    record { above = size.0; in_raw = raw.1; in_size = size.1 }
lies_in rvas contents image (row ∷ rows) (place ∷ placed) start file (suc i) j are lt below some =
    lies_in rvas contents image rows placed (place.rva + place.size) (file + place.raw) i j are.1 (omega arith) below some

-- and above the end before
pub low_in : (rvas : List ℕ) (contents : List (List ℕ)) (image : ℕ) (rows : List OutRow) (placed : List Placed) (start file i j : ℕ) → AreWritten rvas contents image rows placed start file → i < length rows → j < length (pieces_of rows i) → 0 < length (get_or contents (get_or (pieces_of rows i) j 0) []) → start ≤ get_or rvas (get_or (pieces_of rows i) j 0) 0
unfolding AreWritten
low_in rvas contents image [] placed start file i j are lt below some = absurd (omega arith)
low_in rvas contents image (row ∷ rows) [] start file i j are lt below some = absurd are
low_in rvas contents image (row ∷ rows) (place ∷ placed) start file zero j are lt below some =
    let size = lie_at rvas contents place.rva (place.rva + place.size) row.pieces j are.0.lying below some in
    omega (arith, size.0, are.0.above)
low_in rvas contents image (row ∷ rows) (place ∷ placed) start file (suc i) j are lt below some =
    let later = low_in rvas contents image rows placed (place.rva + place.size) (file + place.raw) i j are.1 (omega arith) below some in
    omega (arith, later, are.0.above)

-- each byte of a piece stands at its address
pub owner : (rvas : List ℕ) (contents : List (List ℕ)) (image : ℕ) (rows : List OutRow) (placed : List Placed) (start file i j t : ℕ) → AreWritten rvas contents image rows placed start file → i < length rows → j < length (pieces_of rows i) → t < length (get_or contents (get_or (pieces_of rows i) j 0) []) → piece_byte (all_bytes rvas contents rows) (get_or rvas (get_or (pieces_of rows i) j 0) 0 + t) ≡ get_or (get_or contents (get_or (pieces_of rows i) j 0) []) t 0
unfolding AreWritten
owner rvas contents image [] placed start file i j t are lt below inside = absurd (omega arith)
owner rvas contents image (row ∷ rows) [] start file i j t are lt below inside = absurd are
owner rvas contents image (row ∷ rows) (place ∷ placed) start file zero j t are lt below inside =
    section_owner rvas contents row.pieces (all_bytes rvas contents rows) (place.rva + place.raw) place.rva j t are.0.ascending below inside
owner rvas contents image (row ∷ rows) (place ∷ placed) start file (suc i) j t are lt below inside =
    let k = get_or (pieces_of rows i) j 0 in
    let next = place.rva + place.size in
    let low = low_in rvas contents image rows placed next (file + place.raw) i j are.1 (omega arith) below (omega (arith, inside)) in
    front_passed place.rva next (get_or rvas k 0 + t) (section_bytes rvas contents row.pieces) (all_bytes rvas contents rows) are.0.lying (inr (omega (arith, low)))
    ∙ owner rvas contents image rows placed next (file + place.raw) i j t are.1 (omega arith) below inside

-- ---- other contents at one piece

-- an address is none of a piece's
abbrev pub IsApart : List ℕ → List (List ℕ) → ℕ → ℕ → Type 0
IsApart rvas contents k rva = (rva < get_or rvas k 0) ⊎ (get_or rvas k 0 + length (get_or contents k []) ≤ rva)

one_changed : (rvas : List ℕ) (old new : List (List ℕ)) (k m : ℕ) (xs ys : List PlacedBytes) (rva : ℕ) → DiffersAt k old new → IsApart rvas old k rva → piece_byte xs rva ≡ piece_byte ys rva → piece_byte (piece_bytes rvas new m ∷ xs) rva ≡ piece_byte (piece_bytes rvas old m ∷ ys) rva
one_changed rvas old new k m xs ys rva differs out same = go (eqb m k) refl
  where
    behind : (a b c d : ℕ) → a + b ≤ d → c ≡ b → a + c ≤ d
    behind a b c d le e = omega arith

    elsewhere : m ≡ k → (rva < get_or rvas m 0) ⊎ (get_or rvas m 0 + length (get_or old m []) ≤ rva)
    elsewhere e = subst (λ (n : ℕ). IsApart rvas old n rva) (sym e) out

    moved : m ≡ k → (rva < get_or rvas m 0) ⊎ (get_or rvas m 0 + length (get_or new m []) ≤ rva)
    moved e =
        let len : length (get_or new m []) ≡ length (get_or old m []) = subst (λ (n : ℕ). length (get_or new n []) ≡ length (get_or old n [])) (sym e) differs.same_length in
        elim (elsewhere e) [ inl before ↦ inl before | inr after ↦ inr (behind (get_or rvas m 0) (length (get_or old m [])) (length (get_or new m [])) rva after len) ]

    go : (b : Bool) → eqb m k ≡ b → piece_byte (piece_bytes rvas new m ∷ xs) rva ≡ piece_byte (piece_bytes rvas old m ∷ ys) rva
    go true e =
        passed (piece_bytes rvas new m) xs rva (λ some. moved (eqb-true m k e))
        ∙ same
        ∙ sym (passed (piece_bytes rvas old m) ys rva (λ some. elsewhere (eqb-true m k e)))
    go false e =
        ap (λ (bytes : List ℕ). piece_byte (record { rva = get_or rvas m 0; bytes = bytes } ∷ xs) rva) (differs.others m (λ is. false≢true (sym e ∙ eq-eqb m k is)))
        ∙ ap (λ (n : ℕ). cond (holds (piece_bytes rvas old m) rva) (get_or (get_or old m []) (rva - get_or rvas m 0) 0) n) same

section_changed : (rvas : List ℕ) (old new : List (List ℕ)) (k : ℕ) (indexes : List ℕ) (xs ys : List PlacedBytes) (rva : ℕ) → DiffersAt k old new → IsApart rvas old k rva → piece_byte xs rva ≡ piece_byte ys rva → piece_byte (section_bytes rvas new indexes ++ xs) rva ≡ piece_byte (section_bytes rvas old indexes ++ ys) rva
section_changed rvas old new k [] xs ys rva differs out same = same
section_changed rvas old new k (m ∷ ms) xs ys rva differs out same =
    one_changed rvas old new k m (section_bytes rvas new ms ++ xs) (section_bytes rvas old ms ++ ys) rva differs out (section_changed rvas old new k ms xs ys rva differs out same)

-- outside the piece nothing changes
pub all_changed : (rvas : List ℕ) (old new : List (List ℕ)) (k : ℕ) (rows : List OutRow) (rva : ℕ) → DiffersAt k old new → IsApart rvas old k rva → piece_byte (all_bytes rvas new rows) rva ≡ piece_byte (all_bytes rvas old rows) rva
all_changed rvas old new k [] rva differs out = refl
all_changed rvas old new k (row ∷ rows) rva differs out =
    section_changed rvas old new k row.pieces (all_bytes rvas new rows) (all_bytes rvas old rows) rva differs out (all_changed rvas old new k rows rva differs out)
