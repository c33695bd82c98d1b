-- The places that are computed are the least ones.
use Rattle.std.proofs.Common.{◌≡◌, ◌⊎◌, ℕ, zero, suc, ◌+◌, ◌-◌, ◌*◌, ◌/◌, ◌%◌, ◌<◌, ◌≤◌, Bool, true, false, ◌||◌, cond, eqb, ltb, List, length, IsTrue, refl, sym, ap, ◌∙◌, subst, inl, inr, arith}
use Rattle.std.specs.List.{All}
use Rattle.std.proofs.lemmas.Bool.{cases_lt, ltb-false, lt-ltb, or_right, or_parts}
use Rattle.std.proofs.lemmas.Option.{slice_get_cases}
use Rattle.std.proofs.Math.Nat.{mul-mod_right, mul_assoc, le_of_eq, add-sub_of_le}
use Rattle.section_group.specs.declared.piece.Piece.{Piece}
use Rattle.section_group.specs.declared.piece.OutSection.{OutSection}
use Rattle.address_layout.specs.declared.layout.Placed.{Placed}
use Rattle.address_layout.specs.Places.{IsLeastMultiple, row_at, piece_in, alignment_in, piece_end, piece_floor, IsInitialisedEnd, IsPlacedSection, end_before, file_before, section_count, IsArrangement}
use Rattle.address_layout.specs.Layout.{IsAlignment, StandOnce}
use Rattle.address_layout.specs.Rounded.{rounded, saturated, end_after, place_of, raw_end_after, bytes_before, size_from, raw_from, floor_of, start_of, file_of, placed_from, saturated_placed, placed_of}
use Rattle.address_layout.proofs.RoundLemmas.{rounded_above, rounded_bound, rounded_least, rounded_is}
use Rattle.address_layout.proofs.ExtentLemmas.{is_alignment}
use Rattle.address_layout.proofs.StandingLemmas.{row_here, stands}

-- ---- one section

-- its pieces have alignments
pub record Aligned (pieces : List Piece) (row : List ℕ × List ℕ) : Type 0 where
  pub each : (j : ℕ) → j < length row.1 → IsAlignment (alignment_in pieces row j)

floor_is : (pieces : List Piece) (row : List ℕ × List ℕ) (start j : ℕ) → piece_floor pieces row start (place_of pieces row start) j ≡ end_after pieces row start j
unfolding end_after
floor_is pieces row start zero = refl
floor_is pieces row start (suc j) = refl

place_above : (pieces : List Piece) (row : List ℕ × List ℕ) (start j : ℕ) → Aligned pieces row → j < length row.1 → end_after pieces row start j ≤ place_of pieces row start j
place_above pieces row start j aligned lt = rounded_above (alignment_in pieces row j) (end_after pieces row start j) (aligned.each j lt).positive

end_step : (pieces : List Piece) (row : List ℕ × List ℕ) (start j : ℕ) → end_after pieces row start (suc j) ≡ place_of pieces row start j + (piece_in pieces row j).size
unfolding end_after
end_step pieces row start j = refl

-- the ends do not fall
pub end_grows : (pieces : List Piece) (row : List ℕ × List ℕ) (start i j : ℕ) → Aligned pieces row → i ≤ j → j ≤ length row.1 → end_after pieces row start i ≤ end_after pieces row start j
end_grows pieces row start i zero aligned le within = let same : i ≡ zero = omega arith in le_of_eq (ap (end_after pieces row start) same)
end_grows pieces row start i (suc j) aligned le within =
    elim (cases_lt j i) [
      | inl above ↦ let same : i ≡ suc j = omega arith in let e = ap (end_after pieces row start) same in omega arith
      | inr below ↦
          let before = end_grows pieces row start i j aligned below (omega arith) in
          let up = place_above pieces row start j aligned (omega arith) in
          omega (arith, before, up, end_step pieces row start j)
    ]

start_is : (pieces : List Piece) (row : List ℕ × List ℕ) (start : ℕ) → end_after pieces row start 0 ≡ start
unfolding end_after
start_is pieces row start = refl

pub end_above : (pieces : List Piece) (row : List ℕ × List ℕ) (start j : ℕ) → Aligned pieces row → j ≤ length row.1 → start ≤ end_after pieces row start j
end_above pieces row start j aligned within = omega (arith, end_grows pieces row start 0 j aligned (omega arith) within, start_is pieces row start)

bytes_there : (pieces : List Piece) (row : List ℕ × List ℕ) (count j : ℕ) → j < count → 0 < (piece_in pieces row j).size → bytes_before pieces row count ≡ true
unfolding bytes_before
bytes_there pieces row zero j lt some = absurd (omega arith)
bytes_there pieces row (suc count) j lt some =
    elim (cases_lt j count) [
      | inl below ↦ ap (λ (b : Bool). b || ltb 0 (piece_in pieces row count).size) (bytes_there pieces row count j below some)
      | inr last ↦
          let same : j ≡ count = omega arith in
          or_right (bytes_before pieces row count) (ltb 0 (piece_in pieces row count).size) (lt-ltb 0 (piece_in pieces row count).size (subst (λ (n : ℕ). 0 < (piece_in pieces row n).size) same some))
    ]

bytes_none : (pieces : List Piece) (row : List ℕ × List ℕ) (count : ℕ) → ((j : ℕ) → j < count → (piece_in pieces row j).size ≡ 0) → bytes_before pieces row count ≡ false
unfolding bytes_before
bytes_none pieces row zero none = refl
bytes_none pieces row (suc count) none =
    ap (λ (b : Bool). b || ltb 0 (piece_in pieces row count).size) (bytes_none pieces row count (λ j lt. none j (omega arith)))
    ∙ ap (ltb 0) (none count (omega arith))

-- ---- the last initialised piece

InitialisedUpTo : List Piece → List ℕ × List ℕ → ℕ → ℕ → ℕ → Type 0
InitialisedUpTo pieces row start count end =
    (((j : ℕ) → j < count → (piece_in pieces row j).init ≡ false) × (end ≡ start))
    ⊎ ((last : ℕ) × (last < count) × IsTrue (piece_in pieces row last).init
    × ((j : ℕ) → last < j → j < count → (piece_in pieces row j).init ≡ false)
    × (end ≡ piece_end pieces row (place_of pieces row start) last))

initialised_up_to : (pieces : List Piece) (row : List ℕ × List ℕ) (start count : ℕ) → InitialisedUpTo pieces row start count (raw_end_after pieces row start count)
unfolding InitialisedUpTo raw_end_after end_after
initialised_up_to pieces row start zero = inl (λ j lt. absurd (omega arith), refl)
initialised_up_to pieces row start (suc count) = go (piece_in pieces row count).init refl (initialised_up_to pieces row start count)
  where
    go : (b : Bool) → (piece_in pieces row count).init ≡ b → InitialisedUpTo pieces row start count (raw_end_after pieces row start count) → InitialisedUpTo pieces row start (suc count) (cond b (end_after pieces row start (suc count)) (raw_end_after pieces row start count))
    go true e before = inr (count, omega arith, e, λ j above below. absurd (omega arith), refl)
    go false e (inl none) =
        inl (
          λ j lt. elim (cases_lt j count) [
            | inl below ↦ none.0 j below
            | inr last ↦ let same : j ≡ count = omega arith in ap (λ (n : ℕ). (piece_in pieces row n).init) same ∙ e
          ],
          none.1,
        )
    go false e (inr last) =
        inr (
          last.0,
          omega (arith, last.1),
          last.2,
          λ j above lt. elim (cases_lt j count) [
            | inl below ↦ last.3 j above below
            | inr here ↦ let same : j ≡ count = omega arith in ap (λ (n : ℕ). (piece_in pieces row n).init) same ∙ e
          ],
          last.4,
        )

initialised_end_is : (pieces : List Piece) (row : List ℕ × List ℕ) (start : ℕ) → IsInitialisedEnd pieces row start (place_of pieces row start) (raw_end_after pieces row start (length row.1))
unfolding InitialisedUpTo
initialised_end_is pieces row start = initialised_up_to pieces row start (length row.1)

-- ---- a section at its place

pub placed_section : (pieces : List Piece) (row : List ℕ × List ℕ) (before file : ℕ) → Aligned pieces row → IsPlacedSection pieces row before file (placed_from pieces row (rounded 4096 before) file) (place_of pieces row (rounded 4096 before))
placed_section pieces row before file aligned =
    let start = rounded 4096 before in
    let n = length row.1 in
    record {
      start = rounded_is 4096 before (omega arith);
      each = λ j lt. subst (λ (low : ℕ). IsLeastMultiple (alignment_in pieces row j) low (place_of pieces row start j)) (sym (floor_is pieces row start j)) (rounded_is (alignment_in pieces row j) (end_after pieces row start j) (aligned.each j lt).positive);
      size_of_bytes = λ some.
          let there = bytes_there pieces row n some.0 some.1 some.2 in
          let above = end_above pieces row start n aligned (omega arith) in
          ap (λ (b : Bool). start + cond b (end_after pieces row start n - start) 1) there ∙ add-sub_of_le above ∙ sym (floor_is pieces row start n);
      size_of_none = λ none. ap (λ (b : Bool). cond b (end_after pieces row start n - start) 1) (bytes_none pieces row n none);
      initialised_end = raw_end_after pieces row start n;
      is_initialised_end = initialised_end_is pieces row start;
      raw = rounded_is 512 (raw_end_after pieces row start n - start) (omega arith);
      file = refl;
    }

-- ---- all sections

pub aligned_rows : (pieces : List Piece) (sections : List OutSection) (i : ℕ) → All (λ piece. IsAlignment piece.align) pieces → StandOnce pieces sections → i < length sections → Aligned pieces (row_at sections i)
aligned_rows pieces sections i aligned standing lt =
    elim (slice_get_cases sections i).1 [
      | inl there ↦
          let here = row_here sections i there.0 lt (sym there.3) in
          let within = (stands pieces sections i there.0 standing lt (sym there.3)).within in
          let within' = subst (λ (row : List ℕ × List ℕ). All (λ k. k < length pieces) row.1) (sym here) within in
          record { each = λ j below. is_alignment pieces (row_at sections i) j aligned within' below }
      | inr past ↦ absurd (omega (arith, past.0))
    ]

floor_step : (pieces : List Piece) (sections : List OutSection) (headers i : ℕ) → floor_of pieces sections headers (suc i) ≡ start_of pieces sections headers i + size_from pieces (row_at sections i) (start_of pieces sections headers i)
unfolding floor_of
floor_step pieces sections headers i = refl

file_step : (pieces : List Piece) (sections : List OutSection) (headers i : ℕ) → file_of pieces sections headers (suc i) ≡ file_of pieces sections headers i + raw_from pieces (row_at sections i) (start_of pieces sections headers i)
unfolding file_of
file_step pieces sections headers i = refl

floor_zero : (pieces : List Piece) (sections : List OutSection) (headers : ℕ) → floor_of pieces sections headers 0 ≡ headers
unfolding floor_of
floor_zero pieces sections headers = refl

file_zero : (pieces : List Piece) (sections : List OutSection) (headers : ℕ) → file_of pieces sections headers 0 ≡ headers
unfolding file_of
file_zero pieces sections headers = refl

pub whole_arrangement : (pieces : List Piece) (sections : List OutSection) (reloc : Bool) (headers : ℕ) (placed : ℕ → Placed) → All (λ piece. IsAlignment piece.align) pieces → StandOnce pieces sections → headers ≡ rounded 512 (328 + 40 * section_count sections reloc) → ((i : ℕ) → i < length sections → placed i ≡ placed_of pieces sections headers i) → IsArrangement pieces sections reloc headers placed (λ i j. place_of pieces (row_at sections i) (start_of pieces sections headers i) j) (rounded 4096 (floor_of pieces sections headers (length sections)))
whole_arrangement pieces sections reloc headers placed aligned standing is_headers agree = record {
  of_headers = subst (IsLeastMultiple 512 (328 + 40 * section_count sections reloc)) (sym is_headers) (rounded_is 512 (328 + 40 * section_count sections reloc) (omega arith));
  each = λ i lt.
      let base = placed_section pieces (row_at sections i) (floor_of pieces sections headers i) (file_of pieces sections headers i) (aligned_rows pieces sections i aligned standing lt) in
      subst (λ (n : ℕ). IsPlacedSection pieces (row_at sections i) n (file_before headers placed i) (placed i) (λ j. place_of pieces (row_at sections i) (start_of pieces sections headers i) j)) (sym (end_is i (omega arith)))
      (subst (λ (n : ℕ). IsPlacedSection pieces (row_at sections i) (floor_of pieces sections headers i) n (placed i) (λ j. place_of pieces (row_at sections i) (start_of pieces sections headers i) j)) (sym (file_is i (omega arith)))
      (subst (λ (p : Placed). IsPlacedSection pieces (row_at sections i) (floor_of pieces sections headers i) (file_of pieces sections headers i) p (λ j. place_of pieces (row_at sections i) (start_of pieces sections headers i) j)) (sym (agree i lt)) base));
  of_image = subst (λ (n : ℕ). IsLeastMultiple 4096 n (rounded 4096 (floor_of pieces sections headers (length sections)))) (sym (end_is (length sections) (omega arith))) (rounded_is 4096 (floor_of pieces sections headers (length sections)) (omega arith));
}
  where
    end_is : (i : ℕ) → i ≤ length sections → end_before headers placed i ≡ floor_of pieces sections headers i
    end_is zero le = sym (floor_zero pieces sections headers)
    end_is (suc i) le = ap (λ (p : Placed). p.rva + p.size) (agree i (omega arith)) ∙ sym (floor_step pieces sections headers i)

    file_is : (i : ℕ) → i ≤ length sections → file_before headers placed i ≡ file_of pieces sections headers i
    file_is zero le = sym (file_zero pieces sections headers)
    file_is (suc i) le = ap (λ (n : ℕ). n + (placed i).raw) (file_is i (omega arith)) ∙ ap (λ (p : Placed). file_of pieces sections headers i + p.raw) (agree i (omega arith)) ∙ sym (file_step pieces sections headers i)

-- ---- everything fits 32 bits where the image is not too large

divides_more : (a m : ℕ) → 8192 % a ≡ 0 → m % 8192 ≡ 0 → 0 < a → m % a ≡ 0
divides_more a m divides multiple some =
    let q = 8192 / a in
    let p = m / 8192 in
    let eight : a * q ≡ 8192 = omega arith in
    let whole : m ≡ 8192 * p = omega arith in
    let product : m ≡ a * (q * p) = whole ∙ ap (λ (n : ℕ). n * p) (sym eight) ∙ mul_assoc a q p in
    ap (λ (n : ℕ). n % a) product ∙ mul-mod_right a (q * p)

none_reach : (pieces : List Piece) (row : List ℕ × List ℕ) (start count : ℕ) → Aligned pieces row → (pdata : (j : ℕ) → j < length row.1 → 8192 % alignment_in pieces row j ≡ 0) → count ≤ length row.1 → bytes_before pieces row count ≡ false → end_after pieces row start count ≤ rounded 8192 start
unfolding end_after bytes_before
none_reach pieces row start zero aligned divides within none = rounded_above 8192 start (omega arith)
none_reach pieces row start (suc count) aligned divides within none =
    let parts = or_parts (bytes_before pieces row count) (ltb 0 (piece_in pieces row count).size) none in
    let empty : (piece_in pieces row count).size ≤ 0 = ltb-false 0 (piece_in pieces row count).size parts.1 in
    let before = none_reach pieces row start count aligned divides (omega arith) parts.0 in
    let alignment = aligned.each count (omega arith) in
    let multiple = divides_more (alignment_in pieces row count) (rounded 8192 start) (divides count (omega arith)) (rounded_is 8192 start (omega arith)).multiple alignment.positive in
    let up = rounded_least (alignment_in pieces row count) (end_after pieces row start count) (rounded 8192 start) alignment.positive multiple before in
    omega (arith, up, empty)

-- how far the pieces of a section reach
pub reach : (pieces : List Piece) (row : List ℕ × List ℕ) (start : ℕ) → Aligned pieces row → end_after pieces row start (length row.1) ≤ start + size_from pieces row start + 8191
reach pieces row start aligned = go (bytes_before pieces row (length row.1)) refl
  where
    go : (b : Bool) → bytes_before pieces row (length row.1) ≡ b → end_after pieces row start (length row.1) ≤ start + cond (bytes_before pieces row (length row.1)) (end_after pieces row start (length row.1) - start) 1 + 8191
    go true e =
        let size = ap (λ (b : Bool). cond b (end_after pieces row start (length row.1) - start) 1) e in
        omega (arith, size, end_above pieces row start (length row.1) aligned (omega arith))
    go false e =
        let size = ap (λ (b : Bool). cond b (end_after pieces row start (length row.1) - start) 1) e in
        let up = none_reach pieces row start (length row.1) aligned (λ j lt. (aligned.each j lt).divides) (omega arith) e in
        omega (arith, size, up, rounded_bound 8192 start (omega arith))

raw_within : (pieces : List Piece) (row : List ℕ × List ℕ) (start count : ℕ) → Aligned pieces row → count ≤ length row.1 → raw_end_after pieces row start count ≤ end_after pieces row start count
unfolding raw_end_after
raw_within pieces row start zero aligned within = let e = start_is pieces row start in omega arith
raw_within pieces row start (suc count) aligned within = go (piece_in pieces row count).init (raw_within pieces row start count aligned (omega arith))
  where
    go : (b : Bool) → raw_end_after pieces row start count ≤ end_after pieces row start count → cond b (end_after pieces row start (suc count)) (raw_end_after pieces row start count) ≤ end_after pieces row start (suc count)
    go true before = omega arith
    go false before = omega (arith, before, end_grows pieces row start count (suc count) aligned (omega arith) within)

raw_small : (pieces : List Piece) (row : List ℕ × List ℕ) (start : ℕ) → Aligned pieces row → raw_from pieces row start ≤ size_from pieces row start + 8702
raw_small pieces row start aligned =
    let n = length row.1 in
    omega (arith, reach pieces row start aligned, raw_within pieces row start n aligned (omega arith), rounded_bound 512 (raw_end_after pieces row start n - start) (omega arith))

start_above : (pieces : List Piece) (sections : List OutSection) (headers i : ℕ) → floor_of pieces sections headers i ≤ start_of pieces sections headers i
start_above pieces sections headers i = rounded_above 4096 (floor_of pieces sections headers i) (omega arith)

floor_grows : (pieces : List Piece) (sections : List OutSection) (headers i j : ℕ) → i ≤ j → floor_of pieces sections headers i ≤ floor_of pieces sections headers j
floor_grows pieces sections headers i zero le = let same : i ≡ zero = omega arith in let e = ap (floor_of pieces sections headers) same in omega arith
floor_grows pieces sections headers i (suc j) le =
    elim (cases_lt j i) [
      | inl above ↦ let same : i ≡ suc j = omega arith in let e = ap (floor_of pieces sections headers) same in omega arith
      | inr below ↦ omega (arith, floor_grows pieces sections headers i j below, start_above pieces sections headers j, floor_step pieces sections headers j)
    ]

file_small : (pieces : List Piece) (sections : List OutSection) (headers i : ℕ) → ((k : ℕ) → k < length sections → Aligned pieces (row_at sections k)) → i ≤ length sections → file_of pieces sections headers i ≤ floor_of pieces sections headers i + i * 8702
file_small pieces sections headers zero rows le = omega (arith, floor_zero pieces sections headers, file_zero pieces sections headers)
file_small pieces sections headers (suc i) rows le =
    let before = file_small pieces sections headers i rows (omega arith) in
    let raw = raw_small pieces (row_at sections i) (start_of pieces sections headers i) (rows i (omega arith)) in
    omega (arith, before, raw, start_above pieces sections headers i, floor_step pieces sections headers i, file_step pieces sections headers i)

narrow_same : (n : ℕ) → n < 4294967296 → saturated n ≡ n
narrow_same n lt = omega arith

file_narrow : (b : Bool) (n : ℕ) → n < 4294967296 → saturated (cond b 0 n) ≡ cond b 0 n
file_narrow true n lt = refl
file_narrow false n lt = narrow_same n lt

same_placed : (p q : Placed) → p.rva ≡ q.rva → p.size ≡ q.size → p.raw ≡ q.raw → p.file ≡ q.file → p ≡ q
same_placed p q a b c d = λ i. record { rva = a i; size = b i; raw = c i; file = d i }

-- the places of an image that is not too large are as they are computed
pub record Fits (pieces : List Piece) (sections : List OutSection) (headers : ℕ) : Type 0 where
  pub placed : (i : ℕ) → i < length sections → saturated_placed (placed_of pieces sections headers i) ≡ placed_of pieces sections headers i
  pub place : (i j : ℕ) → i < length sections → j < length (row_at sections i).1 → saturated (place_of pieces (row_at sections i) (start_of pieces sections headers i) j) ≡ place_of pieces (row_at sections i) (start_of pieces sections headers i) j

pub fits : (pieces : List Piece) (sections : List OutSection) (headers : ℕ) → All (λ piece. IsAlignment piece.align) pieces → StandOnce pieces sections → length sections ≤ 96 → rounded 4096 (floor_of pieces sections headers (length sections)) ≤ 536870912 → Fits pieces sections headers
fits pieces sections headers aligned standing few small = record {
  placed = λ i lt.
      let start = start_of pieces sections headers i in
      let row = row_at sections i in
      let top = top_of i lt in
      let raw = raw_small pieces row start (rows i lt) in
      let file = file_small pieces sections headers i rows (omega arith) in
      same_placed (saturated_placed (placed_of pieces sections headers i)) (placed_of pieces sections headers i)
      (narrow_same start (omega (arith, top)))
      (narrow_same (size_from pieces row start) (omega (arith, top)))
      (narrow_same (raw_from pieces row start) (omega (arith, top, raw)))
      (file_narrow (eqb (raw_from pieces row start) 0) (file_of pieces sections headers i) (omega (arith, top, file, start_above pieces sections headers i, few, lt)));
  place = λ i j lt below.
      let start = start_of pieces sections headers i in
      let row = row_at sections i in
      let top = top_of i lt in
      let end = end_grows pieces row start (suc j) (length row.1) (rows i lt) (omega arith) (omega arith) in
      narrow_same (place_of pieces row start j) (omega (arith, top, end, end_step pieces row start j, reach pieces row start (rows i lt)));
}
  where
    rows : (i : ℕ) → i < length sections → Aligned pieces (row_at sections i)
    rows i lt = aligned_rows pieces sections i aligned standing lt

    top_of : (i : ℕ) → i < length sections → start_of pieces sections headers i + size_from pieces (row_at sections i) (start_of pieces sections headers i) ≤ 536870912
    top_of i lt =
        omega (arith, floor_step pieces sections headers i, floor_grows pieces sections headers (suc i) (length sections) (omega arith), rounded_above 4096 (floor_of pieces sections headers (length sections)) (omega arith), small)

-- the raw data of a layout lie in a file of less than 4 GiB
pub file_fits : (pieces : List Piece) (sections : List OutSection) (headers : ℕ) (placed : ℕ → Placed) → All (λ piece. IsAlignment piece.align) pieces → StandOnce pieces sections → length sections ≤ 96 → rounded 4096 (floor_of pieces sections headers (length sections)) ≤ 536870912 → ((i : ℕ) → i < length sections → placed i ≡ placed_of pieces sections headers i) → file_before headers placed (length sections) < 4294967296
file_fits pieces sections headers placed aligned standing few small agree =
    let rows = λ (i : ℕ) (lt : i < length sections). aligned_rows pieces sections i aligned standing lt in
    omega (arith, few, small, file_is (length sections) (omega arith), file_small pieces sections headers (length sections) rows (omega arith), rounded_above 4096 (floor_of pieces sections headers (length sections)) (omega arith))
  where
    file_is : (i : ℕ) → i ≤ length sections → file_before headers placed i ≡ file_of pieces sections headers i
    file_is zero le = sym (file_zero pieces sections headers)
    file_is (suc i) le = ap (λ (n : ℕ). n + (placed i).raw) (file_is i (omega arith)) ∙ ap (λ (p : Placed). file_of pieces sections headers i + p.raw) (agree i (omega arith)) ∙ sym (file_step pieces sections headers i)
