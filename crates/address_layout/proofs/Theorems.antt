-- Two arrangements of the same sections are the same.
use Rattle.std.proofs.Common.{◌≡◌, ◌≢◌, ◌⊎◌, ℕ, zero, suc, ◌+◌, ◌-◌, ◌<◌, ◌≤◌, cond, eqb, Bool, List, [], ◌∷◌, length, get_or, refl, sym, ap, ◌∙◌, subst, inl, inr, arith}
use Rattle.std.specs.List.{Contains}
use Rattle.std.proofs.lemmas.Bool.{cases_lt, true≢false}
use Rattle.std.proofs.lemmas.List.{ext_get_or}
use Rattle.std.proofs.lemmas.List.Elements.{Contains-append_cases}
use Rattle.section_group.specs.declared.piece.Piece.{Piece}
use Rattle.section_group.specs.declared.piece.OutSection.{OutSection}
use Rattle.address_layout.specs.declared.layout.Placed.{Placed}
use Rattle.address_layout.specs.declared.layout.Layout.{Layout}
use Rattle.address_layout.specs.Places.{IsLeastMultiple, row_at, piece_in, alignment_in, piece_end, piece_floor, IsInitialisedEnd, IsPlacedSection, end_before, file_before, IsArrangement}
use Rattle.address_layout.specs.Layout.{all_pieces, placed_at, IsLayout, HasImageSize}
use Rattle.address_layout.specs.Growth.{SameLayout}

-- a least multiple is one
least_same : (step low other x y : ℕ) → low ≡ other → IsLeastMultiple step low x → IsLeastMultiple step other y → x ≡ y
least_same step low other x y same a b =
    let le = a.least y b.multiple (omega (arith, same, b.above)) in
    let ge = b.least x a.multiple (omega (arith, same, a.above)) in
    omega (arith, le, ge)

-- ---- one section

floor_same : (pieces : List Piece) (row : List ℕ × List ℕ) (before before' files files' : ℕ) (placed placed' : Placed) (place place' : ℕ → ℕ) → before ≡ before' → IsPlacedSection pieces row before files placed place → IsPlacedSection pieces row before' files' placed' place' → (j : ℕ) → j ≤ length row.1 → piece_floor pieces row placed.rva place j ≡ piece_floor pieces row placed'.rva place' j
floor_same pieces row before before' files files' placed placed' place place' same a b zero le = least_same 4096 before before' placed.rva placed'.rva same a.start b.start
floor_same pieces row before before' files files' placed placed' place place' same a b (suc j) le =
    let lt : j < length row.1 = omega arith in
    let floor = floor_same pieces row before before' files files' placed placed' place place' same a b j (omega arith) in
    ap (λ (n : ℕ). n + (piece_in pieces row j).size) (least_same (alignment_in pieces row j) _ _ (place j) (place' j) floor (a.each j lt) (b.each j lt))

bytes_or_none : (pieces : List Piece) (row : List ℕ × List ℕ) (n : ℕ) → ((j : ℕ) × (j < n) × (0 < (piece_in pieces row j).size)) ⊎ ((j : ℕ) → j < n → (piece_in pieces row j).size ≡ 0)
bytes_or_none pieces row zero = inr (λ j lt. absurd (omega arith))
bytes_or_none pieces row (suc n) =
    elim (cases_lt 0 (piece_in pieces row n).size) [
      | inl some ↦ inl (n, omega arith, some)
      | inr none ↦ elim (bytes_or_none pieces row n) [
        | inl has ↦ inl (has.0, omega (arith, has.1), has.2)
        | inr empty ↦ inr (λ j lt. elim (cases_lt j n) [
          | inl below ↦ empty j below
          | inr above ↦ let e : j ≡ n = omega arith in subst (λ (k : ℕ). (piece_in pieces row k).size ≡ 0) (sym e) (omega (arith, none))
        ])
      ]
    ]

end_same : (pieces : List Piece) (row : List ℕ × List ℕ) (before before' files files' : ℕ) (placed placed' : Placed) (place place' : ℕ → ℕ) → before ≡ before' → IsPlacedSection pieces row before files placed place → IsPlacedSection pieces row before' files' placed' place' → placed.rva + placed.size ≡ placed'.rva + placed'.size
end_same pieces row before before' files files' placed placed' place place' same a b =
    elim (bytes_or_none pieces row (length row.1)) [
      | inl has ↦ a.size_of_bytes has ∙ floor_same pieces row before before' files files' placed placed' place place' same a b (length row.1) (omega arith) ∙ sym (b.size_of_bytes has)
      | inr none ↦
          let rva = least_same 4096 before before' placed.rva placed'.rva same a.start b.start in
          omega (arith, rva, a.size_of_none none, b.size_of_none none)
    ]

-- ---- all sections

ends_same : (pieces : List Piece) (sections : List OutSection) (reloc : Bool) (headers headers' image image' : ℕ) (placed placed' : ℕ → Placed) (place place' : ℕ → ℕ → ℕ) → IsArrangement pieces sections reloc headers placed place image → IsArrangement pieces sections reloc headers' placed' place' image' → (i : ℕ) → i ≤ length sections → end_before headers placed i ≡ end_before headers' placed' i
ends_same pieces sections reloc headers headers' image image' placed placed' place place' a b zero le = least_same 512 _ _ headers headers' refl a.of_headers b.of_headers
ends_same pieces sections reloc headers headers' image image' placed placed' place place' a b (suc i) le =
    let lt : i < length sections = omega arith in
    end_same pieces (row_at sections i) _ _ _ _ (placed i) (placed' i) (place i) (place' i) (ends_same pieces sections reloc headers headers' image image' placed placed' place place' a b i (omega arith)) (a.each i lt) (b.each i lt)

pub one_image_size : (pieces : List Piece) (sections : List OutSection) (reloc : Bool) (size other : ℕ) → HasImageSize pieces sections reloc size → HasImageSize pieces sections reloc other → size ≡ other
one_image_size pieces sections reloc size other a b =
    least_same 4096 _ _ size other (ends_same pieces sections reloc a.headers b.headers size other a.placed b.placed a.place b.place a.arranged b.arranged (length sections) (omega arith)) a.arranged.of_image b.arranged.of_image

-- ---- the rest of a section

place_same : (pieces : List Piece) (row : List ℕ × List ℕ) (before before' files files' : ℕ) (placed placed' : Placed) (place place' : ℕ → ℕ) → before ≡ before' → IsPlacedSection pieces row before files placed place → IsPlacedSection pieces row before' files' placed' place' → (j : ℕ) → j < length row.1 → place j ≡ place' j
place_same pieces row before before' files files' placed placed' place place' same a b j lt =
    least_same (alignment_in pieces row j) _ _ (place j) (place' j) (floor_same pieces row before before' files files' placed placed' place place' same a b j (omega arith)) (a.each j lt) (b.each j lt)

initialised_same : (pieces : List Piece) (row : List ℕ × List ℕ) (start start' : ℕ) (place place' : ℕ → ℕ) (end end' : ℕ) → start ≡ start' → ((j : ℕ) → j < length row.1 → place j ≡ place' j) → IsInitialisedEnd pieces row start place end → IsInitialisedEnd pieces row start' place' end' → end ≡ end'
initialised_same pieces row start start' place place' end end' same places (inl none) (inl none') = none.1 ∙ same ∙ sym none'.1
initialised_same pieces row start start' place place' end end' same places (inl none) (inr some') = absurd (true≢false (sym some'.2 ∙ none.0 some'.0 some'.1))
initialised_same pieces row start start' place place' end end' same places (inr some) (inl none') = absurd (true≢false (sym some.2 ∙ none'.0 some.0 some.1))
initialised_same pieces row start start' place place' end end' same places (inr some) (inr some') =
    elim (cases_lt some.0 some'.0) [
      | inl lt ↦ absurd (true≢false (sym some'.2 ∙ some.3 some'.0 lt some'.1))
      | inr le ↦ elim (cases_lt some'.0 some.0) [
        | inl lt ↦ absurd (true≢false (sym some.2 ∙ some'.3 some.0 lt some.1))
        | inr ge ↦
            let e : some.0 ≡ some'.0 = omega arith in
            some.4 ∙ ap (λ (n : ℕ). n + (piece_in pieces row some.0).size) (places some.0 some.1) ∙ ap (λ (k : ℕ). piece_end pieces row place' k) e ∙ sym some'.4
      ]
    ]

with_fields : ℕ → ℕ → ℕ → ℕ → Placed
with_fields rva size raw file = record { rva = rva; size = size; raw = raw; file = file }

built : (p q : Placed) → p.rva ≡ q.rva → p.size ≡ q.size → p.raw ≡ q.raw → p.file ≡ q.file → p ≡ q
unfolding with_fields
built p q rva size raw file =
    ap (λ (n : ℕ). with_fields n p.size p.raw p.file) rva ∙ ap (λ (n : ℕ). with_fields q.rva n p.raw p.file) size
    ∙ ap (λ (n : ℕ). with_fields q.rva q.size n p.file) raw ∙ ap (λ (n : ℕ). with_fields q.rva q.size q.raw n) file

section_same : (pieces : List Piece) (row : List ℕ × List ℕ) (before before' files files' : ℕ) (placed placed' : Placed) (place place' : ℕ → ℕ) → before ≡ before' → files ≡ files' → IsPlacedSection pieces row before files placed place → IsPlacedSection pieces row before' files' placed' place' → placed ≡ placed'
section_same pieces row before before' files files' placed placed' place place' same same_files a b =
    let rva = least_same 4096 before before' placed.rva placed'.rva same a.start b.start in
    let ends = end_same pieces row before before' files files' placed placed' place place' same a b in
    let size : placed.size ≡ placed'.size = omega (arith, rva, ends) in
    let places = place_same pieces row before before' files files' placed placed' place place' same a b in
    let initialised = initialised_same pieces row placed.rva placed'.rva place place' a.initialised_end b.initialised_end rva places a.is_initialised_end b.is_initialised_end in
    let raw = least_same 512 _ _ placed.raw placed'.raw (ap (λ (n : ℕ). n - placed.rva) initialised ∙ ap (λ (n : ℕ). b.initialised_end - n) rva) a.raw b.raw in
    let file = a.file ∙ ap (λ (n : ℕ). cond (eqb n 0) 0 files) raw ∙ ap (λ (n : ℕ). cond (eqb placed'.raw 0) 0 n) same_files ∙ sym b.file in
    built placed placed' rva size raw file

files_same : (pieces : List Piece) (sections : List OutSection) (reloc : Bool) (headers headers' image image' : ℕ) (placed placed' : ℕ → Placed) (place place' : ℕ → ℕ → ℕ) → IsArrangement pieces sections reloc headers placed place image → IsArrangement pieces sections reloc headers' placed' place' image' → (i : ℕ) → i ≤ length sections → file_before headers placed i ≡ file_before headers' placed' i
files_same pieces sections reloc headers headers' image image' placed placed' place place' a b zero le = least_same 512 _ _ headers headers' refl a.of_headers b.of_headers
files_same pieces sections reloc headers headers' image image' placed placed' place place' a b (suc i) le =
    let lt : i < length sections = omega arith in
    let before = files_same pieces sections reloc headers headers' image image' placed placed' place place' a b i (omega arith) in
    let ends = ends_same pieces sections reloc headers headers' image image' placed placed' place place' a b i (omega arith) in
    let here = section_same pieces (row_at sections i) _ _ _ _ (placed i) (placed' i) (place i) (place' i) ends before (a.each i lt) (b.each i lt) in
    let raw = ap (λ (p : Placed). p.raw) here in
    omega (arith, before, raw)

-- ---- where a piece stands

in_later : (x : ℕ) (xs : List ℕ) (k : ℕ) → x ≢ k → (Contains xs k → ⊥) → Contains (x ∷ xs) k → ⊥
in_later x xs k differ apart (zero, lt, at) = differ at
in_later x xs k differ apart (suc j, lt, at) = apart (j, omega (arith, lt), at)

in_rest : (x : ℕ) (xs : List ℕ) (k : ℕ) → x ≢ k → ((j : ℕ) × (j < length xs) × (get_or xs j 0 ≡ k)) ⊎ (Contains xs k → ⊥) → ((j : ℕ) × (j < length (x ∷ xs)) × (get_or (x ∷ xs) j 0 ≡ k)) ⊎ (Contains (x ∷ xs) k → ⊥)
in_rest x xs k differ (inl found) = inl (suc found.0, omega (arith, found.1), found.2)
in_rest x xs k differ (inr apart) = inr (in_later x xs k differ apart)

in_list : (xs : List ℕ) (k : ℕ) → ((j : ℕ) × (j < length xs) × (get_or xs j 0 ≡ k)) ⊎ (Contains xs k → ⊥)
in_list [] k = inr (λ c. absurd (omega (arith, c.1)))
in_list (x ∷ xs) k =
    elim (cases_lt x k) [
      | inl below ↦ in_rest x xs k (λ e. absurd (omega (arith, below, e))) (in_list xs k)
      | inr up ↦ elim (cases_lt k x) [
        | inl above ↦ in_rest x xs k (λ e. absurd (omega (arith, above, e))) (in_list xs k)
        | inr down ↦ let e : x ≡ k = omega (arith, up, down) in inl (0, omega arith, e)
      ]
    ]

in_rows : (sections : List OutSection) (k : ℕ) → ((i : ℕ) × (j : ℕ) × (i < length sections) × (j < length (row_at sections i).1) × (get_or (row_at sections i).1 j 0 ≡ k)) ⊎ (Contains (all_pieces sections) k → ⊥)
in_rows [] k = inr (λ c. absurd (omega (arith, c.1)))
in_rows (s ∷ ss) k =
    elim (in_list s.pieces.items k) [
      | inl found ↦ inl (0, found.0, omega arith, found.1, found.2)
      | inr apart ↦ elim (in_rows ss k) [
        | inl found ↦ inl (suc found.0, found.1, omega (arith, found.2), found.3, found.4)
        | inr none ↦ inr (λ c. elim (Contains-append_cases s.pieces.items (all_pieces ss) k c) [
          | inl here ↦ apart here
          | inr there ↦ none there
        ])
      ]
    ]

pub one_layout : (pieces : List Piece) (sections : List OutSection) (reloc : Bool) (layout other : Layout) → IsLayout pieces sections reloc layout → IsLayout pieces sections reloc other → SameLayout layout other
one_layout pieces sections reloc layout other a b =
    let placed = placed_at layout.sections.items in
    let placed' = placed_at other.sections.items in
    let ends = ends_same pieces sections reloc layout.headers other.headers layout.image other.image placed placed' a.standing.place b.standing.place a.standing.arranged b.standing.arranged in
    let files = files_same pieces sections reloc layout.headers other.headers layout.image other.image placed placed' a.standing.place b.standing.place a.standing.arranged b.standing.arranged in
    let counts = a.standing.section_for_each ∙ sym b.standing.section_for_each in
    let blank : Placed = record { rva = 0; size = 0; raw = 0; file = 0 } in
    let section = λ (i : ℕ) (lt : i < length layout.sections.items).
    let below : i < length sections = omega (arith, lt, a.standing.section_for_each) in
    section_same pieces (row_at sections i) _ _ _ _ (placed i) (placed' i) (a.standing.place i) (b.standing.place i) (ends i (omega arith)) (files i (omega arith)) (a.standing.arranged.each i below) (b.standing.arranged.each i below)
    in
    let piece : (k : ℕ) → k < length layout.pieces.items → get_or layout.pieces.items k 0 ≡ get_or other.pieces.items k 0 = λ k lt. elim (in_rows sections k) [
      | inl found ↦
          let i = found.0 in
          let j = found.1 in
          let same = place_same pieces (row_at sections i) _ _ _ _ (placed i) (placed' i) (a.standing.place i) (b.standing.place i) (ends i (omega (arith, found.2))) (a.standing.arranged.each i found.2) (b.standing.arranged.each i found.2) j found.3 in
          let both = a.standing.written i j found.2 found.3 ∙ same ∙ sym (b.standing.written i j found.2 found.3) in
          subst (λ (n : ℕ). get_or layout.pieces.items n 0 ≡ get_or other.pieces.items n 0) found.4 both
      | inr apart ↦ a.unplaced k apart ∙ sym (b.unplaced k apart)
    ] in
    record {
      headers = sym (least_same 512 _ _ layout.headers other.headers refl a.standing.arranged.of_headers b.standing.arranged.of_headers);
      sections = sym (ext_get_or blank layout.sections.items other.sections.items counts section);
      pieces = sym (ext_get_or 0 layout.pieces.items other.pieces.items (a.standing.rva_for_each ∙ sym b.standing.rva_for_each) piece);
      image = sym (least_same 4096 _ _ layout.image other.image (ends (length sections) (omega arith)) a.standing.arranged.of_image b.standing.arranged.of_image);
    }
