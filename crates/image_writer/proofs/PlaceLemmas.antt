-- What `place` gives is laid out: each section by itself, and all of them.
use Rattle.std.proofs.Common.{◌≡◌, ℕ, zero, suc, ◌+◌, ◌*◌, ◌%◌, ◌<◌, ◌≤◌, false, IsTrue, List, length, sym, ap, ◌∙◌, subst, inl, inr, arith}
use Rattle.std.specs.Int.{next_multiple_of}
use Rattle.std.proofs.lemmas.Bool.{false≢true, cases_lt}
use Rattle.section_group.specs.declared.piece.Piece.{Piece}
use Rattle.section_group.specs.declared.piece.OutSection.{OutSection}
use Rattle.address_layout.specs.declared.layout.Placed.{Placed}
use Rattle.address_layout.specs.declared.layout.Layout.{Layout}
use Rattle.address_layout.specs.Places.{IsLeastMultiple, IsPlacedSection, piece_in, piece_end, piece_floor, row_at, section_count, end_before, file_before}
use Rattle.address_layout.specs.Layout.{StandOnce, HoldsArrangement, placed_at}
use Rattle.address_layout.specs.Growth.{CanGrow}
use Rattle.image_writer.specs.WrittenImage.{place_in, IsSectionLaidOut, IsLaidOut}

pub least_is_next : (low x : ℕ) → IsLeastMultiple 512 low x → x ≡ next_multiple_of low 512
least_is_next low x least =
    let above : low ≤ next_multiple_of low 512 = omega arith in
    let below : next_multiple_of low 512 < low + 512 = omega arith in
    let even : next_multiple_of low 512 % 512 ≡ 0 = omega arith in
    closed x (next_multiple_of low 512) low least.multiple even least.above below (least.least (next_multiple_of low 512) even above)
  where
    closed : (x y low : ℕ) → x % 512 ≡ 0 → y % 512 ≡ 0 → low ≤ x → y < low + 512 → x ≤ y → x ≡ y
    closed x y low a b c d e = omega arith

-- each piece stands at or above the end of the one before it
abbrev Rises : List Piece → List ℕ × List ℕ → ℕ → (ℕ → ℕ) → Type 0
Rises pieces row start place = (j : ℕ) → j < length row.1 → piece_floor pieces row start place j ≤ place j

ends_rise : (pieces : List Piece) (row : List ℕ × List ℕ) (start : ℕ) (place : ℕ → ℕ) (j k : ℕ) → Rises pieces row start place → j ≤ k → k < length row.1 → piece_end pieces row place j ≤ piece_end pieces row place k
ends_rise pieces row start place j zero up le lt =
    let same : j ≡ 0 = omega arith in subst (λ (n : ℕ). piece_end pieces row place n ≤ piece_end pieces row place 0) (sym same) (omega arith)
ends_rise pieces row start place j (suc k) up le lt =
    elim (cases_lt j (suc k)) [
      | inl before ↦ omega (arith, ends_rise pieces row start place j k up (omega arith) (omega arith), up (suc k) lt)
      | inr last ↦
          let same : j ≡ suc k = omega arith in subst (λ (n : ℕ). piece_end pieces row place n ≤ piece_end pieces row place (suc k)) (sym same) (omega arith)
    ]

pub end_in_floor : (pieces : List Piece) (row : List ℕ × List ℕ) (start : ℕ) (place : ℕ → ℕ) (j n : ℕ) → Rises pieces row start place → j < n → n ≤ length row.1 → piece_end pieces row place j ≤ piece_floor pieces row start place n
end_in_floor pieces row start place j zero up lt le = absurd (omega arith)
end_in_floor pieces row start place j (suc n) up lt le = ends_rise pieces row start place j n up (omega arith) (omega arith)

initialised_inside : (pieces : List Piece) (row : List ℕ × List ℕ) (before file : ℕ) (placed : Placed) (place : ℕ → ℕ) → IsPlacedSection pieces row before file placed place → (j : ℕ) → j < length row.1 → IsTrue (piece_in pieces row j).init → piece_end pieces row place j ≤ placed.rva + placed.raw
initialised_inside pieces row before file placed place is j lt init =
    let up : Rises pieces row placed.rva place = λ k below. (is.each k below).above in
    elim is.is_initialised_end [
      | inl none ↦ absurd (false≢true (sym (none.0 j lt) ∙ init))
      | inr some ↦
          (elim (cases_lt some.0 j) [
            | inl behind ↦ absurd (false≢true (sym (some.3 j behind lt) ∙ init))
            | inr within ↦ omega (arith, ends_rise pieces row placed.rva place j some.0 up within some.1, some.4, is.raw.above)
          ])
    ]

bytes_inside : (pieces : List Piece) (row : List ℕ × List ℕ) (before file : ℕ) (placed : Placed) (place : ℕ → ℕ) → IsPlacedSection pieces row before file placed place → (j : ℕ) → j < length row.1 → 0 < (piece_in pieces row j).size → piece_end pieces row place j ≤ placed.rva + placed.size
bytes_inside pieces row before file placed place is j lt some =
    let up : Rises pieces row placed.rva place = λ k below. (is.each k below).above in
    omega (arith, end_in_floor pieces row placed.rva place j (length row.1) up lt (omega arith), is.size_of_bytes (j, lt, some))

pub section_laid_out : (pieces : List Piece) (rvas : List ℕ) (row : List ℕ × List ℕ) (before file : ℕ) (placed : Placed) (place : ℕ → ℕ) → IsPlacedSection pieces row before file placed place → ((j : ℕ) → j < length row.1 → place_in rvas row j ≡ place j) → IsSectionLaidOut pieces rvas row before file placed
section_laid_out pieces rvas row before file placed place is same = record {
  aligned = is.start.multiple;
  above = is.start.above;
  ascending = ascending;
  in_raw = λ j lt init. omega (arith, initialised_inside pieces row before file placed place is j lt init, same j lt);
  in_size = λ j lt some. omega (arith, bytes_inside pieces row before file placed place is j lt some, same j lt);
  file = is.file;
}
  where
    ascending : (j : ℕ) → j < length row.1 → piece_floor pieces row placed.rva (place_in rvas row) j ≤ place_in rvas row j
    ascending zero lt = omega (arith, (is.each 0 lt).above, same 0 lt)
    ascending (suc j) lt = omega (arith, (is.each (suc j) lt).above, same (suc j) lt, same j (omega arith))

pub laid_out : (pieces : List Piece) (sections : List OutSection) (layout : Layout) → HoldsArrangement pieces sections false layout → StandOnce pieces sections → section_count sections false ≤ 96 → CanGrow layout → IsLaidOut pieces sections layout
laid_out pieces sections layout is standing few growth = record {
  headers = least_is_next (328 + 40 * section_count sections false) layout.headers is.arranged.of_headers ∙ ap (λ (n : ℕ). next_multiple_of (328 + 40 * n) 512) (omega arith);
  few = omega (arith, few);
  section_for_each = is.section_for_each;
  rva_for_each = is.rva_for_each;
  within = standing.within;
  each = λ i lt. section_laid_out pieces layout.pieces.items (row_at sections i) (end_before layout.headers (placed_at layout.sections.items) i) (file_before layout.headers (placed_at layout.sections.items) i) (placed_at layout.sections.items i) (is.place i) (is.arranged.each i lt) (λ j below. is.written i j lt below);
  inside = growth.within;
  small = growth.small;
  file = growth.file;
}
