-- The raw data of a layout end not far behind its sections.
use Rattle.std.proofs.Common.{◌≡◌, ℕ, zero, suc, ◌+◌, ◌-◌, ◌*◌, ◌/◌, ◌%◌, ◌<◌, ◌≤◌, ◌⊎◌, Bool, List, length, sym, ap, ◌∙◌, subst, inl, inr, arith}
use Rattle.std.specs.Int.{next_multiple_of}
use Rattle.std.specs.List.{All}
use Rattle.std.proofs.Math.Nat.{mul-mod_right, mul_assoc}
use Rattle.std.proofs.lemmas.Bool.{cases_lt}
use Rattle.section_group.specs.declared.piece.Piece.{Piece}
use Rattle.section_group.specs.declared.piece.OutSection.{OutSection}
use Rattle.address_layout.specs.declared.layout.Placed.{Placed}
use Rattle.address_layout.specs.declared.layout.Layout.{Layout}
use Rattle.address_layout.specs.Places.{row_at, piece_in, piece_end, end_before, file_before, HasNoBytes, IsPlacedSection}
use Rattle.address_layout.specs.Layout.{StandOnce, IsAlignment, HoldsArrangement, placed_at}
use Rattle.address_layout.specs.Growth.{last_end, raw_end}
use Rattle.address_layout.proofs.CallerLemmas.{Aligned, aligned_rows}
use Rattle.image_writer.proofs.PlaceLemmas.{end_in_floor}

divides_more : (a m : ℕ) → 8192 % a ≡ 0 → m % 8192 ≡ 0 → 0 < a → m % a ≡ 0
divides_more a m divides multiple some =
    let q = 8192 / a in
    let p = m / 8192 in
    let eight : a * q ≡ 8192 = omega arith in
    let whole : m ≡ 8192 * p = omega arith in
    let product : m ≡ a * (q * p) = whole ∙ ap (λ (n : ℕ). n * p) (sym eight) ∙ mul_assoc a q p in
    ap (λ (n : ℕ). n % a) product ∙ mul-mod_right a (q * p)

-- one of the first pieces has bytes, or none has
some_bytes : (pieces : List Piece) (row : List ℕ × List ℕ) (n : ℕ) → ((j : ℕ) × (j < n) × (0 < (piece_in pieces row j).size)) ⊎ ((j : ℕ) → j < n → (piece_in pieces row j).size ≡ 0)
some_bytes pieces row zero = inr (λ j lt. absurd (omega arith))
some_bytes pieces row (suc n) =
    elim (some_bytes pieces row n) [
      | inl found ↦ inl (found.0, omega (arith, found.1), found.2)
      | inr none ↦
          (elim (cases_lt 0 (piece_in pieces row n).size) [
            | inl here ↦ inl (n, omega arith, here)
            | inr empty ↦ inr (λ j lt. elim (cases_lt j n) [
              | inl before ↦ none j before
              | inr last ↦
                  let same : j ≡ n = omega arith in ap (λ (k : ℕ). (piece_in pieces row k).size) same ∙ (omega arith)
            ])
          ])
    ]

-- pieces without bytes stand below the next multiple of the greatest alignment
none_reach : (pieces : List Piece) (row : List ℕ × List ℕ) (before file : ℕ) (placed : Placed) (place : ℕ → ℕ) → Aligned pieces row → IsPlacedSection pieces row before file placed place → HasNoBytes pieces row → (j : ℕ) → j < length row.1 → place j ≤ next_multiple_of placed.rva 8192
none_reach pieces row before file placed place aligned is none zero lt =
    let alignment = aligned.each 0 lt in
    (is.each 0 lt).least (next_multiple_of placed.rva 8192) (divides_more _ (next_multiple_of placed.rva 8192) alignment.divides (omega arith) alignment.positive) (omega arith)
none_reach pieces row before file placed place aligned is none (suc j) lt =
    let alignment = aligned.each (suc j) lt in
    let earlier = none_reach pieces row before file placed place aligned is none j (omega arith) in
    let empty = none j (omega arith) in
    (is.each (suc j) lt).least (next_multiple_of placed.rva 8192) (divides_more _ (next_multiple_of placed.rva 8192) alignment.divides (omega arith) alignment.positive) (omega (arith, earlier, empty))

end_small : (pieces : List Piece) (row : List ℕ × List ℕ) (before file : ℕ) (placed : Placed) (place : ℕ → ℕ) → Aligned pieces row → IsPlacedSection pieces row before file placed place → (j : ℕ) → j < length row.1 → piece_end pieces row place j ≤ placed.rva + placed.size + 8191
end_small pieces row before file placed place aligned is j lt =
    elim (some_bytes pieces row (length row.1)) [
      | inl found ↦
          omega (arith, is.size_of_bytes found, end_in_floor pieces row placed.rva place j (length row.1) (λ k below. (is.each k below).above) lt (omega arith))
      | inr none ↦
          let up = none_reach pieces row before file placed place aligned is none j lt in
          let near : next_multiple_of placed.rva 8192 < placed.rva + 8192 = omega arith in
          omega (arith, up, near, none j lt)
    ]

raw_small : (pieces : List Piece) (row : List ℕ × List ℕ) (before file : ℕ) (placed : Placed) (place : ℕ → ℕ) → Aligned pieces row → IsPlacedSection pieces row before file placed place → placed.raw ≤ placed.size + 8702
raw_small pieces row before file placed place aligned is =
    let low = is.initialised_end - placed.rva in
    let least : placed.raw ≤ next_multiple_of low 512 = is.raw.least (next_multiple_of low 512) (omega arith) (omega arith) in
    let near : next_multiple_of low 512 < low + 512 = omega arith in
    elim is.is_initialised_end [
      | inl none ↦ omega (arith, least, near, none.1)
      | inr some ↦ omega (arith, least, near, some.4, end_small pieces row before file placed place aligned is some.0 some.1)
    ]

-- the raw data of the first sections end not far behind these
pub file_end_small : (pieces : List Piece) (sections : List OutSection) (reloc : Bool) (layout : Layout) → All (λ piece. IsAlignment piece.align) pieces → StandOnce pieces sections → HoldsArrangement pieces sections reloc layout → (i : ℕ) → i ≤ length sections → file_before layout.headers (placed_at layout.sections.items) i ≤ end_before layout.headers (placed_at layout.sections.items) i + i * 8702
file_end_small pieces sections reloc layout alignments standing is zero le = omega arith
file_end_small pieces sections reloc layout alignments standing is (suc i) le =
    let placed = placed_at layout.sections.items in
    let before = end_before layout.headers placed i in
    let file = file_before layout.headers placed i in
    let row = row_at sections i in
    let here = is.arranged.each i (omega arith) in
    let raw = raw_small pieces row before file (placed i) (is.place i) (aligned_rows pieces sections i alignments standing (omega arith)) here in
    omega (arith, file_end_small pieces sections reloc layout alignments standing is i (omega arith), raw, here.start.above)

pub raw_end_small : (pieces : List Piece) (sections : List OutSection) (reloc : Bool) (layout : Layout) → All (λ piece. IsAlignment piece.align) pieces → StandOnce pieces sections → HoldsArrangement pieces sections reloc layout → raw_end layout ≤ last_end layout + length sections * 8702
raw_end_small pieces sections reloc layout alignments standing is =
    let placed = placed_at layout.sections.items in
    subst (λ (n : ℕ). file_before layout.headers placed n ≤ end_before layout.headers placed n + length sections * 8702) (sym is.section_for_each) (file_end_small pieces sections reloc layout alignments standing is (length sections) (omega arith))
