-- Where the sections of a plan stand, in the memory and in the file.
use Rattle.std.proofs.Common.{◌≡◌, ℕ, zero, suc, ◌+◌, ◌<◌, ◌≤◌, List, [], ◌∷◌, ◌++◌, length, slice_index, slice_get, Some, refl, ap, ◌∙◌, subst, inl, inr, length-append, arith}
use Rattle.std.specs.List.{flat_map}
use Rattle.std.proofs.lemmas.Bool.{cases_lt}
use Rattle.std.proofs.lemmas.Option.{slice_get_cases}
use Rattle.std.proofs.lemmas.List.FromFn.{length-map-range_with_len, get_or-map-range_with_len}
use Rattle.image_writer.specs.declared.headers.SectionHeader.{SectionHeader}
use Rattle.image_writer.specs.ExpectedImage.{PlacedBytes, raw_byte, raw_bytes}
use Rattle.image_writer.specs.LoadablePlan.{IsRowPlaced, AreRowsPlaced}
use Rattle.image_writer.proofs.StandsAt.{StandsAt, first_part, second_part, byte_of}

-- where what stands before a section ends, in the memory
abbrev pub end_at : List SectionHeader → ℕ → ℕ → ℕ
end_at rows start zero = start
end_at [] start (suc k) = start
end_at (row ∷ rows) start (suc k) = end_at rows (row.rva + row.size) k

-- where the raw bytes of the sections before a section end, in the file
abbrev pub file_at : List SectionHeader → ℕ → ℕ → ℕ
file_at rows start zero = start
file_at [] start (suc k) = start
file_at (row ∷ rows) start (suc k) = file_at rows (start + row.raw_size) k

-- ---- a section by its number

pub row_there : (rows : List SectionHeader) (k : ℕ) → k < length rows → (row : SectionHeader) × (slice_get rows k ≡ Some row)
row_there rows k lt =
    elim (slice_get_cases rows k).1 [
      | inl there ↦ (there.0, there.2)
      | inr past ↦ absurd (omega (arith, past.0))
    ]

pub row_placed : (rows : List SectionHeader) (k start file_start size : ℕ) (row : SectionHeader) → AreRowsPlaced rows start file_start size → slice_get rows k ≡ Some row → IsRowPlaced row (end_at rows start k) (file_at rows file_start k) size
row_placed [] k start file_start size row placed e = absurd cc
row_placed (first ∷ rows) zero start file_start size row placed e =
    let same : first ≡ row = cc in subst (λ (r : SectionHeader). IsRowPlaced r start file_start size) same placed.0
row_placed (first ∷ rows) (suc k) start file_start size row placed e =
    row_placed rows k (first.rva + first.size) (file_start + first.raw_size) size row placed.1 e

pub end_after : (rows : List SectionHeader) (k start : ℕ) (row : SectionHeader) → slice_get rows k ≡ Some row → end_at rows start (suc k) ≡ row.rva + row.size
end_after [] k start row e = absurd cc
end_after (first ∷ rows) zero start row e =
    let same : first ≡ row = cc in ap (λ (r : SectionHeader). r.rva + r.size) same
end_after (first ∷ rows) (suc k) start row e = end_after rows k (first.rva + first.size) row e

pub file_after : (rows : List SectionHeader) (k start : ℕ) (row : SectionHeader) → slice_get rows k ≡ Some row → file_at rows start (suc k) ≡ file_at rows start k + row.raw_size
file_after [] k start row e = absurd cc
file_after (first ∷ rows) zero start row e =
    let same : first ≡ row = cc in ap (λ (r : SectionHeader). start + r.raw_size) same
file_after (first ∷ rows) (suc k) start row e = file_after rows k (start + first.raw_size) row e

file_step : (rows : List SectionHeader) (n start : ℕ) → file_at rows start n ≤ file_at rows start (suc n)
file_step [] zero start = omega arith
file_step [] (suc n) start = omega arith
file_step (row ∷ rows) zero start = omega arith
file_step (row ∷ rows) (suc n) start = file_step rows n (start + row.raw_size)

pub file_monotone : (rows : List SectionHeader) (j k start : ℕ) → j ≤ k → file_at rows start j ≤ file_at rows start k
file_monotone rows j zero start le =
    let same : j ≡ 0 = omega arith in rw same (omega arith)
file_monotone rows j (suc k) start le =
    elim (cases_lt k j) [
      | inl last ↦ let same : j ≡ suc k = omega arith in rw same (omega arith)
      | inr before ↦ omega (arith, file_monotone rows j k start before, file_step rows k start)
    ]

-- the section whose raw bytes hold an offset
pub holder : (rows : List SectionHeader) (n start offset : ℕ) → n ≤ length rows → start ≤ offset → offset < file_at rows start n → (k : ℕ) × ((k < n) × ((file_at rows start k ≤ offset) × (offset < file_at rows start (suc k))))
holder rows zero start offset le low high = absurd (omega arith)
holder rows (suc n) start offset le low high =
    elim (cases_lt offset (file_at rows start n)) [
      | inl before ↦ let h = holder rows n start offset (omega arith) low before in (h.0, (omega (arith, h.1.0), h.1.1))
      | inr here ↦ (n, (omega arith, (here, high)))
    ]

-- ---- the raw bytes

length-raw_bytes : (pieces : List PlacedBytes) (row : SectionHeader) → length (raw_bytes pieces row) ≡ row.raw_size
length-raw_bytes pieces row = length-map-range_with_len (raw_byte pieces row) 0 row.raw_size

raw_stands : (pieces : List PlacedBytes) (rows : List SectionHeader) (k start : ℕ) (row : SectionHeader) (bytes : List ℕ) → StandsAt (flat_map (raw_bytes pieces) rows) start bytes → slice_get rows k ≡ Some row → StandsAt (raw_bytes pieces row) (file_at rows start k) bytes
raw_stands pieces [] k start row bytes h e = absurd cc
raw_stands pieces (first ∷ rows) zero start row bytes h e =
    let same : first ≡ row = cc in
    subst (λ (r : SectionHeader). StandsAt (raw_bytes pieces r) start bytes) same (first_part (raw_bytes pieces first) (flat_map (raw_bytes pieces) rows) start bytes h)
raw_stands pieces (first ∷ rows) (suc k) start row bytes h e =
    raw_stands pieces rows k (start + first.raw_size) row bytes
    (second_part (raw_bytes pieces first) (flat_map (raw_bytes pieces) rows) start first.raw_size (start + first.raw_size) bytes (length-raw_bytes pieces first) refl h)
    e

pub raw_byte_there : (pieces : List PlacedBytes) (rows : List SectionHeader) (k start j : ℕ) (row : SectionHeader) (bytes : List ℕ) → StandsAt (flat_map (raw_bytes pieces) rows) start bytes → slice_get rows k ≡ Some row → j < row.raw_size → slice_index bytes (file_at rows start k + j) ≡ raw_byte pieces row j
raw_byte_there pieces rows k start j row bytes h e lt =
    byte_of (raw_bytes pieces row) (file_at rows start k) j bytes (raw_stands pieces rows k start row bytes h e) (omega (arith, length-raw_bytes pieces row))
    ∙ get_or-map-range_with_len (raw_byte pieces row) 0 row.raw_size j j 0 lt (omega arith)

pub length-all_raw : (pieces : List PlacedBytes) (rows : List SectionHeader) (start : ℕ) → start + length (flat_map (raw_bytes pieces) rows) ≡ file_at rows start (length rows)
length-all_raw pieces [] start = omega arith
length-all_raw pieces (row ∷ rows) start =
    add_more start (length (raw_bytes pieces row ++ flat_map (raw_bytes pieces) rows)) row.raw_size (length (flat_map (raw_bytes pieces) rows))
    (length-append (raw_bytes pieces row) (flat_map (raw_bytes pieces) rows) ∙ ap (λ (k : ℕ). k + length (flat_map (raw_bytes pieces) rows)) (length-raw_bytes pieces row))
    ∙ length-all_raw pieces rows (start + row.raw_size)
  where
    add_more : (start all one rest : ℕ) → all ≡ one + rest → start + all ≡ start + one + rest
    add_more start all one rest e = omega arith
