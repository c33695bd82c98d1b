-- Sections one after the other, as they are written: their rows, their raw data, and the sums over them.
use Rattle.std.proofs.Common.{◌≡◌, ℕ, zero, suc, ◌+◌, ◌%◌, ◌<◌, ◌≤◌, ◌==◌, Bool, true, false, cond, List, [], ◌∷◌, ◌++◌, length, min, slice_get, Some, refl, sym, ap, ◌∙◌, subst, append_assoc, arith, leb, ltb}
use Rattle.std.specs.List.{flat_map}
use Rattle.std.proofs.lemmas.Bool.{and_parts, leb-true, ltb-true}
use Rattle.std.proofs.lemmas.List.Sums.{sum_by-cons}
use Rattle.section_group.specs.Uniqueness.{SectionRow as OutRow}
use Rattle.address_layout.specs.declared.layout.Placed.{Placed}
use Rattle.image_writer.specs.declared.headers.SectionHeader.{SectionHeader}
use Rattle.link_base.specs.Bytes.{has_flag}
use Rattle.link_base.specs.PeFormat.{PAGE_SIZE, SCN_CNT_CODE}
use Rattle.image_writer.specs.HeaderTable.{size_of_code, size_of_initialized_data}
use Rattle.image_writer.specs.ExpectedImage.{PlacedBytes, holds, raw_bytes}
use Rattle.image_writer.specs.LoadablePlan.{AreRowsPlaced, AreInRows}
use Rattle.image_writer.specs.WrittenImage.{header_row, section_rows}
use Rattle.image_writer.specs.RawData.{section_bytes, all_bytes}
use Rattle.image_writer.specs.RawData.{Ascend, laid, laid_all}
use Rattle.image_writer.proofs.RawLemmas.{Lie, lie_wider, lie_both, ascend_lie, section_raw}

-- a section that can be written behind what is before it
pub record IsWritten (rvas : List ℕ) (contents : List (List ℕ)) (row : OutRow) (place : Placed) (start file_start : ℕ) : Type 0 where
  pub aligned : place.rva % PAGE_SIZE ≡ 0
  pub above : start ≤ place.rva
  pub ascending : Ascend (section_bytes rvas contents row.pieces) (place.rva + place.raw) place.rva
  pub lying : Lie place.rva (place.rva + place.size) (section_bytes rvas contents row.pieces)
  pub file : place.file ≡ cond (place.raw == 0) 0 file_start

-- each section behind the one before it, inside an image and a file
unfoldable pub AreWritten : List ℕ → List (List ℕ) → ℕ → List OutRow → List Placed → ℕ → ℕ → Type 0
AreWritten rvas contents image [] placed start file = (start ≤ image) × (file < 4294967296)
AreWritten rvas contents image (row ∷ rows) [] start file = ⊥
AreWritten rvas contents image (row ∷ rows) (place ∷ placed) start file =
    IsWritten rvas contents row place start file × AreWritten rvas contents image rows placed (place.rva + place.size) (file + place.raw)

pub start_inside : (rvas : List ℕ) (contents : List (List ℕ)) (image : ℕ) (rows : List OutRow) (placed : List Placed) (start file : ℕ) → AreWritten rvas contents image rows placed start file → start ≤ image
unfolding AreWritten
start_inside rvas contents image [] placed start file are = are.0
start_inside rvas contents image (row ∷ rows) [] start file are = absurd are
start_inside rvas contents image (row ∷ rows) (place ∷ placed) start file are =
    omega (arith, are.0.above, start_inside rvas contents image rows placed (place.rva + place.size) (file + place.raw) are.1)

pub file_inside : (rvas : List ℕ) (contents : List (List ℕ)) (image : ℕ) (rows : List OutRow) (placed : List Placed) (start file : ℕ) → AreWritten rvas contents image rows placed start file → file < 4294967296
unfolding AreWritten
file_inside rvas contents image [] placed start file are = are.1
file_inside rvas contents image (row ∷ rows) [] start file are = absurd are
file_inside rvas contents image (row ∷ rows) (place ∷ placed) start file are =
    omega (arith, file_inside rvas contents image rows placed (place.rva + place.size) (file + place.raw) are.1)

-- ---- the rows

row_file_fits : (raw file before : ℕ) → file ≡ cond (raw == 0) 0 before → before < 4294967296 → file < 4294967296
row_file_fits raw file before e lt = go (raw == 0) e
  where
    go : (b : Bool) → file ≡ cond b 0 before → file < 4294967296
    go true e = omega (arith, e)
    go false e = omega (arith, e)

pub rows_placed : (rvas : List ℕ) (contents : List (List ℕ)) (image : ℕ) (rows : List OutRow) (placed : List Placed) (start file : ℕ) → AreWritten rvas contents image rows placed start file → AreRowsPlaced (section_rows rows placed) start file image
unfolding AreWritten
rows_placed rvas contents image [] placed start file are = tt
rows_placed rvas contents image (row ∷ rows) [] start file are = absurd are
rows_placed rvas contents image (row ∷ rows) (place ∷ placed) start file are =
    let next = place.rva + place.size in
    let behind = file_inside rvas contents image rows placed next (file + place.raw) are.1 in (
      record {
        aligned = are.0.aligned;
        above = are.0.above;
        inside = start_inside rvas contents image rows placed next (file + place.raw) are.1;
        raw_fits = omega (arith, behind);
        file_fits = row_file_fits place.raw place.file file are.0.file (omega (arith, behind));
        file_start = are.0.file;
      },
      rows_placed rvas contents image rows placed next (file + place.raw) are.1,
    )

-- ---- the raw data

-- all pieces lie between the end before them and the end of the image
later_lie : (rvas : List ℕ) (contents : List (List ℕ)) (image : ℕ) (rows : List OutRow) (placed : List Placed) (start file : ℕ) → AreWritten rvas contents image rows placed start file → Lie start image (all_bytes rvas contents rows)
unfolding AreWritten Lie
later_lie rvas contents image [] placed start file are = tt
later_lie rvas contents image (row ∷ rows) [] start file are = absurd are
later_lie rvas contents image (row ∷ rows) (place ∷ placed) start file are =
    let next = place.rva + place.size in
    let mine = section_bytes rvas contents row.pieces in
    let rest = all_bytes rvas contents rows in
    let inside = start_inside rvas contents image rows placed next (file + place.raw) are.1 in
    (lie_both start image mine rest
    (lie_wider place.rva next start image mine are.0.above inside are.0.lying)
    (lie_wider next image start image rest (omega (arith, are.0.above)) (omega arith) (later_lie rvas contents image rows placed next (file + place.raw) are.1)))

pub all_raw : (rvas : List ℕ) (contents : List (List ℕ)) (image : ℕ) (rows : List OutRow) (placed : List Placed) (start file : ℕ) (before : List PlacedBytes) → AreWritten rvas contents image rows placed start file → Lie 0 start before → laid_all rvas contents rows placed ≡ flat_map (raw_bytes (before ++ all_bytes rvas contents rows)) (section_rows rows placed)
unfolding AreWritten laid_all
all_raw rvas contents image [] placed start file before are b = refl
all_raw rvas contents image (row ∷ rows) [] start file before are b = absurd are
all_raw rvas contents image (row ∷ rows) (place ∷ placed) start file before are b =
    let next = place.rva + place.size in
    let mine = section_bytes rvas contents row.pieces in
    let rest = all_bytes rvas contents rows in
    let moved : (before ++ mine) ++ rest ≡ before ++ (mine ++ rest) = append_assoc before mine rest in
    let low : Lie 0 place.rva before = lie_wider 0 start 0 place.rva before (omega arith) are.0.above b in
    let here : laid mine (place.rva + place.raw) place.rva ≡ raw_bytes (before ++ (mine ++ rest)) (header_row row place) =
    section_raw before mine rest (header_row row place) image low are.0.ascending are.0.lying (later_lie rvas contents image rows placed next (file + place.raw) are.1) in
    let front : Lie 0 next (before ++ mine) = lie_both 0 next before mine (lie_wider 0 start 0 next before (omega arith) (omega (arith, are.0.above)) b) (lie_wider place.rva next 0 next mine (omega arith) (omega arith) are.0.lying) in
    let behind = all_raw rvas contents image rows placed next (file + place.raw) (before ++ mine) are.1 front in
    ap (λ (xs : List ℕ). xs ++ laid_all rvas contents rows placed) here
    ∙ ap (λ (xs : List ℕ). raw_bytes (before ++ (mine ++ rest)) (header_row row place) ++ xs) (behind ∙ ap (λ (ps : List PlacedBytes). flat_map (raw_bytes ps) (section_rows rows placed)) moved)

-- ---- each byte of a piece lies in a section

-- every byte of a piece lies in the raw data and in the size of some row
abbrev InSome : List SectionHeader → PlacedBytes → Type 0
InSome rows piece =
    (rva : ℕ) → holds piece rva ≡ true
    → (number : ℕ) × ((row : SectionHeader) × (slice_get rows number ≡ Some row) × (row.rva ≤ rva) × (rva < row.rva + min row.raw_size row.size))

EachIn : List SectionHeader → List PlacedBytes → Type 0
EachIn rows [] = Unit {0}
EachIn rows (piece ∷ pieces) = InSome rows piece × EachIn rows pieces

each_both : (rows : List SectionHeader) (xs ys : List PlacedBytes) → EachIn rows xs → EachIn rows ys → EachIn rows (xs ++ ys)
unfolding EachIn
each_both rows [] ys a b = b
each_both rows (x ∷ xs) ys a b = (a.0, each_both rows xs ys a.1 b)

each_later : (row : SectionHeader) (rows : List SectionHeader) (pieces : List PlacedBytes) → EachIn rows pieces → EachIn (row ∷ rows) pieces
unfolding EachIn
each_later row rows [] each = tt
each_later row rows (piece ∷ pieces) each =
    (λ rva here. let found = each.0 rva here in (suc found.0, found.1), each_later row rows pieces each.1)

each_first : (row : SectionHeader) (rows : List SectionHeader) (pieces : List PlacedBytes) → Lie row.rva (row.rva + row.raw_size) pieces → Lie row.rva (row.rva + row.size) pieces → EachIn (row ∷ rows) pieces
unfolding EachIn Lie
each_first row rows [] a b = tt
each_first row rows (piece ∷ pieces) a b = (
  λ rva here.
      let both = and_parts (leb piece.rva rva) (ltb rva (piece.rva + length piece.bytes)) here in
      let low : piece.rva ≤ rva = leb-true _ _ both.0 in
      let high : rva < piece.rva + length piece.bytes = ltb-true _ _ both.1 in
      let in_raw = a.0 (omega arith) in
      let in_size = b.0 (omega arith) in
      (0, (row, refl, omega (arith, in_raw.0), omega (arith, in_raw.1, in_size.1))),
  each_first row rows pieces a.1 b.1,
)

each_in : (rvas : List ℕ) (contents : List (List ℕ)) (image : ℕ) (rows : List OutRow) (placed : List Placed) (start file : ℕ) → AreWritten rvas contents image rows placed start file → EachIn (section_rows rows placed) (all_bytes rvas contents rows)
unfolding AreWritten EachIn
each_in rvas contents image [] placed start file are = tt
each_in rvas contents image (row ∷ rows) [] start file are = absurd are
each_in rvas contents image (row ∷ rows) (place ∷ placed) start file are =
    let mine = section_bytes rvas contents row.pieces in
    let rest = all_bytes rvas contents rows in
    let table = section_rows rows placed in
    (each_both (header_row row place ∷ table) mine rest
    (each_first (header_row row place) table mine (ascend_lie mine (place.rva + place.raw) place.rva are.0.ascending) are.0.lying)
    (each_later (header_row row place) table rest (each_in rvas contents image rows placed (place.rva + place.size) (file + place.raw) are.1)))

each_index : (rows : List SectionHeader) (pieces : List PlacedBytes) → EachIn rows pieces → AreInRows pieces rows
unfolding EachIn
each_index rows [] each index rva piece e here = absurd cc
each_index rows (first ∷ pieces) each zero rva piece e here =
    let same : first ≡ piece = cc in
    each.0 rva (subst (λ (p : PlacedBytes). holds p rva ≡ true) (sym same) here)
each_index rows (first ∷ pieces) each (suc index) rva piece e here = each_index rows pieces each.1 index rva piece e here

pub pieces_in_rows : (rvas : List ℕ) (contents : List (List ℕ)) (image : ℕ) (rows : List OutRow) (placed : List Placed) (start file : ℕ) → AreWritten rvas contents image rows placed start file → AreInRows (all_bytes rvas contents rows) (section_rows rows placed)
pieces_in_rows rvas contents image rows placed start file are =
    each_index (section_rows rows placed) (all_bytes rvas contents rows) (each_in rvas contents image rows placed start file are)

-- ---- the sums of raw sizes

chosen : (b : Bool) (raw sum file end whole : ℕ) → whole ≡ cond b raw 0 + sum → file + raw + sum < end → file + whole < end
chosen true raw sum file end whole e lt = omega (arith, e)
chosen false raw sum file end whole e lt = omega (arith, e)

other : (b : Bool) (raw sum file end whole : ℕ) → whole ≡ cond b 0 raw + sum → file + raw + sum < end → file + whole < end
other true raw sum file end whole e lt = omega (arith, e)
other false raw sum file end whole e lt = omega (arith, e)

pub code_fits : (rvas : List ℕ) (contents : List (List ℕ)) (image : ℕ) (rows : List OutRow) (placed : List Placed) (start file : ℕ) → AreWritten rvas contents image rows placed start file → file + size_of_code (section_rows rows placed) < 4294967296
unfolding AreWritten
code_fits rvas contents image [] placed start file are = omega (arith, are.1)
code_fits rvas contents image (row ∷ rows) [] start file are = absurd are
code_fits rvas contents image (row ∷ rows) (place ∷ placed) start file are =
    chosen (has_flag row.flags SCN_CNT_CODE) place.raw (size_of_code (section_rows rows placed)) file 4294967296 (size_of_code (section_rows (row ∷ rows) (place ∷ placed))) (sum_by-cons _ (header_row row place) (section_rows rows placed)) (code_fits rvas contents image rows placed (place.rva + place.size) (file + place.raw) are.1)

pub initialized_fits : (rvas : List ℕ) (contents : List (List ℕ)) (image : ℕ) (rows : List OutRow) (placed : List Placed) (start file : ℕ) → AreWritten rvas contents image rows placed start file → file + size_of_initialized_data (section_rows rows placed) < 4294967296
unfolding AreWritten
initialized_fits rvas contents image [] placed start file are = omega (arith, are.1)
initialized_fits rvas contents image (row ∷ rows) [] start file are = absurd are
initialized_fits rvas contents image (row ∷ rows) (place ∷ placed) start file are =
    other (has_flag row.flags SCN_CNT_CODE) place.raw (size_of_initialized_data (section_rows rows placed)) file 4294967296 (size_of_initialized_data (section_rows (row ∷ rows) (place ∷ placed))) (sum_by-cons _ (header_row row place) (section_rows rows placed)) (initialized_fits rvas contents image rows placed (place.rva + place.size) (file + place.raw) are.1)
