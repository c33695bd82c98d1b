-- The sizes of uninitialised sections, each rounded up, have a sum that fits.
use Rattle.std.proofs.Common.{◌≡◌, ℕ, ◌+◌, ◌*◌, ◌≤◌, Bool, true, false, cond, List, [], ◌∷◌, length, arith}
use Rattle.std.specs.Int.{next_multiple_of}
use Rattle.std.proofs.lemmas.List.Sums.{sum_by-cons}
use Rattle.section_group.specs.Uniqueness.{SectionRow as OutRow}
use Rattle.address_layout.specs.declared.layout.Placed.{Placed}
use Rattle.link_base.specs.Bytes.{has_flag}
use Rattle.link_base.specs.PeFormat.{FILE_ALIGNMENT, SCN_CNT_UNINITIALIZED_DATA}
use Rattle.image_writer.specs.HeaderTable.{size_of_uninitialized_data}
use Rattle.image_writer.specs.WrittenImage.{header_row, section_rows}
use Rattle.image_writer.proofs.ChainLemmas.{AreWritten}

rounded_up : (b : Bool) (size : ℕ) → cond b (next_multiple_of size FILE_ALIGNMENT) 0 ≤ size + 511
rounded_up true size = omega arith
rounded_up false size = omega arith

pub uninitialized_fits : (rvas : List ℕ) (contents : List (List ℕ)) (image : ℕ) (rows : List OutRow) (placed : List Placed) (start file : ℕ) → AreWritten rvas contents image rows placed start file → start + size_of_uninitialized_data (section_rows rows placed) ≤ image + 511 * length rows
unfolding AreWritten
uninitialized_fits rvas contents image [] placed start file are = omega (arith, are.0)
uninitialized_fits rvas contents image (row ∷ rows) [] start file are = absurd are
uninitialized_fits rvas contents image (row ∷ rows) (place ∷ placed) start file are =
    more (cond (has_flag row.flags SCN_CNT_UNINITIALIZED_DATA) (next_multiple_of place.size FILE_ALIGNMENT) 0) (size_of_uninitialized_data (section_rows rows placed)) start place.rva place.size image (length rows) (size_of_uninitialized_data (section_rows (row ∷ rows) (place ∷ placed))) (length (row ∷ rows)) (sum_by-cons _ (header_row row place) (section_rows rows placed)) (omega arith) are.0.above (rounded_up (has_flag row.flags SCN_CNT_UNINITIALIZED_DATA) place.size) (uninitialized_fits rvas contents image rows placed (place.rva + place.size) (file + place.raw) are.1)
  where
    more : (one rest start rva size image count sum all : ℕ) → sum ≡ one + rest → all ≡ count + 1 → start ≤ rva → one ≤ size + 511 → rva + size + rest ≤ image + 511 * count → start + sum ≤ image + 511 * all
    more one rest start rva size image count sum all e f a b c = omega (arith, e, f)
