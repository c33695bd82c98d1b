-- The section headers, read back from the file of a plan.
use Rattle.std.proofs.Common.{◌≡◌, ℕ, ◌+◌, ◌*◌, List, [], ◌++◌, length, slice_get, Some, refl, arith}
use Rattle.link_base.specs.Bytes.{number_bytes}
use Rattle.image_writer.specs.declared.headers.SectionHeader.{SectionHeader}
use Rattle.image_writer.specs.HeaderTable.{section_header, short_name, size_of_headers}
use Rattle.pe_loader.specs.LoadedImage.{virtual_size, virtual_address, raw_size, raw_offset}
use Rattle.image_writer.specs.ExpectedImage.{ImagePlan, image_file}
use Rattle.image_writer.specs.LoadablePlan.{IsLoadable, IsWritable, IsRowPlaced}
use Rattle.image_writer.proofs.StandsAt.{StandsAt, second_part, behind, reads, part_at}
use Rattle.image_writer.proofs.HeaderParts.{sections_stand, length-section_header, length-short_name}
use Rattle.image_writer.proofs.HeaderFields.{signature_place}
use Rattle.image_writer.proofs.RowPlaces.{row_placed, end_at, file_at}

-- the header of a section says what the plan's row says
pub record RowReads (image : List ℕ) (k : ℕ) (row : SectionHeader) : Type 0 where
  pub size : virtual_size image k ≡ row.size
  pub rva : virtual_address image k ≡ row.rva
  pub raw_size : raw_size image k ≡ row.raw_size
  pub offset : raw_offset image k ≡ row.file_offset

pub placed_row : (plan : ImagePlan) (k : ℕ) (row : SectionHeader) → IsWritable plan → slice_get plan.rows k ≡ Some row → IsRowPlaced row (end_at plan.rows (size_of_headers (length plan.rows)) k) (file_at plan.rows (size_of_headers (length plan.rows)) k) plan.size
placed_row plan k row placed e = row_placed plan.rows k (size_of_headers (length plan.rows)) (size_of_headers (length plan.rows)) plan.size row placed.rows e

-- what stands behind the name
section_stands : (plan : ImagePlan) (k : ℕ) (row : SectionHeader) → IsLoadable plan → slice_get plan.rows k ≡ Some row → StandsAt (number_bytes 4 row.size ++ (number_bytes 4 row.rva ++ (number_bytes 4 row.raw_size ++ (number_bytes 4 row.file_offset ++ (number_bytes 4 0 ++ (number_bytes 4 0 ++ (number_bytes 2 0 ++ (number_bytes 2 0 ++ (number_bytes 4 row.flags ++ []))))))))) (328 + 40 * k + 8) (image_file plan)
section_stands plan k row placed e =
    second_part (short_name row.name) _ (328 + 40 * k) 8 (328 + 40 * k + 8) (image_file plan) (length-short_name row.name) refl
    (part_at section_header 40 length-section_header plan.rows k row 328 (image_file plan) (sections_stand plan placed.writable.directories) e)

pub row_reads : (plan : ImagePlan) (k : ℕ) (row : SectionHeader) → IsLoadable plan → slice_get plan.rows k ≡ Some row → RowReads (image_file plan) k row
unfolding virtual_size virtual_address raw_size raw_offset
row_reads plan k row placed e =
    let place = placed_row plan k row placed.writable e in
    let here = section_stands plan k row placed e in
    record {
      size = rw (signature_place plan) (reads _ _ _ (328 + 40 * k + 8) here refl (omega (arith, place.inside, placed.size_fits)));
      rva = rw (signature_place plan) (reads _ _ _ (328 + 40 * k + 12) (behind _ _ _ here) (omega arith) (omega (arith, place.inside, placed.size_fits)));
      raw_size = rw (signature_place plan) (reads _ _ _ (328 + 40 * k + 16) (behind _ _ _ (behind _ _ _ here)) (omega arith) place.raw_fits);
      offset = rw (signature_place plan) (reads _ _ _ (328 + 40 * k + 20) (behind _ _ _ (behind _ _ _ (behind _ _ _ here))) (omega arith) place.file_fits);
    }
