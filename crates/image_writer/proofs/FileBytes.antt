-- The bytes of the file of a plan: those of the headers, those of each section, and no more.
use Rattle.std.proofs.Common.{◌≡◌, ℕ, suc, ◌+◌, ◌<◌, ◌≤◌, ◌==◌, cond, length, slice_index, slice_get, Some, ap, ◌∙◌, length-append, arith}
use Rattle.std.specs.List.{flat_map}
use Rattle.std.proofs.lemmas.Bool.{cond-false, ne_eqb}
use Rattle.std.proofs.lemmas.Option.{slice_get_within}
use Rattle.image_writer.specs.declared.headers.SectionHeader.{SectionHeader}
use Rattle.image_writer.specs.HeaderTable.{size_of_headers}
use Rattle.image_writer.specs.ExpectedImage.{ImagePlan, plan_headers, raw_byte, raw_bytes, image_file, own_bytes}
use Rattle.image_writer.specs.LoadablePlan.{IsWritable}
use Rattle.image_writer.proofs.StandsAt.{byte_of}
use Rattle.image_writer.proofs.HeaderParts.{headers_stand, raw_stand, length-plan_headers}
use Rattle.image_writer.proofs.RowPlaces.{file_at, raw_byte_there, length-all_raw, file_after, file_monotone}
use Rattle.image_writer.proofs.SectionFields.{placed_row}

-- where the raw bytes of a section stand in the file of a plan
abbrev pub raw_place : ImagePlan → ℕ → ℕ
raw_place plan k = file_at plan.rows (size_of_headers (length plan.rows)) k

two_parts : (plan : ImagePlan) → length (image_file plan) ≡ length (plan_headers plan) + length (flat_map (raw_bytes (own_bytes plan)) plan.rows)
unfolding image_file
two_parts plan = length-append (plan_headers plan) (flat_map (raw_bytes (own_bytes plan)) plan.rows)

pub file_length : (plan : ImagePlan) → IsWritable plan → length (image_file plan) ≡ raw_place plan (length plan.rows)
file_length plan placed =
    two_parts plan
    ∙ ap (λ (k : ℕ). k + length (flat_map (raw_bytes (own_bytes plan)) plan.rows)) (length-plan_headers plan placed.directories)
    ∙ length-all_raw (own_bytes plan) plan.rows (size_of_headers (length plan.rows))

pub headers_in_file : (plan : ImagePlan) → IsWritable plan → size_of_headers (length plan.rows) ≤ length (image_file plan)
headers_in_file plan placed =
    above (length (image_file plan)) (length (plan_headers plan)) (length (flat_map (raw_bytes (own_bytes plan)) plan.rows)) (size_of_headers (length plan.rows)) (two_parts plan) (length-plan_headers plan placed.directories)
  where
    above : (all front back n : ℕ) → all ≡ front + back → front ≡ n → n ≤ all
    above all front back n e f = omega arith

pub header_byte : (plan : ImagePlan) (offset : ℕ) → IsWritable plan → offset < size_of_headers (length plan.rows) → slice_index (image_file plan) offset ≡ slice_index (plan_headers plan) offset
header_byte plan offset placed lt =
    ap (slice_index (image_file plan)) (zero_before offset)
    ∙ byte_of (plan_headers plan) 0 offset (image_file plan) (headers_stand plan) (inside offset (size_of_headers (length plan.rows)) (length (plan_headers plan)) lt (length-plan_headers plan placed.directories))
  where
    zero_before : (n : ℕ) → n ≡ 0 + n
    zero_before n = omega arith

    inside : (i n len : ℕ) → i < n → len ≡ n → i < len
    inside i n len lt e = omega arith

-- ---- the raw bytes of a section

-- a section with raw bytes has them where those before it end
pub offset_is_place : (plan : ImagePlan) (k : ℕ) (row : SectionHeader) → IsWritable plan → slice_get plan.rows k ≡ Some row → 0 < row.raw_size → row.file_offset ≡ raw_place plan k
offset_is_place plan k row placed e some = (placed_row plan k row placed e).file_start ∙ taken row.raw_size some
  where
    taken : (n : ℕ) → 0 < n → cond (n == 0) 0 (raw_place plan k) ≡ raw_place plan k
    taken n some = cond-false (n == 0) 0 (raw_place plan k) (ne_eqb n 0 (λ e. omega arith))

pub raw_byte_reads : (plan : ImagePlan) (k j : ℕ) (row : SectionHeader) → IsWritable plan → slice_get plan.rows k ≡ Some row → j < row.raw_size → slice_index (image_file plan) (row.file_offset + j) ≡ raw_byte (own_bytes plan) row j
raw_byte_reads plan k j row placed e lt =
    ap (λ (place : ℕ). slice_index (image_file plan) (place + j)) (offset_is_place plan k row placed e (omega arith))
    ∙ raw_byte_there (own_bytes plan) plan.rows k (size_of_headers (length plan.rows)) j row (image_file plan) (raw_stand plan placed.directories) e lt

-- the raw bytes of a section end inside the file
pub raw_in_file : (plan : ImagePlan) (k : ℕ) (row : SectionHeader) → IsWritable plan → slice_get plan.rows k ≡ Some row → 0 < row.raw_size → row.file_offset + row.raw_size ≤ length (image_file plan)
raw_in_file plan k row placed e some =
    let within = slice_get_within plan.rows k row e in
    let upto = file_monotone plan.rows (suc k) (length plan.rows) (size_of_headers (length plan.rows)) (omega arith) in
    ends row.file_offset (raw_place plan k) row.raw_size (raw_place plan (suc k)) (raw_place plan (length plan.rows)) (length (image_file plan))
    (offset_is_place plan k row placed e some)
    (file_after plan.rows k (size_of_headers (length plan.rows)) row e)
    upto
    (file_length plan placed)
  where
    ends : (offset place size next last len : ℕ) → offset ≡ place → next ≡ place + size → next ≤ last → len ≡ last → offset + size ≤ len
    ends offset place size next last len a b c d = omega arith
