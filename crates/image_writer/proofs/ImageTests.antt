-- The file of a plan passes each test of an image.
use Rattle.std.proofs.Common.{◌≡◌, ℕ, zero, suc, ◌+◌, ◌<◌, ◌≤◌, ◌==◌, nat_le, true, ◌||◌, length, None, refl, sym, inl, inr, arith, eq-eqb, le-leb, lt-ltb}
use Rattle.std.proofs.lemmas.Bool.{and_from, or_left, or_right, cases_lt}
use Rattle.link_base.specs.Limits.{IMAGE_LIMIT}
use Rattle.link_base.proofs.CallerLemmas.{all_below-from_each}
use Rattle.image_writer.specs.HeaderTable.{size_of_headers}
use Rattle.pe_loader.specs.LoadedImage.{has_dos_header, has_signature, has_machine, has_optional_header, has_magic, has_alignments, has_directories, has_size, has_headers, has_sections, has_raw_bytes, has_blocks, section_floor, is_section_placed, is_section_in_file, image_fault}
use Rattle.image_writer.specs.ExpectedImage.{ImagePlan, image_file}
use Rattle.image_writer.specs.LoadablePlan.{IsLoadable}
use Rattle.image_writer.proofs.ImageMemory.{walk_is}
use Rattle.image_writer.proofs.HeaderFields.{dos_reads, signature_place, pe_reads, machine_reads, count_reads, optional_len_reads, magic_reads, page_size_reads, file_alignment_reads, size_reads, headers_size_reads, directory_count_reads, table_reads}
use Rattle.image_writer.proofs.RowPlaces.{row_there, end_at, end_after}
use Rattle.image_writer.proofs.SectionFields.{row_reads, placed_row}
use Rattle.image_writer.proofs.FileBytes.{headers_in_file, raw_in_file}

-- the file is as long as the fixed headers at least
fixed_in_file : (plan : ImagePlan) → IsLoadable plan → 328 ≤ length (image_file plan)
fixed_in_file plan placed = above (length plan.rows) (length (image_file plan)) (headers_in_file plan placed.writable)
  where
    above : (count len : ℕ) → size_of_headers count ≤ len → 328 ≤ len
    above count len le = omega arith

-- ---- the headers

dos_passes : (plan : ImagePlan) → IsLoadable plan → has_dos_header (image_file plan) ≡ true
unfolding has_dos_header
dos_passes plan placed = and_from _ _ (le-leb _ _ (omega (arith, fixed_in_file plan placed))) (eq-eqb _ _ (dos_reads plan))

signature_passes : (plan : ImagePlan) → IsLoadable plan → has_signature (image_file plan) ≡ true
unfolding has_signature
signature_passes plan placed =
    and_from _ _ (le-leb _ _ (omega (arith, signature_place plan, fixed_in_file plan placed))) (eq-eqb _ _ (pe_reads plan))

machine_passes : (plan : ImagePlan) → IsLoadable plan → has_machine (image_file plan) ≡ true
unfolding has_machine
machine_passes plan placed =
    and_from _ _ (le-leb _ _ (omega (arith, signature_place plan, fixed_in_file plan placed))) (eq-eqb _ _ (machine_reads plan))

optional_header_passes : (plan : ImagePlan) → IsLoadable plan → has_optional_header (image_file plan) ≡ true
unfolding has_optional_header
optional_header_passes plan placed =
    and_from _ _ (le-leb _ _ (omega (arith, signature_place plan, fixed_in_file plan placed))) (eq-eqb _ _ (optional_len_reads plan))

magic_passes : (plan : ImagePlan) → has_magic (image_file plan) ≡ true
unfolding has_magic
magic_passes plan = eq-eqb _ _ (magic_reads plan)

alignments_pass : (plan : ImagePlan) → has_alignments (image_file plan) ≡ true
unfolding has_alignments
alignments_pass plan = and_from _ _ (eq-eqb _ _ (page_size_reads plan)) (eq-eqb _ _ (file_alignment_reads plan))

directories_pass : (plan : ImagePlan) → has_directories (image_file plan) ≡ true
unfolding has_directories
directories_pass plan = eq-eqb _ _ (directory_count_reads plan)

size_passes : (plan : ImagePlan) → IsLoadable plan → has_size (image_file plan) ≡ true
unfolding has_size
size_passes plan placed =
    rw (size_reads plan placed) (and_from _ _ (lt-ltb 0 plan.size placed.some_size) (le-leb plan.size IMAGE_LIMIT placed.size_fits))

headers_pass : (plan : ImagePlan) → IsLoadable plan → has_headers (image_file plan) ≡ true
unfolding has_headers
headers_pass plan placed =
    rw (signature_place plan, count_reads plan placed, headers_size_reads plan placed, size_reads plan placed) (
    and_from _ _ (le-leb _ _ (omega arith)) (and_from _ _ (le-leb _ _ (headers_in_file plan placed.writable)) (le-leb _ _ placed.headers_inside)))

-- ---- the sections

section_floor_is : (plan : ImagePlan) (k : ℕ) → IsLoadable plan → k < length plan.rows → section_floor (image_file plan) k ≡ end_at plan.rows (size_of_headers (length plan.rows)) k
section_floor_is plan zero placed lt = headers_size_reads plan placed
section_floor_is plan (suc k) placed lt =
    let there = row_there plan.rows k (omega arith) in
    let said = row_reads plan k there.0 placed there.1 in
    rw (said.rva, said.size) (sym (end_after plan.rows k (size_of_headers (length plan.rows)) there.0 there.1))

section_passes : (plan : ImagePlan) (k : ℕ) → IsLoadable plan → k < length plan.rows → is_section_placed (image_file plan) k ≡ true
section_passes plan k placed lt =
    let there = row_there plan.rows k lt in
    let said = row_reads plan k there.0 placed there.1 in
    let place = placed_row plan k there.0 placed.writable there.1 in
    rw (section_floor_is plan k placed lt, said.rva, said.size, size_reads plan placed) (
    and_from _ _ (eq-eqb _ _ place.aligned) (and_from _ _ (le-leb _ _ place.above) (le-leb _ _ place.inside)))

sections_pass : (plan : ImagePlan) → IsLoadable plan → has_sections (image_file plan) ≡ true
unfolding has_sections
sections_pass plan placed =
    rw (count_reads plan placed) (all_below-from_each (length plan.rows) (is_section_placed (image_file plan)) (λ k lt. section_passes plan k placed lt))

raw_passes : (plan : ImagePlan) (k : ℕ) → IsLoadable plan → k < length plan.rows → is_section_in_file (image_file plan) k ≡ true
raw_passes plan k placed lt =
    let there = row_there plan.rows k lt in
    let said = row_reads plan k there.0 placed there.1 in
    rw (said.raw_size, said.offset) (inside there.0.raw_size there.0.file_offset (length (image_file plan)) (λ some. raw_in_file plan k there.0 placed.writable there.1 some))
  where
    inside : (size offset len : ℕ) → (0 < size → offset + size ≤ len) → ((size == 0) || nat_le (offset + size) len) ≡ true
    inside size offset len le =
        elim (cases_lt 0 size) [
          | inl some ↦ or_right (size == 0) _ (le-leb _ _ (le some))
          | inr none ↦ or_left (size == 0) _ (eq-eqb size 0 (omega arith))
        ]

all_raw_pass : (plan : ImagePlan) → IsLoadable plan → has_raw_bytes (image_file plan) ≡ true
unfolding has_raw_bytes
all_raw_pass plan placed =
    rw (count_reads plan placed) (all_below-from_each (length plan.rows) (is_section_in_file (image_file plan)) (λ k lt. raw_passes plan k placed lt))

-- ---- the base relocations

blocks_pass : (plan : ImagePlan) → IsLoadable plan → has_blocks (image_file plan) ≡ true
unfolding has_blocks
blocks_pass plan placed =
    let said = table_reads plan placed in
    rw (said.rva, said.size, size_reads plan placed, walk_is plan placed) (or_right _ _ (and_from _ _ (le-leb _ _ placed.relocatable.inside) refl))

-- ---- all of them

pub no_fault : (plan : ImagePlan) → IsLoadable plan → image_fault (image_file plan) ≡ None
unfolding image_fault
no_fault plan placed =
    rw (dos_passes plan placed, signature_passes plan placed, machine_passes plan placed, optional_header_passes plan placed, magic_passes plan, alignments_pass plan, directories_pass plan, size_passes plan placed, headers_pass plan placed, sections_pass plan placed, all_raw_pass plan placed, blocks_pass plan placed) refl
