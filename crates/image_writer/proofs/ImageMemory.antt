-- What loading copies from the file of a plan is what the plan says.
use Rattle.std.proofs.Common.{◌≡◌, ℕ, suc, ◌+◌, ◌-◌, ◌<◌, ◌≤◌, nat_lt, min, Bool, true, false, cond, List, [], ◌∷◌, length, map, slice_index, slice_get, Option, Some, None, refl, sym, ap, ◌∙◌, inl, inr, arith, le-leb, lt-ltb}
use Rattle.std.specs.List.{range_with_len}
use Rattle.std.proofs.lemmas.Bool.{and_from, and_parts, cases_Bool, false≢true, leb-true, ltb-true, cond-true, cond-false}
use Rattle.std.proofs.lemmas.Option.{slice_get_within}
use Rattle.link_base.specs.Bytes.{first_below}
use Rattle.link_base.proofs.CallerLemmas.{first_below-some, first_below-none}
use Rattle.image_writer.specs.declared.headers.SectionHeader.{SectionHeader}
use Rattle.image_writer.specs.HeaderTable.{size_of_headers}
use Rattle.base_reloc.specs.Blocks.{Fields, walk_of}
use Rattle.base_reloc.proofs.CallerLemmas.{table_lists}
use Rattle.pe_loader.specs.LoadedImage.{is_copied_into, section_byte, copied_byte, copied, base_walk}
use Rattle.image_writer.specs.ExpectedImage.{ImagePlan, PlacedBytes, holds, piece_byte, raw_byte, plan_headers, expected_byte, expected_image, image_file, own_bytes}
use Rattle.image_writer.specs.LoadablePlan.{IsLoadable}
use Rattle.image_writer.proofs.HeaderFields.{count_reads, size_reads, headers_size_reads, table_reads}
use Rattle.image_writer.proofs.RowPlaces.{row_there}
use Rattle.image_writer.proofs.SectionFields.{row_reads}
use Rattle.image_writer.proofs.FileBytes.{header_byte, raw_byte_reads}

-- ---- a byte that a section copies

-- the test of a section, by the plan's row
into_row : (plan : ImagePlan) (rva k : ℕ) (row : SectionHeader) → IsLoadable plan → slice_get plan.rows k ≡ Some row → row.rva ≤ rva → rva < row.rva + min row.raw_size row.size → is_copied_into (image_file plan) rva k ≡ true
into_row plan rva k row placed e low high =
    let said = row_reads plan k row placed e in
    rw (said.rva, said.raw_size, said.size) (and_from _ _ (le-leb _ _ low) (lt-ltb _ _ high))

row_from : (plan : ImagePlan) (rva k : ℕ) (row : SectionHeader) → IsLoadable plan → slice_get plan.rows k ≡ Some row → is_copied_into (image_file plan) rva k ≡ true → (row.rva ≤ rva) × (rva < row.rva + min row.raw_size row.size)
row_from plan rva k row placed e passes =
    let said = row_reads plan k row placed e in
    let both = and_parts _ _ (rw (said.rva, said.raw_size, said.size) at passes) in
    (leb-true _ _ both.0, ltb-true _ _ both.1)

byte_in_row : (pieces : List PlacedBytes) (row : SectionHeader) (rva : ℕ) → row.rva ≤ rva → rva < row.rva + min row.raw_size row.size → raw_byte pieces row (rva - row.rva) ≡ piece_byte pieces rva
byte_in_row pieces row rva low high =
    cond-true (nat_lt (rva - row.rva) row.size) _ 0 (lt-ltb _ _ (omega arith)) ∙ ap (piece_byte pieces) (omega arith)

found_byte : (plan : ImagePlan) (rva k : ℕ) → IsLoadable plan → k < length plan.rows → is_copied_into (image_file plan) rva k ≡ true → section_byte (image_file plan) rva (Some k) ≡ piece_byte (own_bytes plan) rva
found_byte plan rva k placed lt passes =
    let there = row_there plan.rows k lt in
    let row = there.0 in
    let said = row_reads plan k row placed there.1 in
    let place = row_from plan rva k row placed there.1 passes in
    rw (said.rva, said.offset) (raw_byte_reads plan k (rva - row.rva) row placed.writable there.1 (omega (arith, place.0, place.1)) ∙ byte_in_row (own_bytes plan) row rva place.0 place.1)

-- ---- a byte that none copies

no_piece : (pieces : List PlacedBytes) (rva : ℕ) → ((index : ℕ) (piece : PlacedBytes) → slice_get pieces index ≡ Some piece → holds piece rva ≡ true → ⊥) → piece_byte pieces rva ≡ 0
no_piece [] rva none = refl
no_piece (piece ∷ pieces) rva none =
    elim (cases_Bool (holds piece rva)) [
      | inl here ↦ absurd (none 0 piece refl here)
      | inr elsewhere ↦ cond-false (holds piece rva) _ _ elsewhere ∙ no_piece pieces rva (λ index other e passes. none (suc index) other e passes)
    ]

missing_byte : (plan : ImagePlan) (rva : ℕ) → IsLoadable plan → first_below (length plan.rows) (is_copied_into (image_file plan) rva) ≡ None → piece_byte (own_bytes plan) rva ≡ 0
missing_byte plan rva placed none = no_piece (own_bytes plan) rva outside
  where
    outside : (index : ℕ) (piece : PlacedBytes) → slice_get (own_bytes plan) index ≡ Some piece → holds piece rva ≡ true → ⊥
    outside index piece e passes =
        let inside = placed.pieces index rva piece e passes in
        let k = inside.0 in
        let row = inside.1.0 in
        let within : k < length plan.rows = slice_get_within plan.rows k row inside.1.1 in
        false≢true (sym (first_below-none (length plan.rows) (is_copied_into (image_file plan) rva) none k within) ∙ into_row plan rva k row placed inside.1.1 inside.1.2 inside.1.3)

-- ---- every byte

byte_of_sections : (plan : ImagePlan) (rva : ℕ) → IsLoadable plan → section_byte (image_file plan) rva (first_below (length plan.rows) (is_copied_into (image_file plan) rva)) ≡ piece_byte (own_bytes plan) rva
byte_of_sections plan rva placed = by_first (first_below (length plan.rows) (is_copied_into (image_file plan) rva)) refl
  where
    by_first : (first : Option ℕ) → first_below (length plan.rows) (is_copied_into (image_file plan) rva) ≡ first → section_byte (image_file plan) rva first ≡ piece_byte (own_bytes plan) rva
    by_first None e = sym (missing_byte plan rva placed e)
    by_first (Some k) e =
        let found = first_below-some (length plan.rows) k (is_copied_into (image_file plan) rva) e in
        found_byte plan rva k placed found.0 found.1.0

pub copied_byte_is : (plan : ImagePlan) (rva : ℕ) → IsLoadable plan → copied_byte (image_file plan) rva ≡ expected_byte plan plan.headers.base rva
unfolding copied_byte expected_byte
copied_byte_is plan rva placed =
    rw (headers_size_reads plan placed, count_reads plan placed) (by_place (nat_lt rva (size_of_headers (length plan.rows))) refl)
  where
    by_place : (before : Bool) → nat_lt rva (size_of_headers (length plan.rows)) ≡ before → cond before (slice_index (image_file plan) rva) (section_byte (image_file plan) rva (first_below (length plan.rows) (is_copied_into (image_file plan) rva))) ≡ cond before (slice_index (plan_headers plan) rva) (piece_byte (own_bytes plan) rva)
    by_place true e = header_byte plan rva placed.writable (ltb-true _ _ e)
    by_place false e = byte_of_sections plan rva placed

same_maps : (f g : ℕ → ℕ) (xs : List ℕ) → ((x : ℕ) → f x ≡ g x) → map f xs ≡ map g xs
same_maps f g [] same = refl
same_maps f g (x ∷ xs) same = rw (same x, same_maps f g xs same) refl

-- what is copied is what the plan says of its own base
pub copied_is : (plan : ImagePlan) → IsLoadable plan → copied (image_file plan) ≡ expected_image plan plan.headers.base
unfolding copied expected_image
copied_is plan placed =
    ap (λ (n : ℕ). map (copied_byte (image_file plan)) (range_with_len 0 n)) (size_reads plan placed)
    ∙ same_maps (copied_byte (image_file plan)) (expected_byte plan plan.headers.base) (range_with_len 0 plan.size) (λ rva. copied_byte_is plan rva placed)

-- ---- the fields that are raised

pub walk_is : (plan : ImagePlan) (placed : IsLoadable plan) → base_walk (image_file plan) ≡ Fields placed.relocatable.fields
unfolding base_walk
walk_is plan placed =
    let relocatable = placed.relocatable in
    let said = table_reads plan placed in
    let fits = placed.size_fits in
    rw (size_reads plan placed, said.rva, said.size, copied_is plan placed) (
    ap (walk_of plan.size) relocatable.lists
    ∙ table_lists plan.size relocatable.fields (omega (arith, fits)) relocatable.ascending relocatable.within)
