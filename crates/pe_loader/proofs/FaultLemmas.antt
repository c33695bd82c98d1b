-- The fault of a file from those of its parts, and what a file without one has.
use Rattle.std.proofs.Common.{◌≡◌, ℕ, zero, suc, ◌+◌, ◌<◌, ◌≤◌, Bool, true, false, cond, leb, ltb, List, [], ◌∷◌, length, take, drop, Option, Some, None, refl, ap, ◌∙◌, add-one, arith}
use Rattle.std.specs.Option.{option_or}
use Rattle.std.proofs.lemmas.Bool.{and_parts, leb-true}
use Rattle.link_base.specs.declared.kinds.image.ImageKind.{ImageKind}
use Rattle.link_base.specs.declared.kinds.image.ImageKind.TheVariants as bad
use Rattle.link_base.proofs.CallerLemmas.{all_below-each, all_below-fails}
use Rattle.pe_loader.specs.LoadedImage.{section_count, size_of_image, section_at, virtual_size, virtual_address, section_floor, is_section_placed, is_section_in_file, has_headers, has_size, has_sections, has_raw_bytes, has_blocks, first_failed, image_tests, header_fault, file_fault, image_fault}
use Rattle.pe_loader.proofs.ImageTests.{Passes, nth_passes, headers_there}

-- ---- the tests in two parts

failed_split : (k : ℕ) (tests : List (ImageKind × Bool)) → first_failed tests ≡ option_or (first_failed (take k tests)) (first_failed (drop k tests))
failed_split zero [] = refl
failed_split zero ((kind, passes) ∷ tests) = refl
failed_split (suc k) [] = refl
failed_split (suc k) ((kind, true) ∷ tests) = failed_split k tests
failed_split (suc k) ((kind, false) ∷ tests) = refl

abbrev pub sections_fault : Bool → Bool → Option ImageKind
sections_fault sections raw = cond sections (cond raw None (Some bad.Raw)) (Some bad.Sections)

pub file_fault_parts : (image : List ℕ) → file_fault image ≡ option_or (header_fault image) (sections_fault (has_sections image) (has_raw_bytes image))
unfolding file_fault header_fault
file_fault_parts image = failed_split 9 (take 11 (image_tests image))

pub image_fault_parts : (image : List ℕ) → image_fault image ≡ option_or (file_fault image) (cond (has_blocks image) None (Some bad.Blocks))
unfolding image_fault file_fault
image_fault_parts image = failed_split 11 (image_tests image)

-- a fault of the file is that of the image
pub file_fault_stands : (image : List ℕ) (kind : ImageKind) → file_fault image ≡ Some kind → image_fault image ≡ Some kind
file_fault_stands image kind e =
    image_fault_parts image ∙ ap (λ (o : Option ImageKind). option_or o (cond (has_blocks image) None (Some bad.Blocks))) e

-- where the file has none, the blocks decide
pub blocks_decide : (image : List ℕ) → file_fault image ≡ None → image_fault image ≡ cond (has_blocks image) None (Some bad.Blocks)
blocks_decide image e =
    image_fault_parts image ∙ ap (λ (o : Option ImageKind). option_or o (cond (has_blocks image) None (Some bad.Blocks))) e

-- ---- what stands where none fails

pub header_table : (image : List ℕ) → header_fault image ≡ None → section_at image (section_count image) ≤ length image
unfolding header_fault
header_table image fine =
    let lie = headers_there image (nth_passes (take 9 (image_tests image)) 8 (bad.Headers, has_headers image) fine refl) in
    omega (arith, lie.table, lie.in_file)

pub file_passes : (image : List ℕ) → file_fault image ≡ None → Passes image
unfolding file_fault
file_passes image fine = record {
  headers = nth_passes (take 11 (image_tests image)) 8 (bad.Headers, has_headers image) fine refl;
  sections = nth_passes (take 11 (image_tests image)) 9 (bad.Sections, has_sections image) fine refl;
}

pub file_table : (image : List ℕ) → file_fault image ≡ None → section_at image (section_count image) ≤ length image
file_table image fine =
    let lie = headers_there image (file_passes image fine).headers in
    omega (arith, lie.table, lie.in_file)

pub file_dos : (image : List ℕ) → file_fault image ≡ None → 64 ≤ length image
file_dos image fine = omega (arith, file_table image fine)

pub file_size : (image : List ℕ) → file_fault image ≡ None → size_of_image image ≤ 536870912
unfolding file_fault has_size
file_size image fine =
    let size : has_size image ≡ true = nth_passes (take 11 (image_tests image)) 7 (bad.ImageSize, has_size image) fine refl in
    leb-true _ _ (and_parts (ltb 0 (size_of_image image)) (leb (size_of_image image) 536870912) size).1

pub file_raw : (image : List ℕ) (index : ℕ) → file_fault image ≡ None → index < section_count image → is_section_in_file image index ≡ true
unfolding file_fault has_raw_bytes
file_raw image index fine lt =
    let raw : has_raw_bytes image ≡ true = nth_passes (take 11 (image_tests image)) 10 (bad.Raw, has_raw_bytes image) fine refl in
    all_below-each (section_count image) (is_section_in_file image) raw index lt

-- ---- sections one after the other

pub floor_next : (image : List ℕ) (index : ℕ) → section_floor image (index + 1) ≡ virtual_address image index + virtual_size image index
floor_next image index = rw add-one refl

pub section_unplaced : (image : List ℕ) (index : ℕ) → index < section_count image → is_section_placed image index ≡ false → has_sections image ≡ false
unfolding has_sections
section_unplaced image index lt fails = all_below-fails (section_count image) index (is_section_placed image) lt fails

pub raw_outside : (image : List ℕ) (index : ℕ) → index < section_count image → is_section_in_file image index ≡ false → has_raw_bytes image ≡ false
unfolding has_raw_bytes
raw_outside image index lt fails = all_below-fails (section_count image) index (is_section_in_file image) lt fails
