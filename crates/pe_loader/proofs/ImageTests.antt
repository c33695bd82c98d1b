-- What the tests of an image say where none fails.
use Rattle.std.proofs.Common.{◌≡◌, ℕ, ◌+◌, ◌<◌, ◌≤◌, Bool, true, false, cond, ◌&&◌, List, [], ◌∷◌, length, Option, Some, None, is_none, slice_index, slice_get, ◌-◌, ◌%◌, ◌==◌, nat_lt, leb, zero, suc, inl, inr, refl, sym, ap, ◌∙◌, subst, arith}
use Rattle.std.proofs.lemmas.Bool.{and_parts, cases_lt, leb-true}
use Rattle.std.proofs.lemmas.List.{get_or_past}
use Rattle.std.proofs.lemmas.List.FromFn.{get_or-map-range_with_len, length-map-range_with_len}
use Rattle.link_base.specs.Bytes.{first_below}
use Rattle.link_base.specs.declared.kinds.image.ImageKind.{ImageKind}
use Rattle.link_base.specs.declared.kinds.image.ImageKind.TheVariants as bad
use Rattle.link_base.proofs.CallerLemmas.{all_below-each}
use Rattle.address_layout.specs.PermittedBase.{is_permitted}
use Rattle.base_reloc.specs.Blocks.{walked_fields, raised_all}
use Rattle.base_reloc.proofs.CallerLemmas.{HaveBytes, walk_raises_nothing}
use Rattle.pe_loader.specs.LoadedImage.{section_count, image_base, size_of_image, headers_size, section_at, virtual_size, virtual_address, section_floor, is_section_placed, raw_offset, has_headers, has_sections, is_copied_into, section_byte, copied_byte, copied, base_walk, base_rule, base_delta, first_failed, image_tests, image_fault, loaded}

-- ---- no test fails

none_failed : (kind : ImageKind) (passes : Bool) (tests : List (ImageKind × Bool)) → first_failed ((kind, passes) ∷ tests) ≡ None → (passes ≡ true) × (first_failed tests ≡ None)
none_failed kind true tests e = (refl, e)
none_failed kind false tests e = absurd cc

pub record Passes (image : List ℕ) : Type 0 where
  pub headers : has_headers image ≡ true
  pub sections : has_sections image ≡ true

pub nth_passes : (tests : List (ImageKind × Bool)) (k : ℕ) (test : ImageKind × Bool) → first_failed tests ≡ None → slice_get tests k ≡ Some test → test.1 ≡ true
nth_passes [] k test fine e = absurd cc
nth_passes ((kind, passes) ∷ tests) zero test fine e =
    let same : (kind, passes) ≡ test = cc in subst (λ (t : ImageKind × Bool). t.1 ≡ true) same (none_failed kind passes tests fine).0
nth_passes ((kind, passes) ∷ tests) (suc k) test fine e = nth_passes tests k test (none_failed kind passes tests fine).1 e

pub passes : (image : List ℕ) → image_fault image ≡ None → Passes image
unfolding image_fault
passes image fine = record {
  headers = nth_passes (image_tests image) 8 (bad.Headers, has_headers image) fine refl;
  sections = nth_passes (image_tests image) 9 (bad.Sections, has_sections image) fine refl;
}

-- ---- the headers lie in the file

pub record HeadersLie (image : List ℕ) : Type 0 where
  pub table : section_at image (section_count image) ≤ headers_size image
  pub in_file : headers_size image ≤ length image
  pub in_image : headers_size image ≤ size_of_image image

pub headers_there : (image : List ℕ) → has_headers image ≡ true → HeadersLie image
unfolding has_headers
headers_there image there =
    let parts = and_parts (leb (section_at image (section_count image)) (headers_size image)) _ there in
    let more = and_parts (leb (headers_size image) (length image)) (leb (headers_size image) (size_of_image image)) parts.1 in
    record { table = leb-true _ _ parts.0; in_file = leb-true _ _ more.0; in_image = leb-true _ _ more.1 }

pub headers_lie : (image : List ℕ) → Passes image → HeadersLie image
headers_lie image passes = headers_there image passes.headers

-- ---- the sections ascend

pub record SectionLies (image : List ℕ) (index : ℕ) : Type 0 where
  pub above : section_floor image index ≤ virtual_address image index
  pub inside : virtual_address image index + virtual_size image index ≤ size_of_image image

pub section_lies : (image : List ℕ) (index : ℕ) → Passes image → index < section_count image → SectionLies image index
unfolding has_sections
section_lies image index passes lt =
    let here = all_below-each (section_count image) (is_section_placed image) passes.sections index lt in
    let parts = and_parts (virtual_address image index % 4096 == 0) _ here in
    let more = and_parts (leb (section_floor image index) (virtual_address image index)) (leb (virtual_address image index + virtual_size image index) (size_of_image image)) parts.1 in
    record { above = leb-true _ _ more.0; inside = leb-true _ _ more.1 }

pub floors_rise : (image : List ℕ) (j k : ℕ) → Passes image → j ≤ k → k ≤ section_count image → section_floor image j ≤ section_floor image k
floors_rise image j zero passes le fits =
    let same : j ≡ 0 = omega arith in subst (λ (n : ℕ). section_floor image n ≤ section_floor image 0) (sym same) (omega arith)
floors_rise image j (suc k) passes le fits =
    elim (cases_lt j (suc k)) [
      | inl before ↦
          let up = floors_rise image j k passes (omega arith) (omega arith) in
          let here = section_lies image k passes (omega arith) in
          omega (arith, up, here.above)
      | inr last ↦
          let same : j ≡ suc k = omega arith in subst (λ (n : ℕ). section_floor image n ≤ section_floor image (suc k)) (sym same) (omega arith)
    ]

-- an earlier section ends at or before a later one
pub sections_part : (image : List ℕ) (j k : ℕ) → Passes image → j < k → k < section_count image → virtual_address image j + virtual_size image j ≤ virtual_address image k
sections_part image j k passes lt fits =
    let up = floors_rise image (suc j) k passes lt (omega arith) in
    omega (arith, up, (section_lies image k passes fits).above)

-- ---- the memory at the image's own base

copied_small : (image : List ℕ) (rva : ℕ) → HaveBytes image → copied_byte image rva < 256
unfolding copied_byte
copied_small image rva small = front (nat_lt rva (headers_size image))
  where
    of_section : (found : Option ℕ) → section_byte image rva found < 256
    of_section None = omega arith
    of_section (Some index) = small (raw_offset image index + (rva - virtual_address image index))

    front : (b : Bool) → cond b (slice_index image rva) (section_byte image rva (first_below (section_count image) (is_copied_into image rva))) < 256
    front true = small rva
    front false = of_section (first_below (section_count image) (is_copied_into image rva))

pub copied_reads : (image : List ℕ) (rva : ℕ) → rva < size_of_image image → slice_index (copied image) rva ≡ copied_byte image rva
unfolding copied
copied_reads image rva lt = get_or-map-range_with_len (copied_byte image) 0 (size_of_image image) rva rva 0 lt (omega arith)

pub length-copied : (image : List ℕ) → length (copied image) ≡ size_of_image image
unfolding copied
length-copied image = length-map-range_with_len (copied_byte image) 0 (size_of_image image)

copied_bytes : (image : List ℕ) → HaveBytes image → HaveBytes (copied image)
copied_bytes image small rva =
    elim (cases_lt rva (size_of_image image)) [
      | inl lt ↦ let same = copied_reads image rva lt in omega (arith, same, copied_small image rva small)
      | inr past ↦ let none = get_or_past (copied image) rva 0 (omega (arith, length-copied image, past)) in omega (arith, none)
    ]

no_delta : (own : ℕ) → base_delta own own ≡ 0
no_delta own = omega arith

abbrev at_own : List ℕ → List ℕ
at_own image = raised_all (base_delta (image_base image) (image_base image)) (copied image) (walked_fields (base_walk image))

pub record OwnMemory (image memory : List ℕ) : Type 0 where
  pub passes : Passes image
  pub is : memory ≡ copied image

-- what stands in memory at the image's own base is what is copied
pub own_memory : (image memory : List ℕ) → HaveBytes image → loaded image (image_base image) ≡ Some memory → OwnMemory image memory
unfolding loaded base_walk
own_memory image memory small e = go (image_fault image) (is_permitted (base_rule image) (size_of_image image) (image_base image)) refl e
  where
    kept : at_own image ≡ copied image
    kept =
        ap (λ (d : ℕ). raised_all d (copied image) (walked_fields (base_walk image))) (no_delta (image_base image))
        ∙ walk_raises_nothing (copied image) _ (size_of_image image) (copied_bytes image small) (length-copied image)

    go : (fault : Option ImageKind) (permitted : Bool) → image_fault image ≡ fault → cond (is_none fault && permitted) (Some (at_own image)) None ≡ Some memory → OwnMemory image memory
    go None true fine said = let same : at_own image ≡ memory = cc in record { passes = passes image fine; is = sym same ∙ kept }
    go None false fine said = absurd cc
    go (Some kind) permitted fine said = absurd cc
