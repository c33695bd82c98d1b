-- The directories and sections of a loaded image are those of its headers.
use Rattle.std.proofs.Common.{◌≡◌, ℕ, ◌+◌, ◌-◌, Bool, cond, eqb, List, [], ◌∷◌, ◌++◌, map, Some, None, refl, sym, ap, ◌∙◌, inl, inr, lt-ltb, le-leb, arith}
use Rattle.std.specs.List.{range_with_len, slice_get}
use Rattle.std.proofs.lemmas.Bool.{cases_lt, ne_eqb, lt-leb}
use Rattle.std.proofs.lemmas.Option.{slice_get-get_or, slice_get_past}
use Rattle.std.proofs.lemmas.List.FromFn.{get_or-map-range_with_len, length-map-range_with_len, map-range_with_len_more}
use Rattle.pe_loader.specs.LoadedImage.{section_count, virtual_size, virtual_address}
use Rattle.pe_loader.specs.Extents.{section_extent, numbered_section}

pub sections_grow : (image : List ℕ) (index : ℕ) (found new : List (ℕ × ℕ)) (rva size : ℕ) → found ≡ map (section_extent image) (range_with_len 0 index) → rva ≡ virtual_address image index → size ≡ virtual_size image index → new ≡ found ++ (rva, size) ∷ [] → new ≡ map (section_extent image) (range_with_len 0 (index + 1))
sections_grow image index found new rva size was place len grown =
    grown
    ∙ ap (λ (xs : List (ℕ × ℕ)). xs ++ (rva, size) ∷ []) was
    ∙ ap (λ (n : ℕ). map (section_extent image) (range_with_len 0 index) ++ (n, size) ∷ []) place
    ∙ ap (λ (n : ℕ). map (section_extent image) (range_with_len 0 index) ++ (virtual_address image index, n) ∷ []) len
    ∙ sym (map-range_with_len_more (section_extent image) 0 index index (omega arith))

pub section_numbered : (image : List ℕ) (found : List (ℕ × ℕ)) (number : ℕ) → found ≡ map (section_extent image) (range_with_len 0 (section_count image)) → cond (eqb number 0) None (slice_get found (number - 1)) ≡ numbered_section image number
section_numbered image found number is =
    elim (cases_lt 0 number) [
      | inl some ↦
          (elim (cases_lt (number - 1) (section_count image)) [
            | inl below ↦
                ap (λ (b : Bool). cond b None (slice_get found (number - 1))) (ne_eqb number 0 (omega arith))
                ∙ ap (λ (xs : List (ℕ × ℕ)). slice_get xs (number - 1)) is
                ∙ slice_get-get_or (map (section_extent image) (range_with_len 0 (section_count image))) (number - 1) (0, 0) (omega (arith, length-map-range_with_len (section_extent image) 0 (section_count image), below))
                ∙ ap (λ (e : ℕ × ℕ). Some e) (get_or-map-range_with_len (section_extent image) 0 (section_count image) (number - 1) (number - 1) (0, 0) below (omega arith))
                ∙ sym (rw (lt-ltb 0 number some, le-leb number (section_count image) (omega (arith, below, some))) refl)
            | inr past ↦
                ap (λ (b : Bool). cond b None (slice_get found (number - 1))) (ne_eqb number 0 (omega arith))
                ∙ ap (λ (xs : List (ℕ × ℕ)). slice_get xs (number - 1)) is
                ∙ slice_get_past (map (section_extent image) (range_with_len 0 (section_count image))) (number - 1) (omega (arith, length-map-range_with_len (section_extent image) 0 (section_count image), past))
                ∙ sym (rw (lt-ltb 0 number some, lt-leb number (section_count image) (omega (arith, past, some))) refl)
          ])
      | inr none ↦
          let zero_is : number ≡ 0 = omega arith in
          rw zero_is refl
    ]
