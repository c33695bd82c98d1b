-- The memory that is made section by section is the one of the definitions, since sections ascend and share no byte.
use Rattle.std.proofs.Common.{◌≡◌, ℕ, zero, suc, ◌+◌, ◌-◌, ◌<◌, ◌≤◌, true, false, nat_lt, leb, ltb, List, ◌++◌, length, drop, replicate, slice_index, refl, sym, ap, ◌∙◌, inl, inr, lt-ltb, le-leb, add-one, length-append, arith}
use Rattle.std.proofs.lemmas.Bool.{and_from, and_left, and_right, cases_lt, cond-true, cond-false, le-ltb, lt-leb}
use Rattle.std.proofs.lemmas.Grind.{same_number_lists}
use Rattle.std.proofs.lemmas.List.{get_or_append_left, get_or-append_right, get_or-take, get_or-drop, get_or-replicate, length-replicate}
use Rattle.link_base.specs.Bytes.{bytes_at}
use Rattle.link_base.proofs.CallerLemmas.{first_below-found, first_below-all_fail}
use Rattle.pe_loader.specs.LoadedImage.{section_count, size_of_image, headers_size, virtual_address, section_floor, raw_offset, copied_len, is_copied_into, section_byte, copied_byte, copied}
use Rattle.pe_loader.specs.Copying.{copied_end, IsCopiedBefore}
use Rattle.pe_loader.proofs.ImageTests.{Passes, headers_lie, section_lies, floors_rise, sections_part, copied_reads, length-copied}

-- ---- where what is copied ends

end_next : (image : List ℕ) (index : ℕ) → copied_end image (index + 1) ≡ virtual_address image index + copied_len image index
end_next image index = rw add-one refl

end_below_floor : (image : List ℕ) (index : ℕ) → copied_end image index ≤ section_floor image index
end_below_floor image zero = omega arith
end_below_floor image (suc index) = omega arith

pub end_below : (image : List ℕ) (index : ℕ) → Passes image → index < section_count image → copied_end image index ≤ virtual_address image index
end_below image index passes lt =
    omega (arith, end_below_floor image index, (section_lies image index passes lt).above)

pub end_inside : (image : List ℕ) (index : ℕ) → Passes image → index ≤ section_count image → copied_end image index ≤ size_of_image image
end_inside image zero passes le = (headers_lie image passes).in_image
end_inside image (suc index) passes le = omega (arith, (section_lies image index passes (omega arith)).inside)

section_above : (image : List ℕ) (index : ℕ) → Passes image → index < section_count image → headers_size image ≤ virtual_address image index
section_above image index passes lt =
    omega (arith, floors_rise image 0 index passes (omega arith) (omega arith), (section_lies image index passes lt).above)

end_above : (image : List ℕ) (index : ℕ) → Passes image → index ≤ section_count image → headers_size image ≤ copied_end image index
end_above image zero passes le = omega arith
end_above image (suc index) passes le = omega (arith, section_above image index passes (omega arith))

end_after : (image : List ℕ) (index k : ℕ) → Passes image → index ≤ section_count image → k < index → virtual_address image k + copied_len image k ≤ copied_end image index
end_after image zero k passes le lt = absurd (omega arith)
end_after image (suc index) k passes le lt =
    elim (cases_lt k index) [
      | inl before ↦ omega (arith, sections_part image k index passes before (omega arith))
      | inr last ↦ let same : k ≡ index = omega arith in rw same (omega arith)
    ]

-- ---- which section copies into an RVA

below_it : (image : List ℕ) (rva k : ℕ) → rva < virtual_address image k → is_copied_into image rva k ≡ false
below_it image rva k lt =
    and_left (leb (virtual_address image k) rva) (ltb rva (virtual_address image k + copied_len image k)) (lt-leb (virtual_address image k) rva lt)

behind_it : (image : List ℕ) (rva k : ℕ) → virtual_address image k + copied_len image k ≤ rva → is_copied_into image rva k ≡ false
behind_it image rva k le =
    and_right (leb (virtual_address image k) rva) (ltb rva (virtual_address image k + copied_len image k)) (le-ltb rva (virtual_address image k + copied_len image k) le)

-- none, between what is copied before a section and the section
between : (image : List ℕ) (index rva k : ℕ) → Passes image → index ≤ section_count image → copied_end image index ≤ rva → (index < section_count image → rva < virtual_address image index) → k < section_count image → is_copied_into image rva k ≡ false
between image index rva k passes le low high lt =
    elim (cases_lt k index) [
      | inl before ↦ behind_it image rva k (omega (arith, end_after image index k passes le before))
      | inr after ↦
          (elim (cases_lt index k) [
            | inl above ↦
                let here = high (omega arith) in
                below_it image rva k (omega (arith, here, sections_part image index k passes above lt))
            | inr last ↦
                let same : k ≡ index = omega arith in
                let here = high (omega arith) in
                rw same (below_it image rva index here)
          ])
    ]

gap_zero : (image : List ℕ) (index rva : ℕ) → Passes image → index ≤ section_count image → copied_end image index ≤ rva → (index < section_count image → rva < virtual_address image index) → copied_byte image rva ≡ 0
unfolding copied_byte
gap_zero image index rva passes le low high =
    cond-false (nat_lt rva (headers_size image)) _ _ (le-ltb rva (headers_size image) (omega (arith, low, end_above image index passes le)))
    ∙ ap (section_byte image rva) (first_below-all_fail (section_count image) (is_copied_into image rva) (λ k lt. between image index rva k passes le low high lt))

section_read : (image : List ℕ) (index rva : ℕ) → Passes image → index < section_count image → virtual_address image index ≤ rva → rva < virtual_address image index + copied_len image index → copied_byte image rva ≡ slice_index image (raw_offset image index + (rva - virtual_address image index))
unfolding copied_byte
section_read image index rva passes lt low high =
    let into : is_copied_into image rva index ≡ true = and_from _ _ (le-leb (virtual_address image index) rva low) (lt-ltb rva (virtual_address image index + copied_len image index) high) in
    let none = first_below-all_fail index (is_copied_into image rva) (λ k before. behind_it image rva k (omega (arith, low, sections_part image k index passes before lt))) in
    cond-false (nat_lt rva (headers_size image)) _ _ (le-ltb rva (headers_size image) (omega (arith, low, section_above image index passes lt)))
    ∙ ap (section_byte image rva) (first_below-found index (section_count image) (is_copied_into image rva) lt none into)

-- ---- the memory as it grows

pub headers_copied : (image memory part : List ℕ) → Passes image → part ≡ bytes_at image 0 (headers_size image) → length part ≡ headers_size image → memory ≡ part → IsCopiedBefore image 0 memory
unfolding copied_byte
headers_copied image memory part passes is len same = record {
  ends = ap length same ∙ len;
  bytes = λ rva lt.
      let low : rva < headers_size image = omega (arith, lt, ap length same, len) in
      ap (λ (xs : List ℕ). slice_index xs rva) (same ∙ is)
      ∙ get_or-take (headers_size image) (drop 0 image) rva 0 low
      ∙ get_or-drop 0 image rva 0
      ∙ ap (slice_index image) (from_zero rva)
      ∙ sym (cond-true (nat_lt rva (headers_size image)) (slice_index image rva) _ (lt-ltb rva (headers_size image) low));
}
  where
    from_zero : (n : ℕ) → 0 + n ≡ n
    from_zero n = omega arith

zeros_hold : (image memory : List ℕ) (index count : ℕ) → Passes image → index ≤ section_count image → IsCopiedBefore image index memory → (index < section_count image → length memory + count ≤ virtual_address image index) → (rva : ℕ) → rva < length memory + count → slice_index (memory ++ replicate count 0) rva ≡ copied_byte image rva
zeros_hold image memory index count passes le before fits rva lt =
    elim (cases_lt rva (length memory)) [
      | inl head ↦ get_or_append_left memory (replicate count 0) 0 rva head ∙ before.bytes rva head
      | inr past ↦
          get_or-append_right memory (replicate count 0) (length memory) rva 0 refl past
          ∙ get_or-replicate count (rva - length memory) 0 0 (omega arith)
          ∙ sym (gap_zero image index rva passes le (omega (arith, before.ends, past)) (λ less. omega (arith, fits less, lt)))
    ]

length_padded : (memory : List ℕ) (end : ℕ) → length memory ≤ end → length (memory ++ replicate (end - length memory) 0) ≡ end
length_padded memory end le =
    omega (arith, length-append memory (replicate (end - length memory) 0), length-replicate {A = ℕ} (end - length memory) 0)

pub section_appended : (image memory padded bytes new : List ℕ) (index : ℕ) → Passes image → index < section_count image → IsCopiedBefore image index memory → padded ≡ memory ++ replicate (virtual_address image index - length memory) 0 → bytes ≡ bytes_at image (raw_offset image index) (copied_len image index) → length bytes ≡ copied_len image index → new ≡ padded ++ bytes → IsCopiedBefore image (index + 1) new
section_appended image memory padded bytes new index passes lt before pad is len grown = record { ends = grown_len ∙ sym (end_next image index); bytes = each }
  where
    low : length memory ≤ virtual_address image index
    low = omega (arith, before.ends, end_below image index passes lt)

    padded_len : length padded ≡ virtual_address image index
    padded_len = ap length pad ∙ length_padded memory (virtual_address image index) low

    grown_len : length new ≡ virtual_address image index + copied_len image index
    grown_len = ap length grown ∙ length-append padded bytes ∙ omega (arith, padded_len, len)

    each : (rva : ℕ) → rva < length new → slice_index new rva ≡ copied_byte image rva
    each rva inside =
        elim (cases_lt rva (virtual_address image index)) [
          | inl head ↦
              ap (λ (xs : List ℕ). slice_index xs rva) grown
              ∙ get_or_append_left padded bytes 0 rva (omega (arith, padded_len, head))
              ∙ ap (λ (xs : List ℕ). slice_index xs rva) pad
              ∙ zeros_hold image memory index (virtual_address image index - length memory) passes (omega (arith, lt)) before (λ less. omega (arith, low)) rva (omega (arith, low, head))
          | inr past ↦
              let short : rva < virtual_address image index + copied_len image index = omega (arith, grown_len, inside) in
              ap (λ (xs : List ℕ). slice_index xs rva) grown
              ∙ get_or-append_right padded bytes (virtual_address image index) rva 0 padded_len past
              ∙ ap (λ (xs : List ℕ). slice_index xs (rva - virtual_address image index)) is
              ∙ get_or-take (copied_len image index) (drop (raw_offset image index) image) (rva - virtual_address image index) 0 (omega (arith, short, past))
              ∙ get_or-drop (raw_offset image index) image (rva - virtual_address image index) 0
              ∙ sym (section_read image index rva passes lt past short)
        ]

pub memory_copied : (image memory filled : List ℕ) (index : ℕ) → Passes image → index ≡ section_count image → IsCopiedBefore image index memory → filled ≡ memory ++ replicate (size_of_image image - length memory) 0 → filled ≡ copied image
memory_copied image memory filled index passes last before fill = same_number_lists filled (copied image) (filled_len ∙ sym (length-copied image)) each
  where
    le : index ≤ section_count image
    le = omega (arith, last)

    low : length memory ≤ size_of_image image
    low = omega (arith, before.ends, end_inside image index passes le)

    filled_len : length filled ≡ size_of_image image
    filled_len = ap length fill ∙ length_padded memory (size_of_image image) low

    each : (k : ℕ) → k < length filled → slice_index filled k ≡ slice_index (copied image) k
    each k lt =
        let inside : k < size_of_image image = omega (arith, filled_len, lt) in
        ap (λ (xs : List ℕ). slice_index xs k) fill
        ∙ zeros_hold image memory index (size_of_image image - length memory) passes le before (λ less. absurd (omega (arith, last, less))) k (omega (arith, low, inside))
        ∙ sym (copied_reads image k inside)
