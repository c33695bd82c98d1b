-- An image with no byte besides those that it loads is settled by its memory.
use Rattle.std.proofs.Common.{◌≡◌, ℕ, zero, suc, ◌+◌, ◌-◌, ◌*◌, ◌<◌, ◌≤◌, nat_lt, leb, ltb, true, List, length, slice_index, Option, Some, None, refl, sym, ap, ◌∙◌, inl, inr, lt-ltb, le-leb, arith}
use Rattle.std.specs.List.{All}
use Rattle.std.proofs.lemmas.Bool.{and_from, and_parts, cases_lt, leb-true, ltb-true, cond-true, cond-false, false≢true, le-ltb}
use Rattle.std.proofs.lemmas.Grind.{same_number_lists}
use Rattle.link_base.specs.Bytes.{number_at, u16_at, u32_at, first_below}
use Rattle.link_base.proofs.CallerLemmas.{first_below-none, first_below-some, first_below-all_fail}
use Rattle.link_base.proofs.PutLemmas.{number_at-same}
use Rattle.base_reloc.proofs.CallerLemmas.{have_bytes}
use Rattle.pe_loader.specs.LoadedImage.{signature_at, file_header_at, optional_at, section_count, image_base, headers_size, section_at, virtual_size, virtual_address, raw_size, raw_offset, copied_len, is_copied_into, section_byte, copied_byte, copied, loaded, file_end, is_copied_from, HasZeroSlack}
use Rattle.pe_loader.proofs.ImageTests.{Passes, headers_lie, section_lies, floors_rise, sections_part, copied_reads, own_memory}

-- ---- the headers

head_byte : (image : List ℕ) (o : ℕ) → Passes image → o < headers_size image → slice_index (copied image) o ≡ slice_index image o
unfolding copied_byte
head_byte image o passes lt =
    let lie = headers_lie image passes in
    copied_reads image o (omega (arith, lie.in_image, lt)) ∙ cond-true (nat_lt o (headers_size image)) (slice_index image o) _ (lt-ltb o (headers_size image) lt)

record Pair (a b : List ℕ) : Type 0 where
  first : Passes a
  second : Passes b
  same : copied a ≡ copied b

read_same : (a b : List ℕ) (width o : ℕ) → Pair a b → o + width ≤ headers_size a → o + width ≤ headers_size b → number_at width a o ≡ number_at width b o
read_same a b width o pair low high =
    number_at-same width o a b (λ k above below.
    sym (head_byte a k pair.first (omega (arith, low, below)))
    ∙ ap (λ (xs : List ℕ). slice_index xs k) pair.same
    ∙ head_byte b k pair.second (omega (arith, high, below)))

signature_same : (a b : List ℕ) → Pair a b → signature_at a ≡ signature_at b
unfolding signature_at
signature_same a b pair =
    let first = (headers_lie a pair.first).table in
    let second = (headers_lie b pair.second).table in
    read_same a b 4 60 pair (omega (arith, first)) (omega (arith, second))

headers_same : (a b : List ℕ) → Pair a b → headers_size a ≡ headers_size b
unfolding headers_size
headers_same a b pair =
    let first = (headers_lie a pair.first).table in
    let second = (headers_lie b pair.second).table in
    let here = signature_same a b pair in
    read_same a b 4 (optional_at a + 60) pair (omega (arith, first)) (omega (arith, second, here))
    ∙ ap (λ (s : ℕ). u32_at b (s + 24 + 60)) here

count_same : (a b : List ℕ) → Pair a b → section_count a ≡ section_count b
unfolding section_count
count_same a b pair =
    let first = (headers_lie a pair.first).table in
    let second = (headers_lie b pair.second).table in
    let here = signature_same a b pair in
    read_same a b 2 (file_header_at a + 2) pair (omega (arith, first)) (omega (arith, second, here))
    ∙ ap (λ (s : ℕ). u16_at b (s + 4 + 2)) here

field_same : (a b : List ℕ) (k offset : ℕ) → Pair a b → k < section_count a → offset + 4 ≤ 40 → u32_at a (section_at a k + offset) ≡ u32_at b (section_at b k + offset)
field_same a b k offset pair lt fits =
    let first = (headers_lie a pair.first).table in
    let second = (headers_lie b pair.second).table in
    let here = signature_same a b pair in
    let count = count_same a b pair in
    read_same a b 4 (section_at a k + offset) pair (omega (arith, first, lt, fits)) (omega (arith, second, here, count, lt, fits))
    ∙ ap (λ (s : ℕ). u32_at b (s + 24 + 240 + 40 * k + offset)) here

record SameSection (a b : List ℕ) (k : ℕ) : Type 0 where
  size : virtual_size a k ≡ virtual_size b k
  rva : virtual_address a k ≡ virtual_address b k
  raw : raw_size a k ≡ raw_size b k
  offset : raw_offset a k ≡ raw_offset b k

section_same : (a b : List ℕ) (k : ℕ) → Pair a b → k < section_count a → SameSection a b k
unfolding virtual_size virtual_address raw_size raw_offset
section_same a b k pair lt = record {
  size = field_same a b k 8 pair lt (omega arith);
  rva = field_same a b k 12 pair lt (omega arith);
  raw = field_same a b k 16 pair lt (omega arith);
  offset = field_same a b k 20 pair lt (omega arith);
}

-- ---- the lengths

end_same : (a b : List ℕ) (k : ℕ) → Pair a b → k ≤ section_count a → file_end a k ≡ file_end b k
end_same a b zero pair le = headers_same a b pair
end_same a b (suc k) pair le =
    let here = section_same a b k pair (omega arith) in
    let before = end_same a b k pair (omega arith) in
    rw (here.raw, here.offset, before) refl

length_same : (a b : List ℕ) → Pair a b → HasZeroSlack a → HasZeroSlack b → length a ≡ length b
length_same a b pair first second =
    let count = count_same a b pair in
    first.ends ∙ end_same a b (section_count a) pair (omega arith) ∙ ap (file_end b) count ∙ sym second.ends

-- ---- a byte that a section copies

-- the section that an address is copied into is one
one_section : (image : List ℕ) (j k rva : ℕ) → Passes image → j < section_count image → k < section_count image → virtual_address image j ≤ rva → rva < virtual_address image j + virtual_size image j → virtual_address image k ≤ rva → rva < virtual_address image k + virtual_size image k → j ≡ k
one_section image j k rva passes j_lt k_lt j_low j_high k_low k_high =
    elim (cases_lt j k) [
      | inl before ↦ absurd (omega (arith, sections_part image j k passes before k_lt, j_high, k_low))
      | inr behind ↦
          (elim (cases_lt k j) [
            | inl after ↦ absurd (omega (arith, sections_part image k j passes after j_lt, k_high, j_low))
            | inr last ↦ omega arith
          ])
    ]

copied_at : (image : List ℕ) (k o : ℕ) → Passes image → k < section_count image → is_copied_from image o k ≡ true → slice_index (copied image) (virtual_address image k + (o - raw_offset image k)) ≡ slice_index image o
unfolding copied_byte
copied_at image k o passes lt here =
    let rva = virtual_address image k + (o - raw_offset image k) in
    let parts = and_parts (leb (raw_offset image k) o) (ltb o (raw_offset image k + copied_len image k)) here in
    let low : raw_offset image k ≤ o = leb-true _ _ parts.0 in
    let high : o < raw_offset image k + copied_len image k = ltb-true _ _ parts.1 in
    let lies = section_lies image k passes lt in
    let floor = floors_rise image 0 k passes (omega arith) (omega arith) in
    let above : headers_size image ≤ rva = omega (arith, floor, lies.above) in
    let below : rva < virtual_address image k + copied_len image k = omega (arith, low, high) in
    let into : is_copied_into image rva k ≡ true = and_from _ _ (le-leb (virtual_address image k) rva (omega arith)) (lt-ltb rva (virtual_address image k + copied_len image k) below) in
    copied_reads image rva (omega (arith, below, lies.inside))
    ∙ cond-false (nat_lt rva (headers_size image)) _ _ (le-ltb _ _ above)
    ∙ by_first rva into low below (first_below (section_count image) (is_copied_into image rva)) refl
  where
    back : (start offset o : ℕ) → offset ≤ o → offset + (start + (o - offset) - start) ≡ o
    back start offset o le = omega arith

    by_first : (rva : ℕ) → is_copied_into image (virtual_address image k + (o - raw_offset image k)) k ≡ true → raw_offset image k ≤ o → virtual_address image k + (o - raw_offset image k) < virtual_address image k + copied_len image k → (first : Option ℕ) → first_below (section_count image) (is_copied_into image (virtual_address image k + (o - raw_offset image k))) ≡ first → section_byte image (virtual_address image k + (o - raw_offset image k)) first ≡ slice_index image o
    by_first rva into low below None e =
        absurd (false≢true (sym (first_below-none (section_count image) (is_copied_into image (virtual_address image k + (o - raw_offset image k))) e k lt) ∙ into))
    by_first rva into low below (Some j) e =
        let place = virtual_address image k + (o - raw_offset image k) in
        let found = first_below-some (section_count image) j (is_copied_into image place) e in
        let parts = and_parts (leb (virtual_address image j) place) (ltb place (virtual_address image j + copied_len image j)) found.1.0 in
        let at : virtual_address image j ≤ place = leb-true _ _ parts.0 in
        let under : place < virtual_address image j + copied_len image j = ltb-true _ _ parts.1 in
        let same : j ≡ k = one_section image j k place passes found.0 lt at (omega (arith, under)) (omega arith) (omega (arith, below)) in
        ap (λ (n : ℕ). slice_index image (raw_offset image n + (place - virtual_address image n))) same
        ∙ ap (slice_index image) (back (virtual_address image k) (raw_offset image k) o low)

-- ---- every byte

from_same : (a b : List ℕ) (k o : ℕ) → Pair a b → k < section_count a → is_copied_from a o k ≡ is_copied_from b o k
from_same a b k o pair lt =
    let here = section_same a b k pair lt in
    rw (here.offset, here.raw, here.size) refl

byte_same : (a b : List ℕ) (o : ℕ) → Pair a b → HasZeroSlack a → HasZeroSlack b → slice_index a o ≡ slice_index b o
byte_same a b o pair first second =
    elim (cases_lt o (headers_size a)) [
      | inl head ↦
          let there = headers_same a b pair in
          sym (head_byte a o pair.first head) ∙ ap (λ (xs : List ℕ). slice_index xs o) pair.same ∙ head_byte b o pair.second (omega (arith, head, there))
      | inr past ↦ by_first past (first_below (section_count a) (is_copied_from a o)) refl
    ]
  where
    moved : (va vb oa ob : ℕ) → va ≡ vb → oa ≡ ob → va + (o - oa) ≡ vb + (o - ob)
    moved va vb oa ob e f = omega arith

    by_first : headers_size a ≤ o → (found : Option ℕ) → first_below (section_count a) (is_copied_from a o) ≡ found → slice_index a o ≡ slice_index b o
    by_first past None e =
        let there = headers_same a b pair in
        let count = count_same a b pair in
        let none : first_below (section_count b) (is_copied_from b o) ≡ None = first_below-all_fail (section_count b) (is_copied_from b o) (λ k lt.
        let less : k < section_count a = omega (arith, count, lt) in
        sym (from_same a b k o pair less) ∙ first_below-none (section_count a) (is_copied_from a o) e k less) in
        first.zero_elsewhere o past e ∙ sym (second.zero_elsewhere o (omega (arith, past, there)) none)
    by_first past (Some k) e =
        let found = first_below-some (section_count a) k (is_copied_from a o) e in
        let count = count_same a b pair in
        let here = section_same a b k pair found.0 in
        sym (copied_at a k o pair.first found.0 found.1.0)
        ∙ ap (λ (xs : List ℕ). slice_index xs (virtual_address a k + (o - raw_offset a k))) pair.same
        ∙ ap (slice_index (copied b)) (moved (virtual_address a k) (virtual_address b k) (raw_offset a k) (raw_offset b k) here.rva here.offset)
        ∙ copied_at b k o pair.second (omega (arith, found.0, count)) (sym (from_same a b k o pair found.0) ∙ found.1.0)

-- two files of bytes that load the same memory, each at its own base, and have no byte besides, are one
pub one_image : (a b memory : List ℕ) → All (λ byte. byte < 256) a → All (λ byte. byte < 256) b → loaded a (image_base a) ≡ Some memory → loaded b (image_base b) ≡ Some memory → HasZeroSlack a → HasZeroSlack b → a ≡ b
one_image a b memory small_a small_b loads_a loads_b first second =
    let own_a = own_memory a memory (have_bytes a small_a) loads_a in
    let own_b = own_memory b memory (have_bytes b small_b) loads_b in
    let pair : Pair a b = record { first = own_a.passes; second = own_b.passes; same = sym own_a.is ∙ own_b.is } in
    same_number_lists a b (length_same a b pair first second) (λ k lt. byte_same a b k pair first second)
