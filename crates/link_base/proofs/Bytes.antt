-- Numbers and texts at a place of a list of bytes, and the least number that passes.
use Rattle.std.proofs.Common.{◌≡◌, ℕ, Some, None, option_map, le-leb, lt-ltb, List, take, sym, subst, drop, zero, suc, ◌+◌, ◌*◌, ◌<◌, ◌≤◌, List, length, drop, slice_index, refl, ap, ◌∙◌, arith}
use Rattle.std.proofs.lemmas.List.{get_or-drop}
use Rattle.memchr.specs.Find.{IsFirstByte}
use Rattle.std.proofs.lemmas.List.{length-drop}
use Rattle.byteorder.specs.Endian.{little_from, little_number}
use Rattle.link_base.specs.Bytes.{number_at, field, is_nul, text_at}
use Rattle.link_base.proofs.FoundLemmas.{found_at, first_place}

pub little_from-drop : (width offset i : ℕ) (bytes : List ℕ) → little_from i width (drop offset bytes) ≡ little_from (offset + i) width bytes
little_from-drop zero offset i bytes = refl
little_from-drop (suc width) offset i bytes =
    rw (get_or-drop, little_from-drop width offset (suc i) bytes) (ap (λ (k : ℕ). slice_index bytes (offset + i) + 256 * little_from k width bytes) (omega arith))

-- a number at an offset is that at the start of what stands from there on
pub number_from_drop : (width offset : ℕ) (bytes : List ℕ) → little_number width (drop offset bytes) ≡ number_at width bytes offset
unfolding number_at
number_from_drop width offset bytes = little_from-drop width offset 0 bytes ∙ ap (λ (k : ℕ). little_from k width bytes) (omega arith)

-- a number that is read at an offset
pub number_is : (width offset n : ℕ) (bytes : List ℕ) → n ≡ little_number width (drop offset bytes) → n ≡ number_at width bytes offset
number_is width offset n bytes is = is ∙ number_from_drop width offset bytes

-- a number that is read where it fits
pub field_is : (width offset n : ℕ) (bytes : List ℕ) → offset + width ≤ length bytes → n ≡ little_number width (drop offset bytes) → Some n ≡ field width bytes offset
field_is width offset n bytes fits is = rw (le-leb _ _ fits) (ap Some (is ∙ number_from_drop width offset bytes))

-- ---- the first NUL

pub text_there : (bytes rest : List ℕ) (offset len : ℕ) → rest ≡ drop offset bytes → IsFirstByte is_nul rest (Some len) → Some (take len rest) ≡ text_at bytes offset
text_there bytes rest offset len e found =
    let h = subst (λ (r : List ℕ). IsFirstByte is_nul r (Some len)) e found in
    let at = found_at is_nul (drop offset bytes) len h in
    rw (at, lt-ltb _ _ h.0.high) (ap (λ (r : List ℕ). Some (take len r)) e)

pub text_missing : (bytes rest : List ℕ) (offset : ℕ) → rest ≡ drop offset bytes → IsFirstByte is_nul rest None → text_at bytes offset ≡ None
text_missing bytes rest offset e none =
    ap (option_map (λ len. take len (drop offset bytes))) (sym (first_place is_nul (drop offset bytes) None (subst (λ (r : List ℕ). IsFirstByte is_nul r None) e none)))

pub text_beyond : (bytes : List ℕ) (offset : ℕ) → length bytes < offset → text_at bytes offset ≡ None
text_beyond bytes offset lt = text_missing bytes (drop offset bytes) offset refl (λ k low high passes. omega (arith, length-drop offset bytes))
