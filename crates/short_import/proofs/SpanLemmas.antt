-- Where a text stands in bytes, and in the bytes that those were taken from.
use Rattle.std.proofs.Common.{◌≡◌, ℕ, ◌+◌, ◌<◌, false, Option, Some, None, List, [], length, take, drop, slice_index, inl, inr, refl, sym, ap, subst, ◌∙◌, lt-ltb, le-ltb, arith}
use Rattle.std.specs.Prelude.{unwrap_or}
use Rattle.std.specs.List.{position_or_len}
use Rattle.std.proofs.lemmas.Bool.{cases_lt}
use Rattle.std.proofs.lemmas.List.{length-take-le, length-drop, get_or-take}
use Rattle.std.proofs.lemmas.List.Sums.{fails_before_first}
use Rattle.link_base.specs.Bytes.{bytes_at, is_nul, text_at}
use Rattle.short_import.specs.ShortImport.{text_from}

-- the text is the bytes from the offset on, none of them a NUL; where it is not empty, a byte stands behind it
pub record IsSpan (bytes text : List ℕ) (offset : ℕ) : Type 0 where
  pub part : text ≡ bytes_at bytes offset (length text)
  pub ended : 0 < length text → offset + length text < length bytes
  pub plain : (k : ℕ) → k < length text → is_nul (slice_index text k) ≡ false

empty : (bytes text : List ℕ) (offset : ℕ) → text ≡ [] → IsSpan bytes text offset
empty bytes text offset e =
    subst (λ (t : List ℕ). IsSpan bytes t offset) (sym e) (record { part = refl; ended = λ lt. absurd (omega arith); plain = λ k lt. absurd (omega arith) })

taken : (bytes : List ℕ) (offset len : ℕ) → len ≡ position_or_len is_nul (drop offset bytes) → len < length (drop offset bytes) → IsSpan bytes (take len (drop offset bytes)) offset
taken bytes offset len first lt =
    let rest = drop offset bytes in
    let size : length (take len rest) ≡ len = length-take-le len rest (omega arith) in
    record {
      part = ap (λ (n : ℕ). take n rest) (sym size);
      ended = λ some. omega (arith, length-drop offset bytes);
      plain = λ k below. ap is_nul (get_or-take len rest k 0 (omega arith)) ∙ fails_before_first is_nul rest k 0 (omega arith);
    }

-- a text that a NUL ends is not at the end of the bytes
pub record IsEnded (bytes text : List ℕ) (offset : ℕ) : Type 0 where
  pub part : text ≡ bytes_at bytes offset (length text)
  pub inside : offset + length text < length bytes

pub text_at-ended : (bytes text : List ℕ) (offset : ℕ) → Some text ≡ text_at bytes offset → IsEnded bytes text offset
text_at-ended bytes text offset e =
    let rest = drop offset bytes in
    let len = position_or_len is_nul rest in
    elim (cases_lt len (length rest)) [
      | inl lt ↦
          let there : text_at bytes offset ≡ Some (take len rest) = rw (lt-ltb _ _ lt) refl in
          let same : text ≡ take len rest = cc in
          let size : length text ≡ len = ap length same ∙ length-take-le len rest (omega arith) in
          record { part = same ∙ ap (λ (n : ℕ). take n rest) (sym size); inside = omega (arith, length-drop offset bytes) }
      | inr le ↦
          let missing : text_at bytes offset ≡ None = rw (le-ltb _ _ le) refl in
          absurd cc
    ]

-- such a text, as it is read
pub text_from-ended : (bytes text part : List ℕ) (offset len : ℕ) → Some text ≡ text_at bytes offset → len ≡ length text → part ≡ bytes_at bytes offset len → part ≡ text_from bytes offset
unfolding text_from
text_from-ended bytes text part offset len e size is =
    is
    ∙ ap (bytes_at bytes offset) size
    ∙ sym (text_at-ended bytes text offset e).part
    ∙ ap (λ (found : Option (List ℕ)). unwrap_or found []) e

pub text_from-span : (bytes : List ℕ) (offset : ℕ) → IsSpan bytes (text_from bytes offset) offset
unfolding text_from
text_from-span bytes offset =
    let rest = drop offset bytes in
    elim (cases_lt (position_or_len is_nul rest) (length rest)) [
      | inl lt ↦ rw (lt-ltb _ _ lt) (taken bytes offset (position_or_len is_nul rest) refl lt)
      | inr le ↦ rw (le-ltb _ _ le) (empty bytes [] offset refl)
    ]
