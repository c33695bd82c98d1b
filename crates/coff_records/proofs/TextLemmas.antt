-- Which texts end in a table, by its last NUL.
use Rattle.std.proofs.Common.{◌≡◌, ℕ, ◌+◌, ◌-◌, ◌<◌, ◌≤◌, true, false, Some, None, List, drop, length, slice_index, le-ltb, lt-ltb, inl, inr, refl, sym, ap, ◌∙◌, arith}
use Rattle.std.specs.Prelude.{is_some, nat_lt}
use Rattle.std.specs.List.{position_or_len}
use Rattle.std.proofs.lemmas.List.{length-drop, get_or-drop}
use Rattle.std.proofs.lemmas.List.Sums.{passes_at_first, fails_before_first}
use Rattle.std.proofs.lemmas.Bool.{cases_lt, false≢true}
use Rattle.memchr.specs.Find.{IsLastByte}
use Rattle.link_base.specs.Bytes.{is_nul, text_at}
use Rattle.coff_records.specs.TextEnd.{EndsTexts}

pub first_is_near : (text : List ℕ) (k : ℕ) → is_nul (slice_index text k) ≡ true → position_or_len is_nul text ≤ k
first_is_near text k passes =
    elim (cases_lt k (position_or_len is_nul text)) [
      | inl lt ↦ absurd (false≢true (sym (fails_before_first is_nul text k 0 lt) ∙ passes))
      | inr le ↦ le
    ]

-- a NUL at or after the offset: a text ends there
pub text_there : (table : List ℕ) (offset k : ℕ) → offset ≤ k → k < length table → is_nul (slice_index table k) ≡ true → is_some (text_at table offset) ≡ true
text_there table offset k le lt passes =
    let here : is_nul (slice_index (drop offset table) (k - offset)) ≡ true =
    ap is_nul (get_or-drop offset table (k - offset) 0 ∙ ap (λ (m : ℕ). slice_index table m) (omega arith)) ∙ passes in
    let near : position_or_len is_nul (drop offset table) < length (drop offset table) =
    omega (arith, first_is_near (drop offset table) (k - offset) here, length-drop offset table) in
    rw (lt-ltb _ _ near) refl

-- no NUL at or after the offset: none does
pub text_missing : (table : List ℕ) (offset : ℕ) → ((k : ℕ) → offset ≤ k → k < length table → is_nul (slice_index table k) ≡ true → ⊥) → is_some (text_at table offset) ≡ false
text_missing table offset none =
    elim (cases_lt (position_or_len is_nul (drop offset table)) (length (drop offset table))) [
      | inl lt ↦
          let p = position_or_len is_nul (drop offset table) in
          absurd (none (offset + p) (omega arith) (omega (arith, length-drop offset table)) (ap is_nul (sym (get_or-drop offset table p 0)) ∙ passes_at_first is_nul (drop offset table) 0 lt))
      | inr le ↦ rw (le-ltb _ _ le) refl
    ]

pub ends_at : (table : List ℕ) (last : ℕ) → IsLastByte is_nul table (Some last) → EndsTexts table (last + 1)
ends_at table last found = record { ends = λ offset. each offset }
  where
    each : (offset : ℕ) → is_some (text_at table offset) ≡ nat_lt offset (last + 1)
    each offset =
        elim (cases_lt offset (last + 1)) [
          | inl lt ↦ text_there table offset last (omega arith) found.0.high found.1 ∙ sym (lt-ltb offset (last + 1) lt)
          | inr le ↦ text_missing table offset (λ k from below passes. found.0.after k (omega arith) below passes) ∙ sym (le-ltb offset (last + 1) le)
        ]

pub ends_nowhere : (table : List ℕ) → IsLastByte is_nul table None → EndsTexts table 0
ends_nowhere table none =
    record { ends = λ offset. text_missing table offset (λ k from below passes. none k (omega arith) below passes) ∙ sym (le-ltb offset 0 (omega arith)) }
