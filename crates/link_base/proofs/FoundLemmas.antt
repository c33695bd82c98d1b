-- Where the first byte that passes a test stands, by what a search answered, and what stands before it.
use Rattle.std.proofs.Common.{◌≡◌, ℕ, ◌≤◌, Bool, List, length, take, Option, Some, None, refl, sym, ap, ◌∙◌, inl, inr, lt-ltb, le-ltb, arith}
use Rattle.std.specs.List.{position, position_or_len, before_first}
use Rattle.std.proofs.lemmas.List.{take_all}
use Rattle.std.proofs.lemmas.List.Sums.{passes_at_first, fails_before_first}
use Rattle.std.proofs.lemmas.Bool.{cases_lt, false≢true}
use Rattle.memchr.specs.Find.{IsFirstByte}

pub found_at : (test : ℕ → Bool) (text : List ℕ) (k : ℕ) → IsFirstByte test text (Some k) → position_or_len test text ≡ k
found_at test text k h =
    let p = position_or_len test text in
    elim (cases_lt p k) [
      | inl lt ↦ absurd (h.0.before p (omega arith) lt (passes_at_first test text 0 (omega (arith, h.0.high))))
      | inr le ↦ elim (cases_lt k p) [
        | inl lt ↦ absurd (false≢true (sym (fails_before_first test text k 0 lt) ∙ h.1))
        | inr ge ↦ omega arith
      ]
    ]

pub not_found : (test : ℕ → Bool) (text : List ℕ) → IsFirstByte test text None → length text ≤ position_or_len test text
not_found test text none =
    elim (cases_lt (position_or_len test text) (length text)) [
      | inl lt ↦ absurd (none (position_or_len test text) (omega arith) lt (passes_at_first test text 0 lt))
      | inr le ↦ le
    ]

-- it is the first place that passes
pub first_place : (test : ℕ → Bool) (text : List ℕ) (r : Option ℕ) → IsFirstByte test text r → r ≡ position test text
first_place test text None none = rw (le-ltb _ _ (not_found test text none)) refl
first_place test text (Some k) h = rw (found_at test text k h, lt-ltb _ _ h.0.high) refl

-- ---- what stands before it

pub before_place : (test : ℕ → Bool) (text : List ℕ) (k : ℕ) → IsFirstByte test text (Some k) → take k text ≡ before_first test text
before_place test text k h = ap (λ (n : ℕ). take n text) (sym (found_at test text k h))

-- where none passes, the whole text
pub before_none : (test : ℕ → Bool) (text : List ℕ) → IsFirstByte test text None → text ≡ before_first test text
before_none test text none = sym (take_all (position_or_len test text) text (not_found test text none))
