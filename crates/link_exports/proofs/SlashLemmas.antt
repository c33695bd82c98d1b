-- What stands behind the last slash.
use Rattle.std.proofs.Common.{◌≡◌, ℕ, ◌+◌, ◌-◌, Bool, true, false, List, length, drop, get_or, Some, None, refl, ap, ◌∙◌, arith}
use Rattle.std.specs.List.{suffix_len, after_last}
use Rattle.std.proofs.lemmas.List.Sums.{suffix_len_is}
use Rattle.memchr.specs.Find.{IsLastByte}
use Rattle.link_words.specs.Extension.{is_slash}
use mathlib.Core.Bool.{not}

fails : (b : Bool) → (b ≡ true → ⊥) → not b ≡ true
fails true h = absurd (h refl)
fails false h = refl

module _ (test : ℕ → Bool) (text : List ℕ) where
  suffix_at : (k : ℕ) → IsLastByte test text (Some k) → suffix_len (λ b. not (test b)) text ≡ length text - (k + 1)
  suffix_at k h =
      suffix_len_is (λ (b : ℕ). not (test b)) text (k + 1) 0 (omega (arith, h.0.high)) (λ i low high. fails (test (get_or text i 0)) (h.0.after i low high)) (λ some. ap not (ap (λ (i : ℕ). test (get_or text i 0)) (omega arith) ∙ h.1))

  after_at : (k : ℕ) → IsLastByte test text (Some k) → after_last test text ≡ drop (k + 1) text
  after_at k h = ap (λ (n : ℕ). drop n text) (omega (arith, suffix_at k h, h.0.high))

  after_none : IsLastByte test text None → after_last test text ≡ text
  after_none h =
      let e : suffix_len (λ b. not (test b)) text ≡ length text - 0 = suffix_len_is (λ (b : ℕ). not (test b)) text 0 0 (omega arith) (λ i low high. fails (test (get_or text i 0)) (h i low high)) (λ some. absurd (omega arith)) in
      let zero : length text - suffix_len (λ b. not (test b)) text ≡ 0 = omega (arith, e) in
      ap (λ (n : ℕ). drop n text) zero

pub behind_last : (path : List ℕ) (slash : ℕ) → IsLastByte is_slash path (Some slash) → after_last is_slash path ≡ drop (slash + 1) path
behind_last path slash h = after_at is_slash path slash h

pub behind_none : (path : List ℕ) → IsLastByte is_slash path None → after_last is_slash path ≡ path
behind_none path h = after_none is_slash path h
