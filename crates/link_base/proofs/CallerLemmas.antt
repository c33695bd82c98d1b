-- What callers may cite: the least number that passes, in a loop that counts up, and what all numbers below one pass.
use Rattle.std.proofs.Common.{List, ◌++◌, length, drop, ◌^◌, ◌≡◌, ℕ, zero, suc, ◌+◌, ◌<◌, Bool, true, false, cond, Option, Some, None, refl, sym, ap, ◌∙◌, inl, inr, ◌⊎◌, add-one, arith}
use Rattle.std.proofs.lemmas.Option.{same_Some}
use Rattle.std.proofs.lemmas.Bool.{cases_lt, and_parts, and_right}
use Rattle.byteorder.specs.Numbers.{little_number-reads_back, length-bytes_low_first}
use Rattle.std.specs.Option.{option_or}
use Rattle.link_base.specs.Bytes.{all_below, first_below, number_at, number_bytes}
use Rattle.link_base.proofs.Bytes.{little_from-drop}

-- ---- the least number that passes

-- no number below n passes, and n does not either
pub first_below-more : (n : ℕ) (test : ℕ → Bool) → first_below n test ≡ None → test n ≡ false → first_below (n + 1) test ≡ None
unfolding first_below
first_below-more n test none fails = rw (add-one, none, fails) refl

-- no number below n passes, and n does: it is the least below any greater end
pub first_below-found : (n m : ℕ) (test : ℕ → Bool) → n < m → first_below n test ≡ None → test n ≡ true → first_below m test ≡ Some n
unfolding first_below
first_below-found n zero test lt none passes = absurd (omega arith)
first_below-found n (suc m) test lt none passes =
    elim (cases_lt n m) [
      | inl below ↦ rw (first_below-found n m test below none passes) refl
      | inr above ↦ let same : m ≡ n = omega arith in rw (same, none, passes) refl
    ]

-- the least below one more
pub first_below-next : (n : ℕ) (test : ℕ → Bool) → first_below (n + 1) test ≡ option_or (first_below n test) (cond (test n) (Some n) None)
unfolding first_below
first_below-next n test = rw add-one refl

-- the same pass: the least is the same
pub first_below-same : (n : ℕ) (test other : ℕ → Bool) → ((k : ℕ) → k < n → test k ≡ other k) → first_below n test ≡ first_below n other
unfolding first_below
first_below-same zero test other same = refl
first_below-same (suc n) test other same =
    rw (first_below-same n test other (λ k lt. same k (omega arith)), same n (omega arith)) refl

neither : (earlier : Option ℕ) (b : Bool) (n : ℕ) → option_or earlier (cond b (Some n) None) ≡ None → (earlier ≡ None) × (b ≡ false)
neither None false n e = (refl, refl)
neither None true n e = absurd cc
neither (Some k) b n e = absurd cc

-- none is the least: each fails
pub first_below-none : (n : ℕ) (test : ℕ → Bool) → first_below n test ≡ None → (k : ℕ) → k < n → test k ≡ false
unfolding first_below
first_below-none zero test none k lt = absurd (omega arith)
first_below-none (suc n) test none k lt =
    let both = neither (first_below n test) (test n) n none in
    elim (cases_lt k n) [
      | inl below ↦ first_below-none n test both.0 k below
      | inr above ↦ let same : k ≡ n = omega arith in ap test same ∙ both.1
    ]

-- each fails: none is the least
pub first_below-all_fail : (n : ℕ) (test : ℕ → Bool) → ((k : ℕ) → k < n → test k ≡ false) → first_below n test ≡ None
unfolding first_below
first_below-all_fail zero test fails = refl
first_below-all_fail (suc n) test fails =
    rw (first_below-all_fail n test (λ k lt. fails k (omega arith)), fails n (omega arith)) refl

found_by : (earlier : Option ℕ) (b : Bool) (n k : ℕ) → option_or earlier (cond b (Some n) None) ≡ Some k → (earlier ≡ Some k) ⊎ ((earlier ≡ None) × ((b ≡ true) × (n ≡ k)))
found_by (Some m) b n k e = inl e
found_by None true n k e = inr (refl, (refl, same_Some n k e))
found_by None false n k e = absurd cc

-- the least number is below the end, passes, and none before it does
pub first_below-some : (n k : ℕ) (test : ℕ → Bool) → first_below n test ≡ Some k → (k < n) × ((test k ≡ true) × (first_below k test ≡ None))
unfolding first_below
first_below-some zero k test e = absurd cc
first_below-some (suc n) k test e =
    elim (found_by (first_below n test) (test n) n k e) [
      | inl earlier ↦ let h = first_below-some n k test earlier in (omega (arith, h.0), h.1)
      | inr here ↦
          (omega (arith, here.1.1), (ap test (sym here.1.1) ∙ here.1.0, ap (λ (i : ℕ). first_below i test) (sym here.1.1) ∙ here.0))
    ]

-- ---- what all numbers pass

pub all_below-more : (n : ℕ) (test : ℕ → Bool) → all_below n test ≡ true → test n ≡ true → all_below (n + 1) test ≡ true
unfolding all_below
all_below-more n test all passes = rw (add-one, all, passes) refl

-- each passes: all pass
pub all_below-from_each : (n : ℕ) (test : ℕ → Bool) → ((k : ℕ) → k < n → test k ≡ true) → all_below n test ≡ true
unfolding all_below
all_below-from_each zero test each = refl
all_below-from_each (suc n) test each =
    rw (all_below-from_each n test (λ k lt. each k (omega (arith, lt))), each n (omega arith)) refl

-- all pass: each passes
pub all_below-each : (n : ℕ) (test : ℕ → Bool) → all_below n test ≡ true → (k : ℕ) → k < n → test k ≡ true
unfolding all_below
all_below-each zero test all k lt = absurd (omega arith)
all_below-each (suc n) test all k lt =
    let both = and_parts (all_below n test) (test n) all in
    elim (cases_lt k n) [
      | inl below ↦ all_below-each n test both.0 k below
      | inr above ↦ let same : k ≡ n = omega arith in ap test same ∙ both.1
    ]

-- one fails: not all pass
pub all_below-fails : (n k : ℕ) (test : ℕ → Bool) → k < n → test k ≡ false → all_below n test ≡ false
unfolding all_below
all_below-fails zero k test lt fails = absurd (omega arith)
all_below-fails (suc n) k test lt fails =
    elim (cases_lt k n) [
      | inl below ↦ rw (all_below-fails n k test below fails) refl
      | inr above ↦ let same : n ≡ k = omega arith in rw (same, fails) (and_right (all_below k test) false refl)
    ]

-- ---- a number that is written and read back

-- a number that fits its width reads back at the start of a list that begins with its bytes
pub number_at-number_bytes : (width number : ℕ) (rest : List ℕ) → number < 256 ^ width → number_at width (number_bytes width number ++ rest) 0 ≡ number
unfolding number_at number_bytes
number_at-number_bytes width number rest fits = little_number-reads_back width number rest fits

pub length-number_bytes : (width number : ℕ) → length (number_bytes width number) ≡ width
unfolding number_bytes
length-number_bytes width number = length-bytes_low_first 0 width number

-- a number stands at an offset where it stands at the start of what follows
pub number_at-drop : (width offset i : ℕ) (bytes : List ℕ) → number_at width (drop offset bytes) i ≡ number_at width bytes (offset + i)
unfolding number_at
number_at-drop width offset i bytes = little_from-drop width offset i bytes
