-- Where the first byte that passes stands, and what stands before it, from it on and after it.
use Rattle.std.proofs.Common.{◌≡◌, ℕ, ◌+◌, ◌≤◌, Bool, true, false, cond, ltb, List, [], length, take, drop, Some, None, sym, ap, ◌∙◌, inl, inr, arith, lt-ltb}
use Rattle.std.specs.List.{position, position_or_len, before_first, after_first}
use Rattle.std.proofs.Math.Seq.{take-length}
use Rattle.std.proofs.Math.ListN.{drop_of_length-le}
use Rattle.std.proofs.lemmas.List.Sums.{prefix_len-le-length}
use Rattle.std.proofs.lemmas.Bool.{cases_lt}
use mathlib.Core.Bool.{not}

pub place_none : (p : ℕ → Bool) (text : List ℕ) → None ≡ position p text → length text ≡ position_or_len p text
place_none p text e =
    let le : position_or_len p text ≤ length text = prefix_len-le-length (λ b. not (p b)) text in
    elim (cases_lt (position_or_len p text) (length text)) [
      | inl lt ↦ absurd (by_cases (ltb (position_or_len p text) (length text)) (lt-ltb _ _ lt) e)
      | inr ge ↦ omega arith
    ]
  where
    by_cases : (b : Bool) → b ≡ true → None ≡ cond b (Some (position_or_len p text)) None → ⊥
    by_cases true e h = cc
    by_cases false e h = absurd cc

-- where no byte passes, all stand before the first one, and none after it
pub before_none : (p : ℕ → Bool) (text : List ℕ) → None ≡ position p text → text ≡ before_first p text
before_none p text e = sym (ap (λ (k : ℕ). take k text) (sym (place_none p text e)) ∙ take-length text)

pub after_none : (p : ℕ → Bool) (text : List ℕ) → None ≡ position p text → [] ≡ after_first p text
after_none p text e = sym (ap (λ (k : ℕ). drop (k + 1) text) (sym (place_none p text e)) ∙ drop_of_length-le text (omega arith))
