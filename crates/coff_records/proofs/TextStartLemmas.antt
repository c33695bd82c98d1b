-- The first bytes of a text: of those before a NUL, and of a text that ends in a table.
use Rattle.std.proofs.Common.{◌≡◌, ℕ, zero, suc, ◌+◌, Bool, true, false, cond, not, List, [], ◌∷◌, take, drop, length, le-ltb, lt-ltb, inl, inr, refl, sym, ap, ◌∙◌, arith}
use Rattle.std.specs.Prelude.{is_none, unwrap_or}
use Rattle.std.specs.List.{before_first, position_or_len}
use Rattle.std.proofs.lemmas.Bool.{cases_lt, false≢true}
use Rattle.link_base.specs.Bytes.{is_nul, text_at}

-- one more element
taken : {X : Type 0} (stops : Bool) (a b n : ℕ) (x : X) (ys xs : List X) → take a ys ≡ take n (take b xs) → take (cond (not stops) (1 + a) 0) (x ∷ ys) ≡ take (suc n) (take (cond (not stops) (1 + b) 0) (x ∷ xs))
taken true a b n x ys xs e = refl
taken {X = X} false a b n x ys xs e =
    let more_a : 1 + a ≡ suc a = omega arith in
    let more_b : 1 + b ≡ suc b = omega arith in
    ap (λ (k : ℕ). take k (x ∷ ys)) more_a
    ∙ ap (λ (rest : List X). x ∷ rest) e
    ∙ sym (ap (λ (k : ℕ). take (suc n) (take k (x ∷ xs))) more_b)

-- what stands before the first that passes, of the first elements alone
pub before_first-take : {X : Type 0} (test : X → Bool) (n : ℕ) (xs : List X) → before_first test (take n xs) ≡ take n (before_first test xs)
before_first-take test zero xs = refl
before_first-take test (suc n) [] = refl
before_first-take test (suc n) (x ∷ xs) =
    taken (test x) (position_or_len test (take n xs)) (position_or_len test xs) n x (take n xs) xs (before_first-take test n xs)

-- a text that ends in the table is what stands before the next NUL
pub text_is : (table : List ℕ) (offset : ℕ) → is_none (text_at table offset) ≡ false → unwrap_or (text_at table offset) [] ≡ before_first is_nul (drop offset table)
text_is table offset ends =
    elim (cases_lt (position_or_len is_nul (drop offset table)) (length (drop offset table))) [
      | inl lt ↦ rw (lt-ltb _ _ lt) refl
      | inr le ↦ absurd (false≢true (sym ends ∙ rw (le-ltb _ _ le) refl))
    ]

pub text_start : (table rest window text : List ℕ) (offset limit : ℕ) → is_none (text_at table offset) ≡ false → rest ≡ drop offset table → window ≡ take limit rest → text ≡ before_first is_nul window → text ≡ take limit (unwrap_or (text_at table offset) [])
text_start table rest window text offset limit ends rest_is window_is is =
    is
    ∙ ap (before_first is_nul) (window_is ∙ ap (take limit) rest_is)
    ∙ before_first-take is_nul limit (drop offset table)
    ∙ ap (take limit) (sym (text_is table offset ends))
