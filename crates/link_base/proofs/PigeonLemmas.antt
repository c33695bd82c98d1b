-- More numbers than places: two are at one place.
use Rattle.std.proofs.Common.{◌≡◌, ℕ, zero, suc, ◌<◌, ◌≤◌, Bool, true, false, eqb, length, get_or, map, refl, sym, ap, ◌∙◌, subst, inl, inr, ◌⊎◌, arith}
use Rattle.std.specs.List.{range_with_len, list_any}
use Rattle.std.proofs.lemmas.Map.Keys.{IsDistinct-from_apart}
use Rattle.std.proofs.lemmas.Map.Steps.{length-le_from_distinct_below}
use Rattle.std.proofs.lemmas.Map.Views.{Contains-from_any}
use Rattle.std.proofs.lemmas.List.FromFn.{get_or-map-range_with_len, length-map-range_with_len}
use Rattle.std.proofs.lemmas.Bool.{cases_lt, eqb-true}

-- two numbers below n at one place
pub record Meet (f : ℕ → ℕ) (n : ℕ) : Type 0 where
  pub first : ℕ
  pub other : ℕ
  pub apart : first < other
  pub within : other < n
  pub same : f first ≡ f other

-- either a number below i has the place of n, or none has
earlier : (f : ℕ → ℕ) (n i : ℕ) → ((k : ℕ) × (k < i) × (f k ≡ f n)) ⊎ ((k : ℕ) → k < i → eqb (f k) (f n) ≡ false)
earlier f n zero = inr (λ k lt. absurd (omega arith))
earlier f n (suc i) =
    elim (earlier f n i) [
      | inl found ↦ inl (found.0, omega (arith, found.1), found.2)
      | inr none ↦ here (eqb (f i) (f n)) refl none
    ]
  where
    here : (b : Bool) → eqb (f i) (f n) ≡ b → ((k : ℕ) → k < i → eqb (f k) (f n) ≡ false) → ((k : ℕ) × (k < suc i) × (f k ≡ f n)) ⊎ ((k : ℕ) → k < suc i → eqb (f k) (f n) ≡ false)
    here true e none = inl (i, omega arith, eqb-true (f i) (f n) e)
    here false e none = inr (λ k lt. elim (cases_lt k i) [
      | inl below ↦ none k below
      | inr above ↦ let same : k ≡ i = omega arith in ap (λ (j : ℕ). eqb (f j) (f n)) same ∙ e
    ])

meet_or_apart : (f : ℕ → ℕ) (n : ℕ) → Meet f n ⊎ ((i j : ℕ) → i < j → j < n → eqb (f i) (f j) ≡ false)
meet_or_apart f zero = inr (λ i j lt below. absurd (omega arith))
meet_or_apart f (suc n) =
    elim (meet_or_apart f n) [
      | inl met ↦ inl (record { first = met.first; other = met.other; apart = met.apart; within = omega (arith, met.within); same = met.same })
      | inr apart ↦ elim (earlier f n n) [
        | inl found ↦ inl (record { first = found.0; other = n; apart = found.1; within = omega arith; same = found.2 })
        | inr none ↦ inr (λ i j lt below. elim (cases_lt j n) [
          | inl inner ↦ apart i j lt inner
          | inr last ↦ let same : j ≡ n = omega arith in ap (λ (k : ℕ). eqb (f i) (f k)) same ∙ none i (omega arith)
        ])
      ]
    ]

too_many : (f : ℕ → ℕ) (n : ℕ) → ((k : ℕ) → k ≤ n → f k < n) → ((i j : ℕ) → i < j → j < suc n → eqb (f i) (f j) ≡ false) → ⊥
too_many f n fits apart =
    let xs = map f (range_with_len 0 (suc n)) in
    let len : length xs ≡ suc n = length-map-range_with_len f 0 (suc n) in
    let at = λ (i d : ℕ) (lt : i < suc n). get_or-map-range_with_len f 0 (suc n) i i d lt (omega arith) in
    let distinct = IsDistinct-from_apart eqb xs (λ i j d lt below. let lt' : j < suc n = omega (arith, len) in ap (λ (a : ℕ). eqb a (get_or xs j d)) (at i d (omega arith)) ∙ ap (eqb (f i)) (at j d lt') ∙ apart i j lt lt') in
    let below = λ (q : ℕ) (e : list_any (eqb q) xs ≡ true). let found = Contains-from_any eqb-true q xs e in (let lt : found.0 < suc n = omega (arith, found.1, len) in subst (λ (k : ℕ). k < n) (sym (at found.0 q lt) ∙ found.2) (fits found.0 (omega arith))) in
    absurd (omega (arith, length-le_from_distinct_below xs n distinct below, len))

-- of n + 1 numbers at n places two meet
pub pigeon : (f : ℕ → ℕ) (n : ℕ) → ((k : ℕ) → k ≤ n → f k < n) → Meet f (suc n)
pigeon f n fits =
    elim (meet_or_apart f (suc n)) [
      | inl met ↦ met
      | inr apart ↦ absurd (too_many f n fits apart)
    ]
