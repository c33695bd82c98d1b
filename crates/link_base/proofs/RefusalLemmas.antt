-- The first refusal of several: of a list of stages, and of an index that counts up.
use Rattle.std.proofs.Common.{◌≡◌, ℕ, zero, suc, ◌+◌, ◌<◌, List, [], ◌∷◌, ◌++◌, Option, Some, None, refl, inl, inr, add-one, arith}
use Rattle.std.specs.Option.{option_or}
use Rattle.std.proofs.lemmas.Bool.{cases_lt}
use Rattle.link_base.specs.declared.fault.Fault.{Fault}
use Rattle.link_base.specs.declared.stop.Refusal.{Refusal}
use Rattle.link_base.specs.declared.stop.Refusal.TheVariants as refusal
use Rattle.link_base.specs.Refusals.{first_refusal_below, first_standing, RefusesFor}

-- ---- stages, one after the other

-- the first of one alone
pub or_none : {A : Type 0} (first : Option A) → option_or first None ≡ first
or_none None = refl
or_none (Some x) = refl

-- none of two stands
pub neither_stands : {A : Type 0} (first later : Option A) → first ≡ None → later ≡ None → option_or first later ≡ None
neither_stands first later none none_later = rw none none_later

-- a refusal of the first stage is that of the whole
pub refuses_first : (first later : Option Fault) (r : Refusal) → RefusesFor first r → RefusesFor (option_or first later) r
refuses_first first later (refusal.Fault fault) h = rw h refl
refuses_first first later refusal.Memory h = tt

-- where the first stage has none, that of the later ones is
pub refuses_later : (first later : Option Fault) (r : Refusal) → first ≡ None → RefusesFor later r → RefusesFor (option_or first later) r
refuses_later first later (refusal.Fault fault) none h = rw none h
refuses_later first later refusal.Memory none h = tt

-- the first of two lists of stages
pub standing_append : {A : Type 0} (xs ys : List (Option A)) → first_standing (xs ++ ys) ≡ option_or (first_standing xs) (first_standing ys)
standing_append [] ys = refl
standing_append (None ∷ xs) ys = standing_append xs ys
standing_append (Some x ∷ xs) ys = refl

-- ---- an index that counts up

-- the first below one more
pub one_more : {A : Type 0} (n : ℕ) (refusal_at : ℕ → Option A) → first_refusal_below (n + 1) refusal_at ≡ option_or (first_refusal_below n refusal_at) (refusal_at n)
unfolding first_refusal_below
one_more n refusal_at = rw add-one refl

-- none is refused: there is no first
pub none_below : {A : Type 0} (n : ℕ) (refusal_at : ℕ → Option A) → ((k : ℕ) → k < n → refusal_at k ≡ None) → first_refusal_below n refusal_at ≡ None
unfolding first_refusal_below
none_below zero refusal_at none = refl
none_below (suc n) refusal_at none = rw (none_below n refusal_at (λ k lt. none k (omega arith)), none n (omega arith)) refl

-- the same are refused: the first is the same
pub same_below : {A : Type 0} (n : ℕ) (f g : ℕ → Option A) → ((k : ℕ) → k < n → f k ≡ g k) → first_refusal_below n f ≡ first_refusal_below n g
unfolding first_refusal_below
same_below zero f g same = refl
same_below (suc n) f g same =
    rw (same_below n f g (λ k lt. same k (omega arith)), same n (omega arith)) refl

-- none below n is refused, and n is not either
pub first_refusal_below-more : {A : Type 0} (n : ℕ) (refusal_at : ℕ → Option A) → first_refusal_below n refusal_at ≡ None → refusal_at n ≡ None → first_refusal_below (n + 1) refusal_at ≡ None
unfolding first_refusal_below
first_refusal_below-more n refusal_at none here = rw (add-one, none, here) refl

-- none below n is refused, and n is: its refusal is the first below any greater end
pub first_refusal_below-found : {A : Type 0} (n m : ℕ) (refusal_at : ℕ → Option A) (x : A) → n < m → first_refusal_below n refusal_at ≡ None → refusal_at n ≡ Some x → first_refusal_below m refusal_at ≡ Some x
unfolding first_refusal_below
first_refusal_below-found n zero refusal_at x lt none here = absurd (omega arith)
first_refusal_below-found {A} n (suc m) refusal_at x lt none here =
    elim (cases_lt n m) [
      | inl below ↦ rw (first_refusal_below-found n m refusal_at x below none here) refl
      | inr above ↦ let same : m ≡ n = omega arith in rw (same, none, here) refl
    ]
