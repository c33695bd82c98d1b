-- A list whose items are made anew, one after the other.
use Rattle.std.proofs.Common.{◌≡◌, ℕ, ◌<◌, ◌≤◌, List, length, get_or, map, sym, ◌∙◌, arith}
use Rattle.std.specs.List.{range_with_len}
use Rattle.std.proofs.lemmas.List.{get_or-map, length-map, ext_get_or}
use Rattle.std.proofs.lemmas.List.FromFn.{get_or-map-range_with_len, length-map-range_with_len}

-- the first ones are, and the others are as they were
pub record AreMadeUpTo {X : Type 0} (f : ℕ → X) (d : X) (old : List X) (count : ℕ) (now : List X) : Type 0 where
  pub same_length : length now ≡ length old
  pub made : (k : ℕ) → k < count → get_or now k d ≡ f k
  pub others : (k : ℕ) → count ≤ k → get_or now k d ≡ get_or old k d

pub all_made : {X : Type 0} (f : ℕ → X) (d : X) (old : List X) (count : ℕ) (now : List X) → length old ≤ count → AreMadeUpTo f d old count now → now ≡ map f (range_with_len 0 (length old))
all_made {X} f d old count now all are =
    ext_get_or d now (map f (range_with_len 0 (length old))) (are.same_length ∙ sym (length-map-range_with_len f 0 (length old))) (λ i lt.
    let within : i < length old = omega (arith, lt, are.same_length) in
    are.made i (omega (arith, within, all)) ∙ sym (get_or-map-range_with_len f 0 (length old) i i d within (omega arith)))

-- and where each is made of the old one
pub each_made : {X : Type 0} (f : X → X) (d : X) (old : List X) (count : ℕ) (now : List X) → length old ≤ count → AreMadeUpTo (λ k. f (get_or old k d)) d old count now → now ≡ map f old
each_made {X} f d old count now all are =
    ext_get_or d now (map f old) (are.same_length ∙ sym (length-map old f)) (λ i lt.
    let within : i < length old = omega (arith, lt, are.same_length) in
    are.made i (omega (arith, within, all)) ∙ sym (get_or-map f old i d d within))
