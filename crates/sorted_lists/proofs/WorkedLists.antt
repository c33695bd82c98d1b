-- The definitions on small lists: numbers of which two are one, and texts by their first numbers alone, where those that tie
-- stay as they stand.
use Rattle.std.proofs.Common.{◌≡◌, ℕ, List, [], ◌∷◌, refl}
use Rattle.std.specs.Ordering.{nat_cmp, on}
use Rattle.sorted_lists.specs.Order.{inserted, in_order}

numbers_in_order : in_order nat_cmp (3 ∷ 1 ∷ 4 ∷ 1 ∷ 2 ∷ []) ≡ 1 ∷ 1 ∷ 2 ∷ 3 ∷ 4 ∷ []
unfolding inserted in_order
numbers_in_order = refl

pairs : List (ℕ × ℕ)
pairs = (2, 7) ∷ (1, 9) ∷ (2, 5) ∷ (1, 8) ∷ []

ties_stay : in_order (on (λ (pair : ℕ × ℕ). pair.0) nat_cmp) pairs ≡ (1, 9) ∷ (1, 8) ∷ (2, 7) ∷ (2, 5) ∷ []
unfolding inserted in_order pairs
ties_stay = refl
