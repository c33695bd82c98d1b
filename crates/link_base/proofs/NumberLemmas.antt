-- Tests of numbers, and what they say of the numbers.
use Rattle.std.proofs.Common.{◌≡◌, ◌≢◌, ℕ, ◌*◌, ◌<◌, ◌≤◌, true, false, eqb, nat_lt, le-ltb, sym, ap, ◌∙◌, inl, inr, arith}
use Rattle.std.proofs.Math.Nat.{mul-le-mul_left}
use Rattle.std.proofs.lemmas.Bool.{false≢true, cases_lt, cases_eq, ne_eqb}
use Rattle.std.proofs.lemmas.Bool.Decides.{eqb_tells}

-- a number that is not zero is above it
pub above_zero : (n : ℕ) → eqb n 0 ≡ false → 0 < n
above_zero n some = grind (arith, some)

-- a number above zero is not zero
pub not_zero : (n : ℕ) → 0 < n → eqb n 0 ≡ false
not_zero n some =
    elim (eqb_tells n 0) [
      | inl same ↦ absurd (omega (arith, some, same.1))
      | inr other ↦ other.0
    ]

-- the test tells numbers that differ apart
pub eqb_apart : (a b : ℕ) → a ≢ b → eqb a b ≡ false
eqb_apart a b apart =
    elim (eqb_tells a b) [
      | inl same ↦ absurd (apart same.1)
      | inr other ↦ other.0
    ]

-- it has no side
pub eqb_flip : (a b : ℕ) → eqb a b ≡ eqb b a
eqb_flip a b = elim (cases_eq a b) [
  | inl same ↦ ap (λ (n : ℕ). eqb n b) same ∙ ap (λ (n : ℕ). eqb b n) (sym same)
  | inr apart ↦ ne_eqb a b apart ∙ sym (ne_eqb b a (λ same. apart (sym same)))
]

-- what the test finds below is below
pub is_below : (a b : ℕ) → nat_lt a b ≡ true → a < b
is_below a b e = elim (cases_lt a b) [ inl lt ↦ lt | inr le ↦ absurd (false≢true (sym (le-ltb _ _ le) ∙ e)) ]

-- n times a gap is n at least
pub far_enough : (n gap : ℕ) → 0 < gap → n ≤ n * gap
far_enough n gap pos = omega (arith, mul-le-mul_left n pos)
