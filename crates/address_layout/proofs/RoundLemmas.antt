-- A number rounded up is the least multiple at or above it.
use Rattle.std.proofs.Common.{◌≡◌, ℕ, ◌+◌, ◌-◌, ◌/◌, ◌%◌, ◌<◌, ◌≤◌, inl, inr, arith}
use Rattle.std.proofs.lemmas.Bool.{cases_lt}
use Rattle.std.proofs.Math.Nat.{mul-le-mul_left, mul-mod_left}
use Rattle.address_layout.specs.Places.{IsLeastMultiple}
use Rattle.address_layout.specs.Rounded.{rounded}

pub rounded_above : (step low : ℕ) → 0 < step → low ≤ rounded step low
unfolding rounded
rounded_above step low some = omega arith

pub rounded_bound : (step low : ℕ) → 0 < step → rounded step low ≤ low + (step - 1)
unfolding rounded
rounded_bound step low some = omega arith

rounded_multiple : (step low : ℕ) → 0 < step → rounded step low % step ≡ 0
unfolding rounded
rounded_multiple step low some = mul-mod_left ((low + (step - 1)) / step) step

pub rounded_least : (step low y : ℕ) → 0 < step → y % step ≡ 0 → low ≤ y → rounded step low ≤ y
unfolding rounded
rounded_least step low y some multiple above =
    let q = (low + (step - 1)) / step in
    let m = y / step in
    elim (cases_lt m q) [
      | inl lt ↦ let more = mul-le-mul_left step lt in omega arith
      | inr le ↦ let less = mul-le-mul_left step le in omega arith
    ]

pub rounded_is : (step low : ℕ) → 0 < step → IsLeastMultiple step low (rounded step low)
rounded_is step low some = record {
  multiple = rounded_multiple step low some;
  above = rounded_above step low some;
  least = λ y multiple above. rounded_least step low y some multiple above;
}
