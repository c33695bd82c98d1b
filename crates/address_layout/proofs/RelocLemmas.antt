-- One more section behind the others.
use Rattle.std.proofs.Common.{◌≡◌, ℕ, zero, suc, ◌≤◌, ap, inl, inr, arith}
use Rattle.std.proofs.lemmas.Bool.{cases_lt}
use Rattle.address_layout.specs.declared.layout.Placed.{Placed}
use Rattle.address_layout.specs.Places.{file_before}

pub file_grows : (headers : ℕ) (placed : ℕ → Placed) (i j : ℕ) → i ≤ j → file_before headers placed i ≤ file_before headers placed j
file_grows headers placed i zero le = let same : i ≡ zero = omega arith in let e = ap (file_before headers placed) same in omega arith
file_grows headers placed i (suc j) le =
    elim (cases_lt j i) [
      | inl above ↦ let same : i ≡ suc j = omega arith in let e = ap (file_before headers placed) same in omega arith
      | inr below ↦ omega (arith, file_grows headers placed i j below)
    ]
