use Rattle.std.proofs.Common.{ℕ, ◌^◌, ◌<◌, ◌≤◌, arith, lit<}
use Rattle.std.proofs.Math.Nat.{pow-le-pow_right}
use Rattle.link_base.proofs.decimal.decimal_number.Goals as goal

-- fourteen digits write less than a hundred trillions
short : (i value : ℕ) → i ≤ 14 → value < 10 ^ i → value < 10 ^ 14
short i value le lt =
    let more : 10 ^ i ≤ 10 ^ 14 = pow-le-pow_right {n = 10} (lit< tt) le in omega arith

pub overflow_mul-value : goal.overflow_mul-value
overflow_mul-value c =
    omega (arith, short c.loop-digit.digit-index c.loop-digit.value (omega arith) c.loop-digit.invariant.bound)

pub overflow_add-value : goal.overflow_add-value
overflow_add-value c =
    omega (arith, short c.loop-digit.digit-index c.loop-digit.value (omega arith) c.loop-digit.invariant.bound)

-- as do the at most fifteen of a whole text
whole : (i value : ℕ) → i ≤ 15 → value < 10 ^ i → value < 10 ^ 15
whole i value le lt =
    let more : 10 ^ i ≤ 10 ^ 15 = pow-le-pow_right {n = 10} (lit< tt) le in omega arith

pub returns-clause-bound : goal.returns-clause-bound
returns-clause-bound c = whole c.loop-digit.digit-index c.loop-digit.value (omega arith) c.loop-digit.invariant.bound
