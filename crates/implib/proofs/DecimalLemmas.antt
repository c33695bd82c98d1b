-- A decimal number that is written is read back.
use Rattle.std.proofs.Common.{◌≡◌, ◌≢◌, ℕ, ◌+◌, ◌-◌, ◌*◌, ◌/◌, ◌%◌, ◌^◌, ◌<◌, ◌≤◌, true, leb, List, [], ◌∷◌, ◌++◌, length, get_or, slice_index, Some, refl, ap, ◌∙◌, lt-ltb, le-leb, length-append, arith}
use Rattle.std.specs.Prelude.{decimal}
use Rattle.std.specs.List.{list_all}
use Rattle.std.proofs.lemmas.Fmt.{decimal_by_steps}
use Rattle.std.proofs.lemmas.List.{get_or-append_right}
use Rattle.std.proofs.lemmas.List.Folds.{list_all-append}
use Rattle.std.proofs.lemmas.List.Sums.{fold-append}
use Rattle.link_base.specs.Decimal.{is_digit, decimal_value, decimal_number}

-- a text of digits writes a number, and does not end with a blank
pub record Writes (n : ℕ) (digits : List ℕ) : Type 0 where
  pub some : 0 < length digits
  pub are_digits : list_all is_digit digits ≡ true
  pub value : decimal_value digits ≡ n
  pub last : slice_index digits (length digits - 1) ≢ 32

digit : (d : ℕ) → d < 10 → is_digit (48 + d) ≡ true
digit d lt = let low : leb 48 (48 + d) ≡ true = le-leb _ _ (omega arith) in let high : leb (48 + d) 57 ≡ true = le-leb _ _ (omega (arith, lt)) in rw (low, high) refl

one_digit : (n : ℕ) → n < 10 → Writes n ((48 + n) ∷ [])
one_digit n lt = record {
  some = omega arith;
  are_digits = rw (digit n lt) refl;
  value = omega arith;
  last = λ e. omega (arith, e);
}

one_more : (n : ℕ) (digits : List ℕ) → 10 ≤ n → Writes (n / 10) digits → Writes n (digits ++ ((48 + n % 10) ∷ []))
one_more n digits ge before =
    let d = n % 10 in
    let low : d < 10 = omega arith in
    let long = length-append digits ((48 + d) ∷ []) in
    record {
      some = omega (arith, long);
      are_digits = list_all-append is_digit digits ((48 + d) ∷ []) ∙ rw (before.are_digits, digit d low) refl;
      value = fold-append (λ (value : ℕ) (digit : ℕ). 10 * value + (digit - 48)) 0 digits ((48 + d) ∷ []) ∙ ap (λ (v : ℕ). 10 * v + (48 + d - 48)) before.value ∙ omega arith;
      last = λ e.
          let end : slice_index (digits ++ ((48 + d) ∷ [])) (length (digits ++ ((48 + d) ∷ [])) - 1) ≡ 48 + d =
          let place : length (digits ++ ((48 + d) ∷ [])) - 1 ≡ length digits = omega (arith, long) in
          let first : length digits - length digits ≡ 0 = omega arith in
          ap (slice_index (digits ++ ((48 + d) ∷ []))) place ∙ get_or-append_right digits ((48 + d) ∷ []) (length digits) (length digits) 0 refl (omega arith) ∙ ap (λ (k : ℕ). get_or ((48 + d) ∷ []) k 0) first in
          omega (arith, e, end);
    }

pub decimal_writes : (n : ℕ) → n < 2 ^ 64 → Writes n (decimal n)
decimal_writes n small = decimal_by_steps Writes one_digit one_more n small

pub decimal_reads : (n : ℕ) → n < 2 ^ 64 → decimal_number (decimal n) ≡ Some n
unfolding decimal_number
decimal_reads n small =
    let w = decimal_writes n small in
    rw (lt-ltb _ _ w.some, w.are_digits) (ap Some w.value)
