-- Blocks of one size, one behind the other.
use Rattle.std.proofs.Common.{◌≡◌, ℕ, zero, suc, ◌+◌, ◌-◌, ◌*◌, ◌/◌, ◌%◌, ◌<◌, ◌≤◌, List, length, get_or, refl, ap, ◌∙◌, inl, inr, arith, length-append}
use Rattle.std.specs.List.{flat_map, range_with_len}
use Rattle.std.proofs.lemmas.Bool.{cases_lt}
use Rattle.std.proofs.lemmas.List.{get_or_append_left, get_or-append_right}

pub length_in_blocks : (f : ℕ → List ℕ) (a count : ℕ) → ((k : ℕ) → a ≤ k → k < a + count → length (f k) ≡ 4096) → length (flat_map f (range_with_len a count)) ≡ 4096 * count
length_in_blocks f a zero each = refl
length_in_blocks f a (suc count) each =
    let rest = length_in_blocks f (a + 1) count (λ k low high. each k (omega (arith, low)) (omega (arith, high))) in
    let both = length-append (f a) (flat_map f (range_with_len (a + 1) count)) in
    let first = each a (omega arith) (omega arith) in
    omega (arith, both, first, rest)

-- an item stands in the block of its place
pub get_in_blocks : (f : ℕ → List ℕ) (a count k : ℕ) → ((j : ℕ) → a ≤ j → j < a + count → length (f j) ≡ 4096) → k < 4096 * count → get_or (flat_map f (range_with_len a count)) k 0 ≡ get_or (f (a + k / 4096)) (k % 4096) 0
get_in_blocks f a zero k each lt = absurd (omega (arith, lt))
get_in_blocks f a (suc count) k each lt =
    let first = each a (omega arith) (omega arith) in
    let rest = flat_map f (range_with_len (a + 1) count) in
    elim (cases_lt k 4096) [
      | inl here ↦
          let block : a ≡ a + k / 4096 = omega (arith, here) in
          let place : k ≡ k % 4096 = omega (arith, here) in
          get_or_append_left (f a) rest 0 k (omega (arith, first, here)) ∙ ap (λ (j : ℕ). get_or (f j) k 0) block ∙ ap (λ (j : ℕ). get_or (f (a + k / 4096)) j 0) place
      | inr past ↦
          let block : a + 1 + (k - 4096) / 4096 ≡ a + k / 4096 = omega (arith, past) in
          let place : (k - 4096) % 4096 ≡ k % 4096 = omega (arith, past) in
          get_or-append_right (f a) rest 4096 k 0 first past
          ∙ get_in_blocks f (a + 1) count (k - 4096) (λ j low high. each j (omega (arith, low)) (omega (arith, high))) (omega (arith, lt, past))
          ∙ ap (λ (j : ℕ). get_or (f j) ((k - 4096) % 4096) 0) block
          ∙ ap (λ (j : ℕ). get_or (f (a + k / 4096)) j 0) place
    ]
