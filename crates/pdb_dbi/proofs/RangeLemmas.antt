-- Lists over a range, one number more behind what stood before.
use Rattle.std.proofs.Common.{◌≡◌, ℕ, ◌+◌, List, ◌++◌, sym, ap, ◌∙◌, append_assoc, arith}
use Rattle.std.specs.List.{flat_map, range_with_len}
use Rattle.link_base.proofs.RangeLemmas.{joined_more}

pub joined_behind : {X : Type 0} (f : ℕ → List X) (n : ℕ) (before now after : List X) → now ≡ before ++ flat_map f (range_with_len 0 n) → after ≡ now ++ f n → after ≡ before ++ flat_map f (range_with_len 0 (n + 1))
joined_behind {X} f n before now after was grown =
    grown
    ∙ ap (λ (xs : List X). xs ++ f n) was
    ∙ append_assoc before (flat_map f (range_with_len 0 n)) (f n)
    ∙ ap (λ (xs : List X). before ++ xs) (sym (joined_more f 0 n n (omega arith)))
