-- A number grows with each digit more.
use Rattle.std.proofs.Common.{◌≡◌, ℕ, ◌+◌, ◌*◌, ◌<◌, ◌≤◌, Bool, true, false, ◌&&◌, ltb, List, [], ◌∷◌, length, take, drop, get_or, fold, Option, Some, None, cond, refl, sym, ap, ◌∙◌, inl, inr, arith, le-leb, lt-ltb, le-ltb}
use Rattle.std.specs.Char.{digit_value, is_digit}
use Rattle.std.specs.List.{list_all}
use Rattle.std.proofs.lemmas.List.{take-append-drop}
use Rattle.std.proofs.lemmas.List.Folds.{list_all_at, list_all_more}
use Rattle.std.proofs.lemmas.List.Sums.{fold-append, fold_more}
use Rattle.std.proofs.lemmas.Bool.{lt-leb, cases_lt}
use Rattle.std.proofs.lemmas.Nat.{mul-le}
use Rattle.directives.specs.Number.{more_digits, digits_value, are_digits, digits_up_to}

module _ (base : ℕ) (low : 2 ≤ base) where
  fold_grows : (number : ℕ) (text : List ℕ) → number ≤ fold (more_digits base) number text
  fold_grows number [] = omega arith
  fold_grows number (b ∷ text) =
      let here : 1 * number ≤ base * number = mul-le 1 number base number (omega arith) (omega arith) in
      omega (arith, here, fold_grows (more_digits base number b) text)

  -- the number of a prefix is at most that of the text
  prefix_le : (k : ℕ) (text : List ℕ) → fold (more_digits base) 0 (take k text) ≤ fold (more_digits base) 0 text
  prefix_le k text =
      let e : fold (more_digits base) 0 text ≡ fold (more_digits base) (fold (more_digits base) 0 (take k text)) (drop k text) = ap (fold (more_digits base) 0) (sym (take-append-drop k text)) ∙ fold-append (more_digits base) 0 (take k text) (drop k text) in
      omega (arith, e, fold_grows (fold (more_digits base) 0 (take k text)) (drop k text))

  -- a digit more
  pub digits_more : (text : List ℕ) (k : ℕ) → k < length text → list_all (λ b. is_digit b base) (take k text) ≡ true → digit_value (get_or text k 0) < base → list_all (λ b. is_digit b base) (take (k + 1) text) ≡ true
  digits_more text k lt all here =
      list_all_more (λ (b : ℕ). is_digit b base) text k 0 lt ∙ ap (λ (b : Bool). b && is_digit (get_or text k 0) base) all ∙ lt-ltb _ _ here

  pub digits_empty : (limit : ℕ) (text : List ℕ) → length text ≡ 0 → None ≡ digits_up_to base limit text
  unfolding digits_up_to are_digits
  digits_empty limit text e = rw e refl

  pub digits_are : (limit number k : ℕ) (text : List ℕ) → 0 < length text → length text ≤ k → list_all (λ b. is_digit b base) (take k text) ≡ true → number ≡ fold (more_digits base) 0 (take k text) → number ≤ limit → Some number ≡ digits_up_to base limit text
  unfolding digits_up_to are_digits digits_value
  digits_are limit number k text some end all is le =
      let whole : take k text ≡ text = Rattle.std.proofs.lemmas.List.take_all k text end in
      let digits : list_all (λ b. is_digit b base) text ≡ true = ap (list_all (λ (b : ℕ). is_digit b base)) (sym whole) ∙ all in
      let value : number ≡ fold (more_digits base) 0 text = is ∙ ap (fold (more_digits base) 0) whole in
      rw (lt-ltb _ _ some, digits, sym value, le-leb _ _ le) refl

  -- one that is no digit, or a number beyond the limit
  pub digits_refused : (limit number k : ℕ) (text : List ℕ) → k < length text → number ≡ fold (more_digits base) 0 (take k text) → ((digit_value (get_or text k 0) < base) × (more_digits base number (get_or text k 0) ≤ limit) → ⊥) → None ≡ digits_up_to base limit text
  unfolding digits_up_to are_digits digits_value
  digits_refused limit number k text lt is refused =
      elim (cases_lt (digit_value (get_or text k 0)) base) [
        | inl digit ↦ beyond digit (are_digits base text)
        | inr other ↦ rw (list_all_at (λ (b : ℕ). is_digit b base) text k 0 lt (le-ltb _ _ other)) (no_digits (ltb 0 (length text)))
      ]
    where
      no_digits : (b : Bool) → None ≡ cond ((b && false) && Rattle.std.proofs.Common.leb (fold (more_digits base) 0 text) limit) (Some (fold (more_digits base) 0 text)) None
      no_digits true = refl
      no_digits false = refl

      beyond : digit_value (get_or text k 0) < base → (b : Bool) → None ≡ cond (b && Rattle.std.proofs.Common.leb (fold (more_digits base) 0 text) limit) (Some (fold (more_digits base) 0 text)) None
      beyond digit false = refl
      beyond digit true =
          let more : fold (more_digits base) 0 (take (k + 1) text) ≡ more_digits base number (get_or text k 0) = fold_more (more_digits base) 0 text k 0 lt ∙ ap (λ (n : ℕ). more_digits base n (get_or text k 0)) (sym is) in
          let above : limit < more_digits base number (get_or text k 0) =
          elim (cases_lt limit (more_digits base number (get_or text k 0))) [
            | inl gt ↦ gt
            | inr le ↦ absurd (refused (digit, le))
          ] in
          let le : limit < fold (more_digits base) 0 text = omega (arith, prefix_le (k + 1) text, more) in
          rw (lt-leb _ _ le) refl
