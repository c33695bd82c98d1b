-- Lists, one item more.
use Rattle.std.proofs.Common.{◌≡◌, ℕ, ◌+◌, ◌<◌, inl, inr, List, [], ◌∷◌, ◌++◌, length, get_or, Vec, Option, option_map, unwrap_or, length-append, sym, ap, ◌∙◌, subst, arith}
use Rattle.std.specs.declared.alloc.Global.{Global}
use Rattle.std.proofs.lemmas.Bool.{cases_lt}
use Rattle.std.proofs.lemmas.Option.{slice_get-get_or}
use Rattle.std.proofs.Math.ListN.{get_or-append}
use Rattle.std.proofs.Math.Seq.{get_or-append_seam}
use Rattle.icf.specs.declared.field.Field.{Field}
use Rattle.icf.specs.Fields.{listed}

module _ {X : Type 0} (P : ℕ → X → Type 0) (xs : List X) (x : X) (count : ℕ) (same : length xs ≡ count) where
  pub each_more : ((i : ℕ) (d : X) → i < count → P i (get_or xs i d)) → P count x → (longer : List X) → longer ≡ xs ++ x ∷ [] → (i : ℕ) (d : X) → i < count + 1 → P i (get_or longer i d)
  each_more each here longer is i d lt = elim (cases_lt i count) [
    | inl low ↦ subst (P i) (sym (get_or-append xs (x ∷ []) d i (omega arith)) ∙ ap (λ (ys : List X). get_or ys i d) (sym is)) (each i d low)
    | inr high ↦
        let place : i ≡ length xs = omega arith in
        let count_is : count ≡ i = omega arith in
        subst (P i) (sym (ap (λ (n : ℕ). get_or (xs ++ x ∷ []) n d) place ∙ get_or-append_seam xs x [] d) ∙ ap (λ (ys : List X). get_or ys i d) (sym is))
        (subst (λ (n : ℕ). P n x) count_is here)
  ]

  pub size_more : (longer : List X) → longer ≡ xs ++ x ∷ [] → length longer ≡ count + 1
  size_more longer is = ap length is ∙ length-append xs (x ∷ []) ∙ ap (λ (n : ℕ). n + 1) same

-- some item of a list that is not empty
pub any_item : {X : Type 0} (xs : List X) (i : ℕ) → i < length xs → X
any_item [] i lt = absurd (omega arith)
any_item (x ∷ xs) i lt = x

-- the fields of a candidate among those of all
pub listed_read : (lists : List (Vec Field Global)) (number : ℕ) (d : Vec Field Global) → number < length lists → listed lists number ≡ (get_or lists number d).items
listed_read lists number d lt = ap (λ (o : Option (Vec Field Global)). unwrap_or (option_map (λ list. list.items) o) []) (slice_get-get_or lists number d lt)

pub listed_item : (lists : List (Vec Field Global)) (number : ℕ) (list : Vec Field Global) → number < length lists → list ≡ get_or lists number list → listed lists number ≡ list.items
listed_item lists number list lt is = listed_read lists number list lt ∙ ap (λ (v : Vec Field Global). v.items) (sym is)
