-- Names in the order of their bytes: each is new to those before it.
use Rattle.std.proofs.Common.{◌≡◌, ℕ, Bool, true, false, cond, List, [], ◌∷◌, ◌++◌, refl, sym, ap, subst, ◌∙◌, append_assoc}
use Rattle.std.specs.List.{AllByRecursion, list_any}
use Rattle.std.specs.List.Sorted.{IsStrictlySortedBy}
use Rattle.std.specs.Ordering.{nat_cmp, is_eq}
use Rattle.std.specs.declared.cmp.Ordering.TheVariants.{Less}
use Rattle.std.specs.Cmp.Lexicographic.{slice_cmp}
use Rattle.std.proofs.lemmas.Bool.{false≢true}
use Rattle.std.proofs.lemmas.Map.Text.{is_eq-slice_cmp}
use Rattle.link_base.specs.NameText.{same_name}
use Rattle.link_base.proofs.NameTextLemmas.{same_is}
use Rattle.symbol_names.proofs.NumberLemmas.{same_from}

not_before_itself : (x : List ℕ) → slice_cmp nat_cmp x x ≡ Less → ⊥
not_before_itself x less = false≢true (sym (ap is_eq less) ∙ is_eq-slice_cmp x x ∙ same_from x x refl)

differ : (x y : List ℕ) → slice_cmp nat_cmp y x ≡ Less → same_name x y ≡ false
differ x y less = go (same_name x y) refl
  where
    go : (b : Bool) → same_name x y ≡ b → b ≡ false
    go true e = absurd (not_before_itself y (subst (λ (z : List ℕ). slice_cmp nat_cmp y z ≡ Less) (same_is x y e) less))
    go false e = refl

comes_before : (y x : List ℕ) (xs rest : List (List ℕ)) → AllByRecursion (λ z. slice_cmp nat_cmp y z ≡ Less) (xs ++ x ∷ rest) → slice_cmp nat_cmp y x ≡ Less
comes_before y x [] rest all = all.0
comes_before y x (z ∷ xs) rest all = comes_before y x xs rest all.1

is_new : (xs rest : List (List ℕ)) (x : List ℕ) → IsStrictlySortedBy (slice_cmp nat_cmp) (xs ++ x ∷ rest) → list_any (same_name x) xs ≡ false
unfolding IsStrictlySortedBy
is_new [] rest x sorted = refl
is_new (y ∷ xs) rest x sorted = rw (differ x y (comes_before y x xs rest sorted.0)) (is_new xs rest x sorted.1)

-- one more name is put behind the others
pub slots_more : (keys found now rest : List (List ℕ)) (name : List ℕ) → IsStrictlySortedBy (slice_cmp nat_cmp) keys → found ++ name ∷ rest ≡ keys → now ≡ cond (list_any (same_name name) found) found (found ++ name ∷ []) → now ++ rest ≡ keys
slots_more keys found now rest name sorted parts is =
    ap (λ (xs : List (List ℕ)). xs ++ rest) (is ∙ ap (λ (b : Bool). cond b found (found ++ name ∷ [])) (is_new found rest name (subst (IsStrictlySortedBy (slice_cmp nat_cmp)) (sym parts) sorted)))
    ∙ append_assoc found (name ∷ []) rest
    ∙ parts
