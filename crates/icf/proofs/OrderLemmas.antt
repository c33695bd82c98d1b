-- Fields in order: two lists of the same fields are one.
use Rattle.std.proofs.Common.{◌≡◌, ℕ, zero, suc, ◌<◌, ◌⊎◌, inl, inr, List, [], ◌∷◌, length, get_or, refl, sym, ap, ◌∙◌, subst, arith}
use Rattle.std.specs.List.{AllPairs, Contains}
use Rattle.std.proofs.lemmas.List.{length-map, get_or-map}
use Rattle.icf.specs.declared.field.Field.{Field}
use Rattle.icf.specs.Fields.{IsBefore}
use Rattle.icf.specs.Rounds.{renamed_field, renamed}

not_both : (left right : Field) → IsBefore left right → IsBefore right left → ⊥
not_both left right (inl a) (inl b) = absurd (omega arith)
not_both left right (inl a) (inr b) = let e = b.0 in absurd (omega arith)
not_both left right (inr a) (inl b) = let e = a.0 in absurd (omega arith)
not_both left right (inr a) (inr b) = let lt = a.1 in let lt' = b.1 in absurd (omega arith)

-- what is in a list is its first item, or behind it
behind : (field first : Field) (fields : List Field) → Contains (first ∷ fields) field → (first ≡ field) ⊎ Contains fields field
behind field first fields (zero, lt, e) = inl e
behind field first fields (suc k, lt, e) = inr (k, omega arith, e)

before_all : (first field : Field) (fields : List Field) → AllPairs IsBefore (first ∷ fields) → Contains fields field → IsBefore first field
before_all first field fields rises there =
    subst (IsBefore first) there.2 (rises 0 (suc there.0) field (omega arith) (let lt = there.1 in omega arith))

rest_rises : (first : Field) (fields : List Field) → AllPairs IsBefore (first ∷ fields) → AllPairs IsBefore fields
rest_rises first fields rises i j d lt within = rises (suc i) (suc j) d (omega arith) (omega arith)

first_there : (first : Field) (fields : List Field) → Contains (first ∷ fields) first
first_there first fields = (0, omega arith, refl)

later_there : (first field : Field) (fields : List Field) → Contains fields field → Contains (first ∷ fields) field
later_there first field fields there = (suc there.0, let lt = there.1 in omega arith, there.2)

pub same_fields : (left right : List Field) → AllPairs IsBefore left → AllPairs IsBefore right → ((field : Field) → Contains left field → Contains right field) → ((field : Field) → Contains right field → Contains left field) → left ≡ right
same_fields [] [] up up' into back = refl
same_fields [] (y ∷ ys) up up' into back = let there = back y (first_there y ys) in let lt = there.1 in absurd (omega arith)
same_fields (x ∷ xs) [] up up' into back = let there = into x (first_there x xs) in let lt = there.1 in absurd (omega arith)
same_fields (x ∷ xs) (y ∷ ys) up up' into back =
    ap (λ (f : Field). f ∷ xs) heads ∙ ap (λ (fs : List Field). y ∷ fs) (same_fields xs ys (rest_rises x xs up) (rest_rises y ys up') onto onto')
  where
    by : ((y ≡ x) ⊎ Contains ys x) → ((x ≡ y) ⊎ Contains xs y) → x ≡ y
    by (inl e) other = sym e
    by (inr there) (inl e) = e
    by (inr there) (inr there') = absurd (not_both x y (before_all x y xs up there') (before_all y x ys up' there))

    heads : x ≡ y
    heads = by (behind x y ys (into x (first_there x xs))) (behind y x xs (back y (first_there y ys)))

    past : (field : Field) → Contains xs field → ((y ≡ field) ⊎ Contains ys field) → Contains ys field
    past field there (inr later) = later
    past field there (inl e) =
        let before = before_all x field xs up there in
        let same : x ≡ field = heads ∙ e in
        absurd (not_both x field before (subst (IsBefore field) (sym same) (subst (λ (f : Field). IsBefore f field) same before)))

    past' : (field : Field) → Contains ys field → ((x ≡ field) ⊎ Contains xs field) → Contains xs field
    past' field there (inr later) = later
    past' field there (inl e) =
        let before = before_all y field ys up' there in
        let same : y ≡ field = sym heads ∙ e in
        absurd (not_both y field before (subst (IsBefore field) (sym same) (subst (λ (f : Field). IsBefore f field) same before)))

    onto : (field : Field) → Contains xs field → Contains ys field
    onto field there = past field there (behind field y ys (into field (later_there x field xs there)))

    onto' : (field : Field) → Contains ys field → Contains xs field
    onto' field there = past' field there (behind field x xs (back field (later_there y field ys there)))

-- names change no order
pub renamed_rises : (classes : List ℕ) (fields : List Field) → AllPairs IsBefore fields → AllPairs IsBefore (renamed classes fields)
renamed_rises classes fields rises i j d lt within =
    let within' : j < length fields = omega (arith, length-map fields (renamed_field classes)) in
    let first = get_or-map (renamed_field classes) fields i d d (omega arith) in
    let second = get_or-map (renamed_field classes) fields j d d within' in
    subst (λ (f : Field). IsBefore f (get_or (renamed classes fields) j d)) (sym first)
    (subst (IsBefore (renamed_field classes (get_or fields i d))) (sym second) (kept (get_or fields i d) (get_or fields j d) (rises i j d lt within')))
  where
    kept : (left right : Field) → IsBefore left right → IsBefore (renamed_field classes left) (renamed_field classes right)
    kept left right before = before
