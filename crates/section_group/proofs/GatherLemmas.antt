-- The pieces of each section, gathered piece by piece.
use Rattle.std.proofs.Common.{◌≡◌, ◌≢◌, ◌⊎◌, eq-eqb, ℕ, ◌+◌, ◌<◌, Bool, true, false, cond, eqb, List, [], ◌∷◌, ◌++◌, length, get_or, set, Option, Some, None, Vec, refl, sym, ap, ◌∙◌, inl, inr, arith}
use Rattle.std.specs.declared.alloc.Global.{Global}
use Rattle.std.proofs.Math.ListN.{length-set}
use Rattle.std.proofs.lemmas.Bool.{eqb-true, eqb-false}
use Rattle.std.proofs.lemmas.List.{append-nil, get_or-set_other, get_or-set_same}
use Rattle.link_base.proofs.RangeLemmas.{filter_more}
use Rattle.link_base.proofs.NumberLemmas.{eqb_apart}
use Rattle.section_group.specs.Gathering.{has_number, members_of, AreMembers}

members_more : (numbers : List (Option ℕ)) (count number : ℕ) → members_of numbers (count + 1) number ≡ members_of numbers count number ++ cond (has_number number (get_or numbers count None)) (count ∷ []) []
members_more numbers count number = filter_more (λ k. has_number number (get_or numbers k None)) count

-- an unused piece
pub more_unused : (numbers : List (Option ℕ)) (count sections : ℕ) (members : List (Vec ℕ Global)) → AreMembers numbers count sections members → get_or numbers count None ≡ None → AreMembers numbers (count + 1) sections members
more_unused numbers count sections members are none = record {
  same_length = are.same_length;
  each = λ number d lt. are.each number d lt ∙ sym (members_more numbers count number ∙ ap (λ (o : Option ℕ). members_of numbers count number ++ cond (has_number number o) (count ∷ []) []) none ∙ append-nil (members_of numbers count number));
}

eqb_refl : (n : ℕ) → eqb n n ≡ true
eqb_refl n = eq-eqb n n refl

-- a used piece
pub more_used : (numbers : List (Option ℕ)) (count sections at : ℕ) (members : List (Vec ℕ Global)) (old more : Vec ℕ Global) → AreMembers numbers count sections members → get_or numbers count None ≡ Some at → at < sections → old ≡ get_or members at old → more.items ≡ old.items ++ count ∷ [] → AreMembers numbers (count + 1) sections (set members at more)
more_used numbers count sections at members old more are some lt is_old is_more = record {
  same_length = length-set members at more ∙ are.same_length;
  each = λ number d within. elim (cases number) [
    | inl same ↦
        let in' : at < length members = omega (arith, are.same_length) in
        ap (λ (k : ℕ). (get_or (set members at more) k d).items) same ∙ ap (λ (v : Vec ℕ Global). v.items) (get_or-set_same members at more d in')
        ∙ is_more ∙ ap (λ (xs : List ℕ). xs ++ count ∷ []) (ap (λ (v : Vec ℕ Global). v.items) is_old ∙ are.each at old lt)
        ∙ sym (members_more numbers count number ∙ ap (λ (o : Option ℕ). members_of numbers count number ++ cond (has_number number o) (count ∷ []) []) some ∙ ap (λ (k : ℕ). members_of numbers count k ++ cond (eqb at k) (count ∷ []) []) same ∙ ap (λ (b : Bool). members_of numbers count at ++ cond b (count ∷ []) []) (eqb_refl at))
    | inr apart ↦
        ap (λ (v : Vec ℕ Global). v.items) (get_or-set_other members at number more d apart)
        ∙ are.each number d within
        ∙ sym (members_more numbers count number ∙ ap (λ (o : Option ℕ). members_of numbers count number ++ cond (has_number number o) (count ∷ []) []) some ∙ ap (λ (b : Bool). members_of numbers count number ++ cond b (count ∷ []) []) (eqb_apart at number (λ e. apart (sym e))) ∙ append-nil (members_of numbers count number))
  ];
}
  where
    cases : (number : ℕ) → (number ≡ at) ⊎ (number ≢ at)
    cases number = go (eqb number at) refl
      where
        go : (b : Bool) → eqb number at ≡ b → (number ≡ at) ⊎ (number ≢ at)
        go true e = inl (eqb-true number at e)
        go false e = inr (eqb-false number at e)
