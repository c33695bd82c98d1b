-- Pairs of a piece and what it leads to, each listed once or more.
use Rattle.std.proofs.Common.{◌≡◌, ℕ, zero, suc, Bool, true, List, [], ◌∷◌, ◌++◌, get_or, inl, inr, ap, subst, ◌∙◌, arith}
use Rattle.std.specs.Cmp.{both_ways}
use Rattle.std.specs.List.{Contains, All, list_any}
use Rattle.std.proofs.lemmas.List.{get_or_default}
use Rattle.std.proofs.lemmas.List.Folds.{Any-from_list_any, list_any_at}
use Rattle.std.proofs.lemmas.List.Elements.{Contains-append_left, Contains-append_right, Contains-append_cases}
use Rattle.link_fields.specs.Fixes.{HasSameEdges}

-- no pairs
pub same_none : (list : List (ℕ × ℕ)) → list ≡ [] → HasSameEdges [] list
same_none list none = record {
  there = λ edge here. absurd (omega (arith, here.1));
  only = λ edge here. subst (λ (pairs : List (ℕ × ℕ)). Contains pairs edge) none here;
}

-- more of them in both lists
pub same_append : (earlier list more : List (ℕ × ℕ)) → HasSameEdges earlier list → HasSameEdges (earlier ++ more) (list ++ more)
same_append earlier list more same = record {
  there = λ edge here. joined earlier list edge (same.there edge) here;
  only = λ edge here. joined list earlier edge (same.only edge) here;
}
  where
    joined : (from to : List (ℕ × ℕ)) (edge : ℕ × ℕ) → (Contains from edge → Contains to edge) → Contains (from ++ more) edge → Contains (to ++ more) edge
    joined from to edge known here =
        elim (Contains-append_cases from more edge here) [
          | inl before ↦ Contains-append_left to more edge (known before)
          | inr behind ↦ Contains-append_right to more edge behind
        ]

-- a pair that is listed
pub same_again : (earlier list : List (ℕ × ℕ)) (edge : ℕ × ℕ) → Contains list edge → HasSameEdges earlier list → HasSameEdges (earlier ++ edge ∷ []) list
same_again earlier list edge listed same = record {
  there = λ other here.
      elim (Contains-append_cases earlier (edge ∷ []) other here) [
        | inl before ↦ same.there other before
        | inr last ↦ subst (Contains list) (alone other last) listed
      ];
  only = λ other here. Contains-append_left earlier (edge ∷ []) other (same.only other here);
}
  where
    alone : (other : ℕ × ℕ) → Contains (edge ∷ []) other → edge ≡ other
    alone other (zero, lt, is) = is
    alone other (suc k, lt, is) = absurd (omega (arith, lt))

-- ---- what holds of the one list and the other

-- what holds of each pair
pub all_same : (P : ℕ × ℕ → Type 0) (earlier list : List (ℕ × ℕ)) → HasSameEdges earlier list → All P list → All P earlier
all_same P earlier list same all = λ k d lt.
    let edge : ℕ × ℕ = get_or earlier k d in
    let here : Contains list edge = same.there edge (k, lt, get_or_default earlier k edge d lt) in
    subst P here.2 (all here.0 edge here.1)

-- whether a pair passes a test
pub any_same : (test : ℕ × ℕ → Bool) (earlier list : List (ℕ × ℕ)) → HasSameEdges earlier list → list_any test list ≡ list_any test earlier
any_same test earlier list same = both_ways (list_any test list) (list_any test earlier) (found list earlier same.only) (found earlier list same.there)
  where
    found : (from to : List (ℕ × ℕ)) → ((edge : ℕ × ℕ) → Contains from edge → Contains to edge) → list_any test from ≡ true → list_any test to ≡ true
    found from to all is =
        let any = Any-from_list_any test from is in
        let here : Contains to any.1 = all any.1 (any.0, any.2, any.3) in
        list_any_at test to here.0 any.1 here.1 (ap test here.2 ∙ any.4)
