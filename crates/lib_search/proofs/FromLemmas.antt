-- The first open reference from a number on, and what is passed over before it.
use Rattle.std.proofs.Common.{◌≡◌, ℕ, zero, suc, ◌+◌, ◌-◌, ◌<◌, ◌≤◌, Bool, true, false, cond, List, length, Option, Some, None, inl, inr, refl, sym, ap, ◌∙◌, arith}
use Rattle.std.proofs.lemmas.Option.{some_pair_parts}
use Rattle.std.specs.Prelude.{option_map}
use Rattle.std.specs.List.{find, range_with_len}
use Rattle.std.proofs.lemmas.Bool.{cases_lt}
use Rattle.link_base.proofs.RefusalLemmas.{first_refusal_below-found, none_below}
use Rattle.symbol_names.specs.LinkView.{LinkView}
use Rattle.symbol_names.specs.References.{all_asked}
use Rattle.symbol_table.specs.OpenNames.{asked_at, is_open_at, named_at, open_from}
use Rattle.lib_search.specs.SearchSteps.{MemberPlace, Searched, listed_member, asked_member, member_by_reference}
use Rattle.lib_search.specs.SearchParts.{IsPassed}

-- ---- the first number that passes a test

pub record IsFirst (test : ℕ → Bool) (from end k : ℕ) : Type 0 where
  pub low : from ≤ k
  pub high : k < end
  pub here : test k ≡ true
  pub before : (j : ℕ) → from ≤ j → j < k → test j ≡ false

first_in : (test : ℕ → Bool) (from n k : ℕ) → find test (range_with_len from n) ≡ Some k → IsFirst test from (from + n) k
first_in test from zero k is = absurd cc
first_in test from (suc n) k is = go (test from) refl is (first_in test (from + 1) n k)
  where
    go : (b : Bool) → test from ≡ b → cond b (Some from) (find test (range_with_len (from + 1) n)) ≡ Some k → (find test (range_with_len (from + 1) n) ≡ Some k → IsFirst test (from + 1) (from + 1 + n) k) → IsFirst test from (from + suc n) k
    go true e some rest =
        let same : from ≡ k = cc in
        record {
          low = omega (arith, same);
          high = omega (arith, same);
          here = ap test (sym same) ∙ e;
          before = λ j low high. absurd (omega (arith, same));
        }
    go false e some rest =
        let later = rest some in
        record {
          low = omega (arith, later.low);
          high = omega (arith, later.high);
          here = later.here;
          before = λ j low high. elim (cases_lt from j) [
            | inl above ↦ later.before j (omega (arith, above)) high
            | inr level ↦ let same : j ≡ from = omega (arith, level, low) in ap test same ∙ e
          ];
        }

none_in : (test : ℕ → Bool) (from n : ℕ) → find test (range_with_len from n) ≡ None → (j : ℕ) → from ≤ j → j < from + n → test j ≡ false
none_in test from zero is j low high = absurd (omega (arith, low, high))
none_in test from (suc n) is j low high = go (test from) refl is (none_in test (from + 1) n)
  where
    go : (b : Bool) → test from ≡ b → cond b (Some from) (find test (range_with_len (from + 1) n)) ≡ None → (find test (range_with_len (from + 1) n) ≡ None → (i : ℕ) → from + 1 ≤ i → i < from + 1 + n → test i ≡ false) → test j ≡ false
    go true e some rest = absurd cc
    go false e some rest = elim (cases_lt from j) [
      | inl above ↦ rest some j (omega (arith, above)) (omega (arith, high))
      | inr level ↦ let same : j ≡ from = omega (arith, level, low) in ap test same ∙ e
    ]

-- ---- the first open reference

pub record IsFirstOpen (link : LinkView) (from number : ℕ) (name : List ℕ) : Type 0 where
  pub low : from ≤ number
  pub high : number < length (all_asked link)
  pub here : is_open_at link number ≡ true
  pub named : name ≡ (asked_at link number).name
  pub before : (j : ℕ) → from ≤ j → j < number → is_open_at link j ≡ false

pub first_open : (link : LinkView) (from number : ℕ) (name : List ℕ) → from ≤ length (all_asked link) → open_from link from ≡ Some (number, name) → IsFirstOpen link from number name
unfolding open_from
first_open link from number name within is =
    go (find (is_open_at link) (range_with_len from (length (all_asked link) - from))) refl is
  where
    go : (found : Option ℕ) → find (is_open_at link) (range_with_len from (length (all_asked link) - from)) ≡ found → option_map (named_at link) found ≡ Some (number, name) → IsFirstOpen link from number name
    go None e some = absurd cc
    go (Some k) e some =
        let first = first_in (is_open_at link) from (length (all_asked link) - from) k e in
        let both = some_pair_parts k number (asked_at link k).name name some in
        let same = both.0 in
        let text = both.1 in
        record {
          low = omega (arith, first.low, same);
          high = omega (arith, first.high, same, within);
          here = ap (is_open_at link) (sym same) ∙ first.here;
          named = sym text ∙ ap (λ (n : ℕ). (asked_at link n).name) same;
          before = λ j low high. first.before j low (omega (arith, high, same));
        }

pub none_open : (link : LinkView) (from : ℕ) → from ≤ length (all_asked link) → open_from link from ≡ None → (j : ℕ) → from ≤ j → j < length (all_asked link) → is_open_at link j ≡ false
unfolding open_from
none_open link from within is j low high =
    go (find (is_open_at link) (range_with_len from (length (all_asked link) - from))) refl is
  where
    go : (found : Option ℕ) → find (is_open_at link) (range_with_len from (length (all_asked link) - from)) ≡ found → option_map (named_at link) found ≡ None → is_open_at link j ≡ false
    go None e some = none_in (is_open_at link) from (length (all_asked link) - from) e j low (omega (arith, low, high, within))
    go (Some k) e some = absurd cc

-- ---- what is passed over

closed_member : (s : Searched) (k : ℕ) → is_open_at s.link k ≡ false → asked_member s k ≡ None
closed_member s k closed = ap (λ (b : Bool). cond b (listed_member s (asked_at s.link k).name) None) closed

open_member : (s : Searched) (from number : ℕ) (name : List ℕ) → IsFirstOpen s.link from number name → asked_member s number ≡ listed_member s name
open_member s from number name first =
    ap (λ (b : Bool). cond b (listed_member s (asked_at s.link number).name) None) first.here
    ∙ ap (listed_member s) (sym first.named)

passed_before : (s : Searched) (from number : ℕ) (name : List ℕ) → IsPassed s from → IsFirstOpen s.link from number name → (k : ℕ) → k < number → asked_member s k ≡ None
passed_before s from number name over first k lt = elim (cases_lt k from) [
  | inl below ↦ over.none k below
  | inr above ↦ closed_member s k (first.before k (omega (arith, above)) lt)
]

pub passed_to : (s : Searched) (from number : ℕ) (name : List ℕ) → IsPassed s from → IsFirstOpen s.link from number name → IsPassed s number
passed_to s from number name over first = record {
  within = omega (arith, first.high);
  none = passed_before s from number name over first;
}

pub passed_behind : (s : Searched) (from number : ℕ) (name : List ℕ) → IsPassed s from → IsFirstOpen s.link from number name → listed_member s name ≡ None → IsPassed s (number + 1)
passed_behind s from number name over first unlisted = record {
  within = omega (arith, first.high);
  none = λ k lt. elim (cases_lt k number) [
    | inl below ↦ passed_before s from number name over first k below
    | inr level ↦ let same : k ≡ number = omega (arith, level, lt) in ap (asked_member s) same ∙ open_member s from number name first ∙ unlisted
  ];
}

pub passed_all : (s : Searched) (from count : ℕ) → IsPassed s from → open_from s.link from ≡ None → count ≡ length (all_asked s.link) → IsPassed s count
passed_all s from count over none is = record {
  within = omega (arith, is);
  none = λ k lt. elim (cases_lt k from) [
    | inl below ↦ over.none k below
    | inr above ↦ closed_member s k (none_open s.link from over.within none k (omega (arith, above)) (omega (arith, lt, is)))
  ];
}

-- ---- the member

pub member_found : (s : Searched) (from number : ℕ) (name : List ℕ) (place : MemberPlace) → IsPassed s from → IsFirstOpen s.link from number name → listed_member s name ≡ Some place → member_by_reference s ≡ Some place
unfolding member_by_reference
member_found s from number name place over first listed =
    first_refusal_below-found number (length (all_asked s.link)) (asked_member s) place first.high
    (none_below number (asked_member s) (passed_before s from number name over first))
    (open_member s from number name first ∙ listed)

pub member_none : (s : Searched) (count : ℕ) → IsPassed s count → count ≡ length (all_asked s.link) → member_by_reference s ≡ None
unfolding member_by_reference
member_none s count over is =
    none_below (length (all_asked s.link)) (asked_member s) (λ k lt. over.none k (omega (arith, lt, is)))
