-- Alternates that wait, those that are asleep, and those that lead to no member.
use Rattle.std.proofs.Common.{◌≡◌, ℕ, zero, suc, add-one, ◌+◌, ◌<◌, ◌≤◌, Bool, true, false, ◌&&◌, ◌||◌, not, cond, List, [], ◌∷◌, ◌++◌, length, map, take, get_or, Option, Some, None, inl, inr, refl, sym, ap, subst, ◌∙◌, append_assoc, arith}
use Rattle.std.proofs.Math.Bool.{and-false, or-false}
use Rattle.std.specs.List.{list_any, filter_map}
use Rattle.std.specs.BTreeSet.{BTreeSet}
use Rattle.std.specs.Ordering.{nat_cmp, is_eq}
use Rattle.std.proofs.lemmas.Bool.{cases_lt, and_parts, or_parts, or_left}
use Rattle.std.proofs.lemmas.Bool.Decides.{nat_tests}
use Rattle.std.proofs.lemmas.List.Elements.{filter_map-append}
use Rattle.directives.specs.Said.{said}
use Rattle.directives.specs.declared.item.Directive.{Directive}
use Rattle.std.proofs.lemmas.List.{map-append, length-append, get_or_append_left, get_or_push, take_more, take_all, get_or_default}
use Rattle.std.proofs.lemmas.List.Folds.{list_any-append, list_any_at, list_any_none, list_any_more}
use Rattle.link_base.specs.NameText.{same_name}
use Rattle.link_base.proofs.NameTextLemmas.{same_is, same_refl}
use Rattle.module_view.specs.Module.{ModuleView}
use Rattle.symbol_names.specs.LinkView.{LinkView}
use Rattle.symbol_names.specs.Alternates.{alternate_said, alternates_by, all_alternates}
use Rattle.symbol_names.specs.Lists.{of_all}
use Rattle.symbol_names.specs.References.{Asked, all_asked, asked_by}
use Rattle.symbol_table.specs.OpenNames.{nothing_asked, asked_at, asks_for, is_open_at, is_open_name, is_provided, open_from}
use Rattle.lib_search.specs.SearchSteps.{MemberPlace, Searched, first_listing, listed_member, alternate_member, member_by_alternate, member_at, with_module, with_member}
use Rattle.lib_search.specs.AlternateParts.{is_waiting, IsLeast, is_among, noted_under, pair_at, is_asked_name, IsQuiet, KeepsAlternates, AreTogether, Wakes}
use Rattle.lib_search.specs.declared.alternates.Alternates.{Alternates}
use Rattle.lib_search.proofs.AlternateLemmas.{first_of, none_more, some_found}
use Rattle.lib_search.proofs.FromLemmas.{IsFirstOpen, none_open}
use Rattle.lib_search.proofs.PassedLemmas.{asked_push, asked_same, provided_more, closed_stays, unlisted_more, passed_joined}
use Rattle.lib_search.proofs.ModuleLemmas.{of_all_push}

clash : true ≡ false → ⊥
clash e = cc

either : {A : Type 0} (a b : Bool) → (a || b) ≡ true → (a ≡ true → A) → (b ≡ true → A) → A
either true b e f g = f refl
either false true e f g = g refl
either false false e f g = absurd cc

-- ---- numbers and names

number_self : (n : ℕ) → is_eq (nat_cmp n n) ≡ true
number_self n = grind (arith, nat_tests)

same_number : (n k : ℕ) → is_eq (nat_cmp n k) ≡ true → k ≡ n
same_number n k e = grind (arith, nat_tests)

other_number : (n k : ℕ) → is_eq (nat_cmp n k) ≡ false → k ≡ n → ⊥
other_number n k e is = clash (sym (ap (λ (m : ℕ). is_eq (nat_cmp n m)) is ∙ number_self n) ∙ e)

-- ---- open names

module _ (link : LinkView) (name : List ℕ) where
  asked_for : (k : ℕ) → is_open_at link k ≡ true → same_name (asked_at link k).name name ≡ true → asks_for name (asked_at link k) ≡ true
  asked_for k opens same =
      let asked = asked_at link k in
      let opened = and_parts asked.search (not (is_provided link.modules asked.name)) opens in
      ap (λ (b : Bool). b && same_name asked.name name) opened.0 ∙ same

  -- it is asked for where it is open by a number
  pub asked_by_open : (k : ℕ) → k < length (all_asked link) → is_open_at link k ≡ true → same_name (asked_at link k).name name ≡ true → is_asked_name link name ≡ true
  asked_by_open k lt opens same =
      list_any_at (asks_for name) (all_asked link) k nothing_asked lt (asked_for k opens same)

  open_by : (k : ℕ) → k < length (all_asked link) → is_open_at link k ≡ true → same_name (asked_at link k).name name ≡ true → is_open_name link name ≡ true
  open_by k lt opens same =
      let asked = asked_at link k in
      let opened = and_parts asked.search (not (is_provided link.modules asked.name)) opens in
      ap (λ (b : Bool). b && not (is_provided link.modules name)) (asked_by_open k lt opens same)
      ∙ ap (λ (n : List ℕ). not (is_provided link.modules n)) (sym (same_is asked.name name same))
      ∙ opened.1

  -- what is not open is so by no number
  pub closed_quiet : is_open_name link name ≡ false → IsQuiet link (length (all_asked link)) name
  closed_quiet closed k lt opens = go (same_name (asked_at link k).name name) refl
    where
      go : (b : Bool) → same_name (asked_at link k).name name ≡ b → b ≡ false
      go false e = refl
      go true e = absurd (clash (sym (open_by k lt opens e) ∙ closed))

  quiet_asks : IsQuiet link (length (all_asked link)) name → is_provided link.modules name ≡ false → (k : ℕ) → k < length (all_asked link) → asks_for name (asked_at link k) ≡ false
  quiet_asks quiet free k lt = go (asks_for name (asked_at link k)) refl
    where
      asked : Asked
      asked = asked_at link k

      go : (b : Bool) → asks_for name asked ≡ b → b ≡ false
      go false e = refl
      go true e =
          let parts = and_parts asked.search (same_name asked.name name) e in
          let opens : is_open_at link k ≡ true =
          ap (λ (b : Bool). b && not (is_provided link.modules asked.name)) parts.0
          ∙ ap (λ (n : List ℕ). not (is_provided link.modules n)) (same_is asked.name name parts.1)
          ∙ ap not free in
          absurd (clash (sym parts.1 ∙ quiet k lt opens))

  -- and the other way round
  pub quiet_closed : IsQuiet link (length (all_asked link)) name → is_open_name link name ≡ false
  quiet_closed quiet = go (is_provided link.modules name) refl
    where
      go : (b : Bool) → is_provided link.modules name ≡ b → (is_asked_name link name && not b) ≡ false
      go true e = and-false (is_asked_name link name)
      go false e =
          ap (λ (b : Bool). b && true)
          (list_any_none (asks_for name) (all_asked link) (λ k d lt.
          ap (asks_for name) (get_or_default (all_asked link) k d nothing_asked lt) ∙ quiet_asks quiet e k lt))

  -- an open name is asked for
  pub open_asked : is_open_name link name ≡ true → is_asked_name link name ≡ true
  open_asked opens = (and_parts (is_asked_name link name) (not (is_provided link.modules name)) opens).0

-- where the left name is not open
pub closed_none : (s : Searched) (pair : List ℕ × List ℕ) → is_open_name s.link pair.0 ≡ false → alternate_member s pair ≡ None
closed_none s pair closed =
    ap (λ (b : Bool). cond (b && not (is_provided s.link.modules pair.1)) (listed_member s pair.1) None) closed

-- ---- a member joins

asked_name_more : (link : LinkView) (m : ModuleView) (name : List ℕ) → is_asked_name link name ≡ true → is_asked_name (with_module link m) name ≡ true
asked_name_more link m name asked =
    ap (λ (all : List Asked). list_any (asks_for name) all) (asked_push link m)
    ∙ list_any-append (asks_for name) (all_asked link) (asked_by (length link.modules) m.bytes)
    ∙ or_left (is_asked_name link name) (list_any (asks_for name) (asked_by (length link.modules) m.bytes)) asked

quiet_more : (link : LinkView) (m : ModuleView) (name : List ℕ) → IsQuiet link (length (all_asked link)) name → IsQuiet (with_module link m) (length (all_asked link)) name
quiet_more link m name quiet k lt opens = go (is_open_at link k) refl
  where
    go : (b : Bool) → is_open_at link k ≡ b → same_name (asked_at (with_module link m) k).name name ≡ false
    go true e = ap (λ (asked : Asked). same_name asked.name name) (asked_same link m k lt) ∙ quiet k lt e
    go false e = absurd (clash (sym opens ∙ closed_stays link m k lt e))

none_stays : (a l l' r r' : Bool) (here there : Option MemberPlace) → a ≡ true → (l ≡ true → l' ≡ true) → (r ≡ true → r' ≡ true) → (here ≡ None → there ≡ None) → cond ((a && not l) && not r) here None ≡ None → (b : Bool) → cond ((b && not l') && not r') there None ≡ None
none_stays true true l' r r' here there a more right gone e b = grind arith
none_stays true false l' true r' here there a more right gone e b = grind arith
none_stays true false l' false r' here there a more right gone e b = grind arith
none_stays false l l' r r' here there a more right gone e b = absurd cc

gone_more : (s : Searched) (place : MemberPlace) (pair : List ℕ × List ℕ) → is_asked_name s.link pair.0 ≡ true → alternate_member s pair ≡ None → alternate_member (with_member s place) pair ≡ None
gone_more s place pair asked none =
    let m = member_at s place in
    let before = s.link.modules in
    let after = before ++ m ∷ [] in
    none_stays (is_asked_name s.link pair.0) (is_provided before pair.0) (is_provided after pair.0) (is_provided before pair.1) (is_provided after pair.1)
    (listed_member s pair.1) (listed_member (with_member s place) pair.1) asked
    (provided_more before m pair.0) (provided_more before m pair.1)
    (unlisted_more s.joined (place ∷ []) (first_listing s.libraries pair.1)) none
    (is_asked_name (with_member s place).link pair.0)

-- what is kept holds after it, but for what it asks for
pub alternates_joined : (s : Searched) (place : MemberPlace) (a : Alternates) → KeepsAlternates s (length (all_asked s.link)) a → KeepsAlternates (with_member s place) (length (all_asked s.link)) a
alternates_joined s place a keeps =
    let m = member_at s place in
    let pairs = a.pairs.items in
    record {
      waits = λ number here.
          let was = keeps.waits number here in
          (was.0, asked_name_more s.link m (pair_at pairs number).0 was.1);
      sleeps = λ name number here.
          let was = keeps.sleeps name number here in
          (was.0, was.1, quiet_more s.link m name was.2);
      gone = λ number lt awake up.
          let was = keeps.gone number lt awake up in
          (asked_name_more s.link m (pair_at pairs number).0 was.0, gone_more s place (pair_at pairs number) was.0 was.1);
    }

-- ---- those of a name wake

module _ (s : Searched) (seen number : ℕ) (name : List ℕ) (before after : Alternates) (keeps : KeepsAlternates s seen before) (first : IsFirstOpen s.link seen number name) (wakes : Wakes name before after) where
  same_pair : (k : ℕ) → pair_at after.pairs.items k ≡ pair_at before.pairs.items k
  same_pair k = ap (λ (pairs : List (List ℕ × List ℕ)). pair_at pairs k) wakes.pairs_stay

  same_count : length after.pairs.items ≡ length before.pairs.items
  same_count = ap (λ (pairs : List (List ℕ × List ℕ)). length pairs) wakes.pairs_stay

  name_asked : is_asked_name s.link name ≡ true
  name_asked =
      asked_by_open s.link name number first.high first.here
      (ap (λ (n : List ℕ). same_name n name) (sym first.named) ∙ same_refl name)

  still_quiet : (other : List ℕ) → same_name name other ≡ false → IsQuiet s.link seen other → IsQuiet s.link (number + 1) other
  still_quiet other differs quiet k lt opens = elim (cases_lt k seen) [
    | inl below ↦ quiet k below opens
    | inr above ↦ elim (cases_lt k number) [
      | inl between ↦ absurd (clash (sym opens ∙ first.before k (omega (arith, above)) between))
      | inr level ↦
          let same : k ≡ number = omega (arith, level, lt) in
          ap (λ (n : ℕ). same_name (asked_at s.link n).name other) same ∙ ap (λ (n : List ℕ). same_name n other) (sym first.named) ∙ differs
    ]
  ]

  slept : (other : List ℕ) (k : ℕ) → is_among (noted_under after.asleep other) k ≡ true → (same_name name other ≡ false) × (is_among (noted_under before.asleep other) k ≡ true)
  slept other k here = go (same_name name other) refl
    where
      go : (b : Bool) → same_name name other ≡ b → (b ≡ false) × (is_among (noted_under before.asleep other) k ≡ true)
      go true e = absurd (clash (sym here ∙ ap (λ (ns : List ℕ). is_among ns k) (wakes.asleep_is other ∙ ap (λ (b : Bool). cond b [] (noted_under before.asleep other)) e)))
      go false e = (refl, ap (λ (ns : List ℕ). is_among ns k) (sym (wakes.asleep_is other ∙ ap (λ (b : Bool). cond b [] (noted_under before.asleep other)) e)) ∙ here)

  not_slept : (k : ℕ) → is_waiting after.waiting k ≡ false → is_among (noted_under after.asleep (pair_at after.pairs.items k).0) k ≡ false → is_among (noted_under before.asleep (pair_at before.pairs.items k).0) k ≡ false
  not_slept k awake up = go (same_name name left) refl
    where
      left : List ℕ
      left = (pair_at before.pairs.items k).0

      go : (b : Bool) → same_name name left ≡ b → is_among (noted_under before.asleep left) k ≡ false
      go true e =
          ap (λ (n : List ℕ). is_among (noted_under before.asleep n) k) (sym (same_is name left e))
          ∙ (or_parts (is_waiting before.waiting k) (is_among (noted_under before.asleep name) k) (sym (wakes.waiting_is k) ∙ awake)).1
      go false e =
          ap (λ (ns : List ℕ). is_among ns k) (sym (wakes.asleep_is left ∙ ap (λ (b : Bool). cond b [] (noted_under before.asleep left)) e))
          ∙ ap (λ (pair : List ℕ × List ℕ). is_among (noted_under after.asleep pair.0) k) (sym (same_pair k))
          ∙ up

  pub woken : KeepsAlternates s (number + 1) after
  woken = record {
    waits = λ k here.
        either (is_waiting before.waiting k) (is_among (noted_under before.asleep name) k) (sym (wakes.waiting_is k) ∙ here)
        (λ waited. let was = keeps.waits k waited in
        (omega (arith, was.0, same_count), ap (λ (pair : List ℕ × List ℕ). is_asked_name s.link pair.0) (same_pair k) ∙ was.1))
        (λ slept_here. let was = keeps.sleeps name k slept_here in
        (omega (arith, was.0, same_count), ap (λ (pair : List ℕ × List ℕ). is_asked_name s.link pair.0) (same_pair k) ∙ ap (is_asked_name s.link) was.1 ∙ name_asked));
    sleeps = λ other k here.
        let earlier = slept other k here in
        let was = keeps.sleeps other k earlier.1 in
        (omega (arith, was.0, same_count), ap (λ (pair : List ℕ × List ℕ). pair.0) (same_pair k) ∙ was.1, still_quiet other earlier.0 was.2);
    gone = λ k lt awake up.
        let was = keeps.gone k (omega (arith, lt, same_count)) (or_parts (is_waiting before.waiting k) (is_among (noted_under before.asleep name) k) (sym (wakes.waiting_is k) ∙ awake)).0 (not_slept k awake up) in
        (ap (λ (pair : List ℕ × List ℕ). is_asked_name s.link pair.0) (same_pair k) ∙ was.0, ap (alternate_member s) (same_pair k) ∙ was.1);
  }

-- nothing is open from a number on
pub all_woken : (s : Searched) (seen : ℕ) (a : Alternates) → seen ≤ length (all_asked s.link) → open_from s.link seen ≡ None → KeepsAlternates s seen a → KeepsAlternates s (length (all_asked s.link)) a
all_woken s seen a within none keeps = record {
  waits = keeps.waits;
  sleeps = λ name k here.
      let was = keeps.sleeps name k here in (
        was.0,
        was.1,
        λ j lt opens. elim (cases_lt j seen) [
          | inl below ↦ was.2 j below opens
          | inr above ↦ absurd (clash (sym opens ∙ none_open s.link seen within none j (omega (arith, above)) lt))
        ],
      );
  gone = keeps.gone;
}

-- ---- one more alternate

module _ (s : Searched) (pair : List ℕ × List ℕ) (before after : Alternates) (keeps : KeepsAlternates s (length (all_asked s.link)) before) (pushed : after.pairs.items ≡ before.pairs.items ++ pair ∷ []) where
  count : length after.pairs.items ≡ length before.pairs.items + 1
  count = ap (λ (pairs : List (List ℕ × List ℕ)). length pairs) pushed ∙ length-append before.pairs.items (pair ∷ [])

  earlier_pair : (k : ℕ) → k < length before.pairs.items → pair_at after.pairs.items k ≡ pair_at before.pairs.items k
  earlier_pair k lt =
      ap (λ (pairs : List (List ℕ × List ℕ)). pair_at pairs k) pushed
      ∙ get_or_append_left before.pairs.items (pair ∷ []) ([], []) k lt

  last_pair : (k : ℕ) → k ≡ length before.pairs.items → pair_at after.pairs.items k ≡ pair
  last_pair k is =
      ap (λ (pairs : List (List ℕ × List ℕ)). pair_at pairs k) pushed
      ∙ get_or_push before.pairs.items pair ([], []) k (sym is)

  -- its left name is open
  pub added_waiting : is_open_name s.link pair.0 ≡ true → ((k : ℕ) → is_waiting after.waiting k ≡ cond (is_eq (nat_cmp (length before.pairs.items) k)) true (is_waiting before.waiting k)) → after.asleep ≡ before.asleep → KeepsAlternates s (length (all_asked s.link)) after
  added_waiting opens waiting asleep = record {
    waits = λ k here. wait k (is_eq (nat_cmp (length before.pairs.items) k)) refl here;
    sleeps = λ name k here.
        let was = keeps.sleeps name k (ap (λ (m : _). is_among (noted_under m name) k) (sym asleep) ∙ here) in
        (omega (arith, was.0, count), ap (λ (p : List ℕ × List ℕ). p.0) (earlier_pair k was.0) ∙ was.1, was.2);
    gone = λ k lt awake up. go k lt awake up (is_eq (nat_cmp (length before.pairs.items) k)) refl;
  }
    where
      wait : (k : ℕ) (b : Bool) → is_eq (nat_cmp (length before.pairs.items) k) ≡ b → is_waiting after.waiting k ≡ true → (k < length after.pairs.items) × (is_asked_name s.link (pair_at after.pairs.items k).0 ≡ true)
      wait k true e here =
          let is : k ≡ length before.pairs.items = same_number (length before.pairs.items) k e in
          (omega (arith, is, count), ap (λ (p : List ℕ × List ℕ). is_asked_name s.link p.0) (last_pair k is) ∙ open_asked s.link pair.0 opens)
      wait k false e here =
          let was = keeps.waits k (sym (waiting k ∙ ap (λ (b : Bool). cond b true (is_waiting before.waiting k)) e) ∙ here) in
          (omega (arith, was.0, count), ap (λ (p : List ℕ × List ℕ). is_asked_name s.link p.0) (earlier_pair k was.0) ∙ was.1)

      go : (k : ℕ) → k < length after.pairs.items → is_waiting after.waiting k ≡ false → is_among (noted_under after.asleep (pair_at after.pairs.items k).0) k ≡ false → (b : Bool) → is_eq (nat_cmp (length before.pairs.items) k) ≡ b → (is_asked_name s.link (pair_at after.pairs.items k).0 ≡ true) × (alternate_member s (pair_at after.pairs.items k) ≡ None)
      go k lt awake up true e = absurd (clash (sym (waiting k ∙ ap (λ (b : Bool). cond b true (is_waiting before.waiting k)) e) ∙ awake))
      go k lt awake up false e =
          let is_not = other_number (length before.pairs.items) k e in
          let low : k < length before.pairs.items = omega (arith, lt, count, is_not) in
          let same = earlier_pair k low in
          let was = keeps.gone k low (sym (waiting k ∙ ap (λ (b : Bool). cond b true (is_waiting before.waiting k)) e) ∙ awake)
          (ap (λ (m : _). is_among (noted_under m (pair_at before.pairs.items k).0) k) (sym asleep) ∙ ap (λ (p : List ℕ × List ℕ). is_among (noted_under after.asleep p.0) k) (sym same) ∙ up) in
          (ap (λ (p : List ℕ × List ℕ). is_asked_name s.link p.0) same ∙ was.0, ap (alternate_member s) same ∙ was.1)

  noted_now : ((other : List ℕ) → noted_under after.asleep other ≡ cond (same_name pair.0 other) (noted_under before.asleep other ++ length before.pairs.items ∷ []) (noted_under before.asleep other)) → (other : List ℕ) (k : ℕ) → is_among (noted_under after.asleep other) k ≡ (is_among (noted_under before.asleep other) k || (same_name pair.0 other && is_eq (nat_cmp (length before.pairs.items) k)))
  noted_now noted other k =
      ap (λ (ns : List ℕ). is_among ns k) (noted other) ∙ go (same_name pair.0 other)
    where
      go : (b : Bool) → is_among (cond b (noted_under before.asleep other ++ length before.pairs.items ∷ []) (noted_under before.asleep other)) k ≡ (is_among (noted_under before.asleep other) k || (b && is_eq (nat_cmp (length before.pairs.items) k)))
      go true =
          list_any-append (λ (n : ℕ). is_eq (nat_cmp n k)) (noted_under before.asleep other) (length before.pairs.items ∷ [])
          ∙ ap (λ (b : Bool). is_among (noted_under before.asleep other) k || b) (or-false (is_eq (nat_cmp (length before.pairs.items) k)))
      go false = sym (or-false (is_among (noted_under before.asleep other) k))

  -- its left name is not open
  pub added_asleep : is_open_name s.link pair.0 ≡ false → after.waiting ≡ before.waiting → ((other : List ℕ) → noted_under after.asleep other ≡ cond (same_name pair.0 other) (noted_under before.asleep other ++ length before.pairs.items ∷ []) (noted_under before.asleep other)) → KeepsAlternates s (length (all_asked s.link)) after
  added_asleep closed waiting noted = record {
    waits = λ k here.
        let was = keeps.waits k (ap (λ (w : BTreeSet ℕ). is_waiting w k) (sym waiting) ∙ here) in
        (omega (arith, was.0, count), ap (λ (p : List ℕ × List ℕ). is_asked_name s.link p.0) (earlier_pair k was.0) ∙ was.1);
    sleeps = λ name k here.
        either (is_among (noted_under before.asleep name) k) (same_name pair.0 name && is_eq (nat_cmp (length before.pairs.items) k)) (sym (noted_now noted name k) ∙ here)
        (λ slept. let was = keeps.sleeps name k slept in
        (omega (arith, was.0, count), ap (λ (p : List ℕ × List ℕ). p.0) (earlier_pair k was.0) ∙ was.1, was.2))
        (λ now. let parts = and_parts (same_name pair.0 name) (is_eq (nat_cmp (length before.pairs.items) k)) now in
        let is : k ≡ length before.pairs.items = same_number (length before.pairs.items) k parts.1 in
        let named : pair.0 ≡ name = same_is pair.0 name parts.0 in (
          omega (arith, is, count),
          ap (λ (p : List ℕ × List ℕ). p.0) (last_pair k is) ∙ named,
          subst (IsQuiet s.link (length (all_asked s.link))) named (closed_quiet s.link pair.0 closed),
        ));
    gone = λ k lt awake up. elim (cases_lt k (length before.pairs.items)) [
      | inl low ↦
          let same = earlier_pair k low in
          let was = keeps.gone k low (ap (λ (w : BTreeSet ℕ). is_waiting w k) (sym waiting) ∙ awake)
          (or_parts (is_among (noted_under before.asleep (pair_at before.pairs.items k).0) k) (same_name pair.0 (pair_at before.pairs.items k).0 && is_eq (nat_cmp (length before.pairs.items) k))
          (sym (noted_now noted (pair_at before.pairs.items k).0 k) ∙ ap (λ (p : List ℕ × List ℕ). is_among (noted_under after.asleep p.0) k) (sym same) ∙ up)).0 in
          (ap (λ (p : List ℕ × List ℕ). is_asked_name s.link p.0) same ∙ was.0, ap (alternate_member s) same ∙ was.1)
      | inr high ↦
          let is : k ≡ length before.pairs.items = omega (arith, high, lt, count) in
          let out = (or_parts (is_among (noted_under before.asleep pair.0) k) (same_name pair.0 pair.0 && is_eq (nat_cmp (length before.pairs.items) k))
          (sym (noted_now noted pair.0 k) ∙ ap (λ (p : List ℕ × List ℕ). is_among (noted_under after.asleep p.0) k) (sym (last_pair k is)) ∙ up)).1 in
          absurd (clash (sym (ap (λ (b : Bool). b && is_eq (nat_cmp (length before.pairs.items) k)) (same_refl pair.0) ∙ ap (λ (n : ℕ). is_eq (nat_cmp (length before.pairs.items) n)) is ∙ number_self (length before.pairs.items)) ∙ out))
    ];
  }

-- ---- the first that waits

module _ (s : Searched) (a : Alternates) (keeps : KeepsAlternates s (length (all_asked s.link)) a) where
  -- what does not wait leads to none
  awake_none : (k : ℕ) → k < length a.pairs.items → is_waiting a.waiting k ≡ false → alternate_member s (pair_at a.pairs.items k) ≡ None
  awake_none k lt awake = go (is_among (noted_under a.asleep left) k) refl
    where
      left : List ℕ
      left = (pair_at a.pairs.items k).0

      go : (b : Bool) → is_among (noted_under a.asleep left) k ≡ b → alternate_member s (pair_at a.pairs.items k) ≡ None
      go true e = closed_none s (pair_at a.pairs.items k) (quiet_closed s.link left (keeps.sleeps left k e).2)
      go false e = (keeps.gone k lt awake e).1

  none_first : (n : ℕ) → n ≤ length a.pairs.items → ((k : ℕ) → k < n → is_waiting a.waiting k ≡ false) → first_of (alternate_member s) (take n a.pairs.items) ≡ None
  none_first zero le awake = refl
  none_first (suc n) le awake =
      let pairs = a.pairs.items in
      ap (λ (m : ℕ). first_of (alternate_member s) (take m pairs)) (sym (add-one n))
      ∙ none_more (alternate_member s) pairs n (pair_at pairs n) (omega (arith, le)) (get_or_default pairs n ([], []) (pair_at pairs n) (omega (arith, le)))
      (none_first n (omega (arith, le)) (λ k lt. awake k (omega (arith, lt))))
      (awake_none n (omega (arith, le)) (awake n (omega arith)))

  -- the first that waits leads to one
  pub least_leads : (number : ℕ) (place : MemberPlace) → a.pairs.items ≡ all_alternates s.link → IsLeast a.waiting number → alternate_member s (pair_at a.pairs.items number) ≡ Some place → member_by_alternate s ≡ Some place
  unfolding member_by_alternate
  least_leads number place all least leads =
      let pairs = a.pairs.items in
      let lt = (keeps.waits number least.here).0 in
      ap (first_of (alternate_member s)) (sym all)
      ∙ some_found (alternate_member s) pairs number (pair_at pairs number) place lt (get_or_default pairs number ([], []) (pair_at pairs number) lt)
      (none_first number (omega (arith, lt)) least.below) leads

  -- none waits
  pub none_leads : a.pairs.items ≡ all_alternates s.link → ((number : ℕ) → is_waiting a.waiting number ≡ false) → member_by_alternate s ≡ None
  unfolding member_by_alternate
  none_leads all awake =
      let pairs = a.pairs.items in
      ap (first_of (alternate_member s)) (sym all)
      ∙ ap (first_of (alternate_member s)) (sym (take_all (length pairs) pairs (omega arith)))
      ∙ none_first (length pairs) (omega arith) (λ k lt. awake k)

-- ---- all that is said

pub alternates_push : (link : LinkView) (m : ModuleView) → all_alternates (with_module link m) ≡ all_alternates link ++ alternates_by (length link.modules) m.bytes
alternates_push link m =
    ap (λ (later : List (List ℕ × List ℕ)). link.alternates ++ later) (of_all_push alternates_by link.modules m)
    ∙ sym (append_assoc link.alternates (of_all alternates_by link.modules) (alternates_by (length link.modules) m.bytes))

-- a member joined, and says some
pub keeps_joined : (s : Searched) (place : MemberPlace) (modules : List ModuleView) (before after : Alternates) (passed : ℕ) → AreTogether s modules before passed → KeepsAlternates (with_member s place) (length (all_asked (with_member s place).link)) after → after.pairs.items ≡ before.pairs.items ++ alternates_by (length s.link.modules) (member_at s place).bytes → AreTogether (with_member s place) (modules ++ member_at s place ∷ []) after passed
keeps_joined s place modules before after passed keeps kept pairs = record {
  modules_are = ap (λ (ms : List ModuleView). ms ++ member_at s place ∷ []) keeps.modules_are;
  over = passed_joined s place passed keeps.over;
  pairs_are =
      pairs
      ∙ ap (λ (ps : List (List ℕ × List ℕ)). ps ++ alternates_by (length s.link.modules) (member_at s place).bytes) keeps.pairs_are
      ∙ sym (alternates_push s.link (member_at s place));
  kept = kept;
}

-- ---- numbers that are inserted one after the other

pub one_inserted : (old was now : Bool) (xs : List ℕ) (i x k : ℕ) → i < length xs → x ≡ get_or xs i x → was ≡ (old || is_among (take i xs) k) → now ≡ cond (is_eq (nat_cmp x k)) true was → now ≡ (old || is_among (take (i + 1) xs) k)
one_inserted old was now xs i x k lt is was_is now_is =
    now_is
    ∙ ap (cond (is_eq (nat_cmp x k)) true) was_is
    ∙ go old (is_among (take i xs) k) (is_eq (nat_cmp x k))
    ∙ ap (λ (n : ℕ). old || (is_among (take i xs) k || is_eq (nat_cmp n k))) is
    ∙ ap (λ (b : Bool). old || b) (sym (list_any_more (λ (n : ℕ). is_eq (nat_cmp n k)) xs i x lt))
  where
    go : (a b t : Bool) → cond t true (a || b) ≡ (a || (b || t))
    go true b true = refl
    go true b false = refl
    go false true true = refl
    go false true false = refl
    go false false true = refl
    go false false false = refl

pub all_inserted : (old now : Bool) (xs : List ℕ) (n k : ℕ) → length xs ≤ n → now ≡ (old || is_among (take n xs) k) → now ≡ (old || is_among xs k)
all_inserted old now xs n k le is = is ∙ ap (λ (ys : List ℕ). old || is_among ys k) (take_all n xs le)

-- ---- alternates among directives, one after the other

pub said_next : (pairs : List (List ℕ × List ℕ)) (directives : List Directive) (index : ℕ) (d : Directive) → index < length directives → d ≡ get_or directives index d → (pairs ++ filter_map alternate_said (map said (take index directives))) ++ filter_map alternate_said (said d ∷ []) ≡ pairs ++ filter_map alternate_said (map said (take (index + 1) directives))
said_next pairs directives index d lt is =
    let first = take index directives in
    append_assoc pairs (filter_map alternate_said (map said first)) (filter_map alternate_said (said d ∷ []))
    ∙ ap (λ (list : List (List ℕ × List ℕ)). pairs ++ list)
    (sym (filter_map-append alternate_said (map said first) (said d ∷ []))
    ∙ ap (filter_map alternate_said) (sym (map-append said first (d ∷ [])) ∙ ap (λ (one : Directive). map said (first ++ one ∷ [])) is ∙ ap (map said) (sym (take_more directives index d lt))))
