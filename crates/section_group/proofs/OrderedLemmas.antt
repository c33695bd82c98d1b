-- The keys of sections, gathered and sorted.
use Rattle.std.proofs.Common.{◌≡◌, ◌≢◌, ℕ, ◌+◌, ◌<◌, ◌≤◌, Bool, true, false, cond, eqb, eq-eqb, List, [], ◌∷◌, ◌++◌, length, get_or, map, filter, Vec, refl, sym, ap, ◌∙◌, subst, inl, inr, length-append, arith, rules}
use Rattle.std.specs.List.{Any, Contains, IsDistinct, range_with_len}
use Rattle.std.specs.List.Sorted.{IsSorted, IsPermutation}
use Rattle.std.specs.Ordering.{nat_cmp}
use Rattle.std.specs.Cmp.{IsTotalOrder}
use Rattle.std.specs.Cmp.Rules.{comparing}
use Rattle.std.specs.declared.alloc.Global.{Global}
use Rattle.std.specs.declared.cmp.Ordering.TheVariants.{Equal}
use Rattle.std.proofs.lemmas.Bool.{false≢true, cases_lt}
use Rattle.std.proofs.lemmas.List.{append-nil, length-map, get_or_default, map_push}
use Rattle.std.proofs.lemmas.List.Elements.{All-push, All-nil}
use Rattle.std.proofs.lemmas.List.Sorted.{All-permutation, Contains-permutation, IsPermutation-map}
use Rattle.std.proofs.lemmas.Map.Keys.{apart_from_distinct, IsDistinct-IsPermutation}
use Rattle.std.proofs.Math.ListN.{get_or-map, get_or-append}
use Rattle.std.proofs.Math.Seq.{get_or-append_seam}
use Rattle.section_group.specs.declared.homes.Home.{Home}
use Rattle.section_group.specs.declared.key.SectionKey.{SectionKey}
use Rattle.section_group.specs.declared.piece.OutSection.{OutSection}
use Rattle.section_group.specs.SectionOrder.{Input}
use Rattle.section_group.specs.Keys.{section_cmp}
use Rattle.section_group.specs.Sections.{IsKey, AreKeys, OrdersSections, IsBuilt, AreBuilt, home_at, pieces_at, is_needed}
use Rattle.section_group.proofs.OrderLemmas.{ascends, then_level}
use Rattle.link_base.proofs.RangeLemmas.{range_has, range_distinct, filter_more}
use Rattle.link_base.proofs.OrderingLemmas.{one_number}
use Rattle.link_base.proofs.NumberLemmas.{eqb_flip}

pub section_total : IsTotalOrder section_cmp
section_total = search (comparing, rules) depth 9

section_of : SectionKey → ℕ
section_of key = key.section

pub keys_begin : (input : Input) (homes : List Home) (members : List (Vec ℕ Global)) → AreKeys input homes members 0 []
keys_begin input homes members = record { each = All-nil (IsKey input homes members); sections = refl }

pub keys_more : (input : Input) (homes : List Home) (members : List (Vec ℕ Global)) (count : ℕ) (keys : List SectionKey) (key : SectionKey) → AreKeys input homes members count keys → is_needed input members count ≡ true → IsKey input homes members key → key.section ≡ count → AreKeys input homes members (count + 1) (keys ++ key ∷ [])
keys_more input homes members count keys key are needed is_key here = record {
  each = All-push (IsKey input homes members) keys key are.each is_key;
  sections =
      map_push (λ k. k.section) keys key ∙ ap (λ (xs : List ℕ). xs ++ key.section ∷ []) are.sections
      ∙ ap (λ (k : ℕ). filter (is_needed input members) (range_with_len 0 count) ++ k ∷ []) here
      ∙ ap (λ (b : Bool). filter (is_needed input members) (range_with_len 0 count) ++ cond b (count ∷ []) []) (sym needed)
      ∙ sym (filter_more (is_needed input members) count);
}

pub keys_skip : (input : Input) (homes : List Home) (members : List (Vec ℕ Global)) (count : ℕ) (keys : List SectionKey) → AreKeys input homes members count keys → is_needed input members count ≡ false → AreKeys input homes members (count + 1) keys
keys_skip input homes members count keys are empty = record {
  each = are.each;
  sections =
      are.sections ∙ sym (append-nil (filter (is_needed input members) (range_with_len 0 count)))
      ∙ ap (λ (b : Bool). filter (is_needed input members) (range_with_len 0 count) ++ cond b (count ∷ []) []) (sym empty)
      ∙ sym (filter_more (is_needed input members) count);
}

level_sections : (a b : SectionKey) → section_cmp a b ≡ Equal → a.section ≡ b.section
level_sections a b e =
    one_number a.section b.section
    (then_level (nat_cmp a.index b.index) (nat_cmp a.section b.section)
    (then_level (nat_cmp a.number b.number) _
    (then_level (nat_cmp a.module b.module) _
    (then_level (nat_cmp a.rank b.rank) _ e))))

pub keys_ordered : (input : Input) (homes : List Home) (members : List (Vec ℕ Global)) (count : ℕ) (keys sorted : List SectionKey) → AreKeys input homes members count keys → length homes ≤ count → IsPermutation keys sorted → IsSorted section_cmp sorted → OrdersSections input homes members sorted
keys_ordered input homes members count keys sorted are all moved rises = record {
  each = All-permutation (IsKey input homes members) keys sorted moved are.each;
  complete = λ section lt needed.
      let there = subst (λ (xs : List ℕ). Contains xs section) (sym are.sections) (range_has (is_needed input members) 0 count section (omega arith) (omega arith) needed) in
      any_of section (Contains-permutation (map (λ key. key.section) keys) (map (λ key. key.section) sorted) section moved_sections there);
  ascending = ascends section_total sorted rises apart;
}
  where
    moved_sections : IsPermutation (map (λ key. key.section) keys) (map (λ key. key.section) sorted)
    moved_sections = IsPermutation-map (λ key. key.section) keys sorted moved

    distinct : IsDistinct eqb (map (λ key. key.section) sorted)
    distinct = IsDistinct-IsPermutation eqb eqb_flip (map (λ key. key.section) keys) (map (λ key. key.section) sorted) moved_sections (subst (IsDistinct eqb) (sym are.sections) (range_distinct (is_needed input members) 0 count))

    read : (i : ℕ) (d : SectionKey) → get_or (map (λ key. key.section) sorted) i d.section ≡ (get_or sorted i d).section
    read i d = get_or-map (λ key. key.section) sorted i d

    apart : (i j : ℕ) (d : SectionKey) → i < j → j < length sorted → section_cmp (get_or sorted i d) (get_or sorted j d) ≢ Equal
    apart i j d lt within level =
        let in' : j < length (map (λ (key : SectionKey). key.section) sorted) = omega (arith, length-map sorted (λ (key : SectionKey). key.section)) in
        let differ = apart_from_distinct eqb (map (λ key. key.section) sorted) i j d.section distinct lt in' in
        false≢true (sym differ ∙ eq-eqb _ _ (read i d ∙ level_sections (get_or sorted i d) (get_or sorted j d) level ∙ sym (read j d)))

    any_of : (section : ℕ) → Contains (map (λ key. key.section) sorted) section → Any (λ key. key.section ≡ section) sorted
    any_of section there =
        let d : SectionKey = record { rank = 0; «module» = 0; number = 0; index = 0; section = 0 } in
        let in' : there.0 < length sorted = omega (arith, there.1, length-map sorted (λ (key : SectionKey). key.section)) in (
          there.0,
          get_or sorted there.0 d,
          in',
          get_or_default sorted there.0 (get_or sorted there.0 d) d in',
          sym (read there.0 d) ∙ get_or_default (map (λ key. key.section) sorted) there.0 0 section there.1 ∙ there.2,
        )

-- one more section is built
pub built_more : (input : Input) (homes : List Home) (members : List (Vec ℕ Global)) (keys : List SectionKey) (i : ℕ) (sections : List OutSection) (key : SectionKey) (section : OutSection) → AreBuilt input homes members keys i sections → i < length keys → IsBuilt input (home_at homes (get_or keys i key).section) (pieces_at members (get_or keys i key).section) section → AreBuilt input homes members keys (i + 1) (sections ++ section ∷ [])
built_more input homes members keys i sections key section are lt built = record {
  same_length = length-append sections (section ∷ []) ∙ ap (λ (n : ℕ). n + 1) are.same_length;
  each = λ j d e within. elim (cases_lt j i) [
    | inl below ↦
        let in' : j < length sections = omega (arith, are.same_length) in
        subst (λ (s : OutSection). IsBuilt input (home_at homes (get_or keys j d).section) (pieces_at members (get_or keys j d).section) s) (sym (get_or-append sections (section ∷ []) e j in')) (are.each j d e below)
    | inr above ↦
        let same : j ≡ length sections = omega (arith, are.same_length) in
        let here : i ≡ j = omega arith in
        subst (λ (s : OutSection). IsBuilt input (home_at homes (get_or keys j d).section) (pieces_at members (get_or keys j d).section) s) (sym (ap (λ (k : ℕ). get_or (sections ++ section ∷ []) k e) same ∙ get_or-append_seam sections section [] e))
        (subst (λ (n : ℕ). IsBuilt input (home_at homes (get_or keys n d).section) (pieces_at members (get_or keys n d).section) section) here
        (subst (λ (k : SectionKey). IsBuilt input (home_at homes k.section) (pieces_at members k.section) section) (get_or_default keys i key d lt) built))
  ];
}
