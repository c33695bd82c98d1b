-- The resources of a tree are found in it, and no others.
use Rattle.std.proofs.Common.{◌≡◌, ℕ, zero, suc, ◌+◌, ◌-◌, ◌^◌, ◌<◌, ◌≤◌, Bool, true, false, cond, eqb, leb, List, [], ◌∷◌, length, take, drop, Option, Some, None, refl, sym, ap, ◌∙◌, arith}
use Rattle.std.specs.Prelude.{◌&&◌}
use Rattle.std.specs.List.{AllByRecursion, IsDistinct}
use Rattle.std.specs.Option.{option_map, option_and_then}
use Rattle.std.specs.Ordering.{ordering_then, nat_cmp, is_lt, is_eq, is_gt}
use Rattle.std.specs.Cmp.{tied_itself}
use Rattle.std.specs.declared.cmp.Ordering.{Ordering}
use Rattle.std.specs.declared.cmp.Ordering.TheVariants.{Less, Equal, Greater}
use Rattle.std.proofs.lemmas.Bool.{false≢true, true≢false, eqb-true, leb-true, and_parts}
use Rattle.std.proofs.lemmas.List.Elements.{recursion_from_All, All-from_recursion}
use Rattle.std.proofs.lemmas.List.Sorted.{All-permutation}
use Rattle.link_base.specs.Bytes.{u32_at, bytes_at}
use Rattle.link_base.proofs.PartLemmas.{part_of_part}
use Rattle.res_merge.specs.Entries.{Key, Entry}
use Rattle.res_merge.specs.Order.{key_cmp, entry_cmp, same_resource, put_in_order, in_order, IsShort, AreMergeable}
use Rattle.res_merge.specs.Runs.{names_of, kinds_of, same_name}
use Rattle.res_merge.specs.Tree.{tree_of, tree_size}
use Rattle.res_merge.specs.Lookup.{leaf_data, place_in, resource_data}
use Rattle.res_merge.specs.Found.{IsSmallKey, AreNumbered, equal_key, is_resource, data_of, kind_data}
use Rattle.res_merge.proofs.OrderLemmas.{entry_total}
use Rattle.res_merge.proofs.SortLemmas.{Ascends, order_moves, order_ascends}
use Rattle.res_merge.proofs.SizeLemmas.{tree_small, order_few, order_short}
use Rattle.res_merge.proofs.PlaceLemmas.{runs_each, heads_each}
use Rattle.res_merge.proofs.GroupLemmas.{wanted_is, Rises, heads_rise, kind_cmp, name_cmp}
use Rattle.res_merge.proofs.RunDataLemmas.{AreShort, pairs_said, kinds_said}
use Rattle.res_merge.proofs.PositionLemmas.{AreHeld, tree_found}

-- ---- the data of a resource do not depend on the order

module _ (kind name : Key) (language : ℕ) where
  -- of resources that differ one at most is wanted
  one_resource : (a b : Entry) → same_resource a b ≡ false → is_resource kind name language a ≡ true → is_resource kind name language b ≡ true → ⊥
  one_resource a b differ is also =
      let first = and_parts (equal_key kind a.kind) (equal_key name a.name && eqb a.language language) is in
      let second = and_parts (equal_key name a.name) (eqb a.language language) first.1 in
      let third = and_parts (equal_key kind b.kind) (equal_key name b.name && eqb b.language language) also in
      let fourth = and_parts (equal_key name b.name) (eqb b.language language) third.1 in
      let kinds : a.kind ≡ b.kind = sym (wanted_is kind a.kind first.0) ∙ wanted_is kind b.kind third.0 in
      let names : a.name ≡ b.name = sym (wanted_is name a.name second.0) ∙ wanted_is name b.name fourth.0 in
      let languages : a.language ≡ b.language = eqb-true a.language language second.1 ∙ sym (eqb-true b.language language fourth.1) in
      let other : Entry = record { kind = a.kind; name = a.name; language = a.language; body = b.body } in
      let same : same_resource a b ≡ same_resource a other =
      ap (λ (k : Key). same_resource a (record { kind = k; name = b.name; language = b.language; body = b.body })) (sym kinds)
      ∙ ap (λ (k : Key). same_resource a (record { kind = a.kind; name = k; language = b.language; body = b.body })) (sym names)
      ∙ ap (λ (n : ℕ). same_resource a (record { kind = a.kind; name = a.name; language = n; body = b.body })) (sym languages) in
      true≢false (sym (ap is_eq (tied_itself entry_total a)) ∙ sym same ∙ differ)

  put_said : (entry : Entry) (list : List Entry) → AllByRecursion (λ other. same_resource entry other ≡ false) list → data_of kind name language (put_in_order entry list) ≡ data_of kind name language (entry ∷ list)
  unfolding put_in_order data_of
  put_said entry [] apart = refl
  put_said entry (first ∷ rest) apart = by_test (is_lt (entry_cmp entry first)) (put_said entry rest apart.1)
    where
      swap : (a b : Bool) → is_resource kind name language entry ≡ a → is_resource kind name language first ≡ b → cond b (Some first.body) (cond a (Some entry.body) (data_of kind name language rest)) ≡ cond a (Some entry.body) (cond b (Some first.body) (data_of kind name language rest))
      swap true true e f = absurd (one_resource entry first apart.0 e f)
      swap true false e f = refl
      swap false b e f = refl

      by_test : (c : Bool) → data_of kind name language (put_in_order entry rest) ≡ data_of kind name language (entry ∷ rest) → data_of kind name language (cond c (entry ∷ first ∷ rest) (first ∷ put_in_order entry rest)) ≡ data_of kind name language (entry ∷ first ∷ rest)
      by_test true was = refl
      by_test false was =
          ap (λ (o : Option (List ℕ)). cond (is_resource kind name language first) (Some first.body) o) was
          ∙ swap (is_resource kind name language entry) (is_resource kind name language first) refl refl

  order_said : (list : List Entry) → IsDistinct same_resource list → data_of kind name language (in_order list) ≡ data_of kind name language list
  unfolding in_order data_of IsDistinct
  order_said [] apart = refl
  order_said (entry ∷ rest) apart =
      put_said entry (in_order rest) (recursion_from_All (λ other. same_resource entry other ≡ false) (in_order rest) (All-permutation (λ other. same_resource entry other ≡ false) rest (in_order rest) (order_moves rest) (All-from_recursion (λ other. same_resource entry other ≡ false) rest apart.0)))
      ∙ ap (λ (o : Option (List ℕ)). cond (is_resource kind name language entry) (Some entry.body) o) (order_said rest apart.1)

-- ---- resources in order rise by type and by name

lower_first : (a b : Ordering) → is_lt (ordering_then a b) ≡ true → is_gt a ≡ false
lower_first Less b e = refl
lower_first Equal b e = refl
lower_first Greater b e = absurd (false≢true e)

regroup : (a b c : Ordering) → ordering_then a (ordering_then b c) ≡ ordering_then (ordering_then a b) c
regroup Less b c = refl
regroup Equal b c = refl
regroup Greater b c = refl

rises_by_name : (list : List Entry) → Ascends entry_cmp list → Rises name_cmp list
rises_by_name [] up = tt
rises_by_name (entry ∷ rest) up = (each rest up.0, rises_by_name rest up.1)
  where
    each : (xs : List Entry) → AllByRecursion (λ y. is_lt (entry_cmp entry y) ≡ true) xs → AllByRecursion (λ y. is_gt (name_cmp entry y) ≡ false) xs
    each [] all = tt
    each (x ∷ xs) all =
        (lower_first (name_cmp entry x) (nat_cmp entry.language x.language) (sym (ap is_lt (regroup (key_cmp entry.kind x.kind) (key_cmp entry.name x.name) (nat_cmp entry.language x.language))) ∙ all.0), each xs all.1)

rises_by_kind : (list : List Entry) → Ascends entry_cmp list → Rises kind_cmp list
rises_by_kind [] up = tt
rises_by_kind (entry ∷ rest) up = (each rest up.0, rises_by_kind rest up.1)
  where
    each : (xs : List Entry) → AllByRecursion (λ y. is_lt (entry_cmp entry y) ≡ true) xs → AllByRecursion (λ y. is_gt (kind_cmp entry y) ≡ false) xs
    each [] all = tt
    each (x ∷ xs) all = (lower_first (key_cmp entry.kind x.kind) _ all.0, each xs all.1)

-- ---- in a tree

abbrev IsShortEntry : Entry → Type 0
IsShortEntry entry = IsShort entry.kind × IsShort entry.name

runs_said : (kind name : Key) (language : ℕ) (list : List Entry) → AreMergeable list → kind_data kind name language (kinds_of (in_order list)) (names_of (in_order list)) (in_order list) ≡ data_of kind name language list
runs_said kind name language list mergeable =
    let entries : List Entry = in_order list in
    let up : Ascends entry_cmp (in_order list) = order_ascends list mergeable.apart in
    let short : AreShort (in_order list) = recursion_from_All IsShortEntry (in_order list) (order_short list mergeable) in
    kinds_said kind name language (names_of (in_order list)) (in_order list) (heads_each IsShortEntry (names_of (in_order list)) (runs_each IsShortEntry same_name (in_order list) short)) (heads_rise kind_cmp same_name (in_order list) (rises_by_kind (in_order list) up))
    ∙ pairs_said kind name language (in_order list) short (rises_by_name (in_order list) up)
    ∙ order_said kind name language list mergeable.apart

held_in_order : (list : List Entry) → AreMergeable list → AreNumbered list → AreHeld (in_order list)
held_in_order list mergeable numbered = record {
  few = omega (arith, order_few list mergeable);
  short = recursion_from_All IsShortEntry (in_order list) (order_short list mergeable);
  keys = recursion_from_All (λ entry. IsSmallKey entry.kind × IsSmallKey entry.name) (in_order list) (All-permutation (λ entry. IsSmallKey entry.kind × IsSmallKey entry.name) list (in_order list) (order_moves list) numbered.keys);
  languages = recursion_from_All (λ entry. entry.language < 2 ^ 16) (in_order list) (All-permutation (λ entry. entry.language < 2 ^ 16) list (in_order list) (order_moves list) numbered.languages);
}

-- ---- in a memory

in_memory : (memory : List ℕ) (rva size : ℕ) (leaf : Option ℕ) → option_map (λ (place : ℕ × ℕ). bytes_at memory place.0 place.1) (option_and_then (leaf_data (bytes_at memory rva size) rva) leaf) ≡ option_map (λ (place : ℕ × ℕ). bytes_at (bytes_at memory rva size) (place.0 - rva) place.1) (option_and_then (leaf_data (bytes_at memory rva size) rva) leaf)
unfolding leaf_data
in_memory memory rva size None = refl
in_memory memory rva size (Some leaf) =
    by_tests (leb rva (u32_at (bytes_at memory rva size) leaf)) (leb (u32_at (bytes_at memory rva size) leaf + u32_at (bytes_at memory rva size) (leaf + 4)) (rva + length (bytes_at memory rva size))) refl refl
  where
    by_tests : (a b : Bool) → leb rva (u32_at (bytes_at memory rva size) leaf) ≡ a → leb (u32_at (bytes_at memory rva size) leaf + u32_at (bytes_at memory rva size) (leaf + 4)) (rva + length (bytes_at memory rva size)) ≡ b → option_map (λ (place : ℕ × ℕ). bytes_at memory place.0 place.1) (cond (a && b) (Some (u32_at (bytes_at memory rva size) leaf, u32_at (bytes_at memory rva size) (leaf + 4))) None) ≡ option_map (λ (place : ℕ × ℕ). bytes_at (bytes_at memory rva size) (place.0 - rva) place.1) (cond (a && b) (Some (u32_at (bytes_at memory rva size) leaf, u32_at (bytes_at memory rva size) (leaf + 4))) None)
    by_tests false b e f = refl
    by_tests true false e f = refl
    by_tests true true e f =
        let place : ℕ = u32_at (bytes_at memory rva size) leaf in
        let count : ℕ = u32_at (bytes_at memory rva size) (leaf + 4) in
        let above : rva ≤ place = leb-true _ _ e in
        let below : place + count ≤ rva + length (bytes_at memory rva size) = leb-true _ _ f in
        let taken : length (bytes_at memory rva size) ≤ size = taken_most size (drop rva memory) in
        let back : rva + (place - rva) ≡ place = omega arith in
        ap Some (sym (part_of_part memory rva size (place - rva) count (omega arith) ∙ ap (λ (n : ℕ). bytes_at memory n count) back))
      where
        taken_most : (n : ℕ) (xs : List ℕ) → length (take n xs) ≤ n
        taken_most zero xs = omega arith
        taken_most (suc n) [] = omega arith
        taken_most (suc n) (x ∷ xs) = omega (arith, taken_most n xs)

-- what is found in a memory that holds a tree at its RVA
pub resources_found : (memory : List ℕ) (time rva size : ℕ) (list : List Entry) → AreMergeable list → AreNumbered list → rva + tree_size (in_order list) < 2 ^ 32 → bytes_at memory rva size ≡ tree_of time rva (in_order list) → (kind name : Key) (language : ℕ) → IsSmallKey kind → IsSmallKey name → resource_data memory rva size kind name language ≡ data_of kind name language list
unfolding resource_data place_in
resources_found memory time rva size list mergeable numbered fits holds kind name language small also =
    in_memory memory rva size _
    ∙ ap (λ (part : List ℕ). option_map (λ (place : ℕ × ℕ). bytes_at part (place.0 - rva) place.1) (place_in part rva kind name language)) holds
    ∙ tree_found time rva language kind name (in_order list) (held_in_order list mergeable numbered) (tree_small list mergeable) fits small also
    ∙ runs_said kind name language list mergeable
