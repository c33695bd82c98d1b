-- The ordinals of rows, in a loop over them, and the names that come before a name.
use Rattle.std.proofs.Common.{◌≡◌, ℕ, zero, suc, ◌+◌, ◌<◌, ◌≤◌, Bool, true, false, cond, List, [], ◌∷◌, ◌++◌, length, take, map, get_or, count_by, Option, Some, None, is_none, unwrap_or, IsPermutation, IsSorted, refl, sym, ap, ◌∙◌, subst, inl, inr, le-ltb, lt-ltb, arith}
use Rattle.std.specs.List.{AllWithin, cons_option}
use Rattle.std.specs.List.Sorted.{IsPartitionedBy, IsPartitionPoint}
use Rattle.std.specs.Cmp.{IsStrictWeakOrder}
use Rattle.std.specs.Cmp.Lexicographic.{slice_cmp}
use Rattle.std.specs.Ordering.{is_lt, nat_cmp}
use Rattle.std.proofs.lemmas.Bool.{false≢true, cases_Bool}
use Rattle.std.proofs.lemmas.Cmp.{nat_list_cmp_total}
use Rattle.std.proofs.lemmas.List.{map-append, append-nil}
use Rattle.std.proofs.lemmas.List.Sums.{sum_by-cons}
use Rattle.std.proofs.lemmas.List.Elements.{filter_map-append}
use Rattle.std.proofs.lemmas.List.Sorted.{ranks_by, sorted_far, sum_by-IsPermutation}
use Rattle.directives.specs.declared.item.Export.{Export}
use Rattle.link_base.specs.Bytes.{first_below}
use Rattle.link_base.proofs.CallerLemmas.{first_below-more, first_below-found}
use Rattle.export_tables.specs.Ordinals.{row_at, greatest, free_name, free_names, comes_before, ordinal_above, ordinal_of, has_great_ordinal}
use Rattle.export_tables.proofs.ClashLemmas.{take_next}

-- ---- names in order

pub by_bytes : IsStrictWeakOrder (λ (x y : List ℕ). is_lt (slice_cmp nat_cmp x y))
by_bytes = ranks_by nat_list_cmp_total (λ (x : List ℕ). x)

-- those that come before a name stand in front
pub parted : (name : List ℕ) (names : List (List ℕ)) → IsSorted (slice_cmp nat_cmp) names → IsPartitionedBy (comes_before name) names
parted name names sorted i j d le within before =
    elim (cases_Bool (comes_before name (get_or names i d))) [
      | inl comes ↦ comes
      | inr late ↦
          absurd (false≢true (sym (by_bytes.chain (get_or names j d) (get_or names i d) name (sorted_far (λ (x y : List ℕ). is_lt (slice_cmp nat_cmp x y)) by_bytes names sorted i j d le within) late) ∙ before))
    ]

none_pass : {X : Type 0} (p : X → Bool) (xs : List X) → AllWithin (λ x. p x ≡ false) xs 0 (length xs) → count_by p xs ≡ 0
none_pass p [] fail = refl
none_pass p (x ∷ xs) fail =
    let here : p x ≡ false = fail 0 x (omega arith) (omega arith) in
    rw here (none_pass p xs (λ k d low high. fail (suc k) d (omega arith) (omega (arith, high))))

-- as many pass as stand before the first that fails
pub counted : {X : Type 0} (p : X → Bool) (xs : List X) (i : ℕ) → i ≤ length xs → IsPartitionPoint (λ x. p x ≡ true) (λ x. p x ≡ false) xs i → i ≡ count_by p xs
counted p xs zero le point = sym (none_pass p xs point.1)
counted p [] (suc i) le point = absurd (omega (arith, le))
counted {X} p (x ∷ xs) (suc i) le point =
    let here : p x ≡ true = point.0 0 x (omega arith) (omega arith) in
    let more : i ≡ count_by p xs = counted p xs i (omega (arith, le)) (λ k d low high. point.0 (suc k) d (omega arith) (omega (arith, high)), λ k d low high. point.1 (suc k) d (omega (arith, low)) (omega (arith, high))) in
    let one : ◌≡◌ {A = ℕ} (cond (p x) 1 0) 1 = ap (λ (b : Bool). cond b 1 0) here in
    omega (arith, more, one, sum_by-cons (λ (y : X). cond (p y) 1 0) x xs)

-- ---- the names of rows that ask for no ordinal

pub free_taken : (rows : List Export) (index : ℕ) (names more : List (List ℕ)) (row : Export) → index < length rows → row ≡ row_at rows index → names ≡ free_names (take index rows) → is_none row.ordinal ≡ true → more ≡ names ++ row.name ∷ [] → more ≡ free_names (take (index + 1) rows)
free_taken rows index names more row lt is before free added =
    added
    ∙ ap (λ (ns : List (List ℕ)). ns ++ row.name ∷ []) before
    ∙ ap (λ (o : Option (List ℕ)). free_names (take index rows) ++ cons_option o []) (sym (ap (λ (b : Bool). cond b (Some row.name) None) free))
    ∙ ap (λ (r : Export). free_names (take index rows) ++ cons_option (free_name r) []) is
    ∙ sym (filter_map-append free_name (take index rows) (row_at rows index ∷ []))
    ∙ ap free_names (sym (take_next rows index lt))

pub free_left : (rows : List Export) (index : ℕ) (names more : List (List ℕ)) (row : Export) → index < length rows → row ≡ row_at rows index → names ≡ free_names (take index rows) → is_none row.ordinal ≡ false → more ≡ names → more ≡ free_names (take (index + 1) rows)
free_left rows index names more row lt is before free added =
    added
    ∙ before
    ∙ sym (append-nil (free_names (take index rows)))
    ∙ ap (λ (o : Option (List ℕ)). free_names (take index rows) ++ cons_option o []) (sym (ap (λ (b : Bool). cond b (Some row.name) None) free))
    ∙ ap (λ (r : Export). free_names (take index rows) ++ cons_option (free_name r) []) is
    ∙ sym (filter_map-append free_name (take index rows) (row_at rows index ∷ []))
    ∙ ap free_names (sym (take_next rows index lt))

-- ---- the ordinals

-- their order changes no ordinal
pub ordinal_is : (rows : List Export) (names : List (List ℕ)) (row : Export) → IsPermutation (free_names rows) names → ordinal_above (greatest rows) names row ≡ ordinal_of rows row
unfolding ordinal_above ordinal_of
ordinal_is rows names row same =
    ap (λ (n : ℕ). unwrap_or row.ordinal (greatest rows + 1 + n)) (sum_by-IsPermutation (λ (name : List ℕ). cond (comes_before row.name name) 1 0) (free_names rows) names same)

pub given_is : (rows : List Export) (names sorted view : List (List ℕ)) (row there : Export) (most ordinal : ℕ) → most ≡ greatest rows → names ≡ free_names rows → IsPermutation names sorted → view ≡ sorted → row ≡ there → ordinal ≡ ordinal_above most view row → ordinal ≡ ordinal_of rows there
given_is rows names sorted view row there most ordinal most_is names_are same view_is row_is is =
    is
    ∙ ap (λ (n : ℕ). ordinal_above n view row) most_is
    ∙ ap (λ (ns : List (List ℕ)). ordinal_above (greatest rows) ns row) view_is
    ∙ ordinal_is rows sorted row (subst (λ (ns : List (List ℕ)). IsPermutation ns sorted) names_are same)
    ∙ ap (ordinal_of rows) row_is

-- those of the rows before a row, of which each has 16 bits
pub record NumberedSoFar (rows : List Export) (index : ℕ) (ordinals : List ℕ) : Type 0 where
  pub are : ordinals ≡ map (ordinal_of rows) (take index rows)
  pub none : first_below index (has_great_ordinal rows) ≡ None

pub numbered_none : (rows : List Export) → NumberedSoFar rows 0 []
unfolding first_below
numbered_none rows = record { are = refl; none = refl }

pub numbered_more : (rows : List Export) (index : ℕ) (ordinals more : List ℕ) (ordinal : ℕ) → NumberedSoFar rows index ordinals → index < length rows → ordinal ≡ ordinal_of rows (row_at rows index) → ordinal ≤ 65535 → more ≡ ordinals ++ ordinal ∷ [] → NumberedSoFar rows (index + 1) more
unfolding has_great_ordinal
numbered_more rows index ordinals more ordinal before lt is small added = record {
  are =
      added
      ∙ ap (λ (n : ℕ). ordinals ++ n ∷ []) is
      ∙ ap (λ (ns : List ℕ). ns ++ ordinal_of rows (row_at rows index) ∷ []) before.are
      ∙ sym (map-append (ordinal_of rows) (take index rows) (row_at rows index ∷ []))
      ∙ ap (map (ordinal_of rows)) (sym (take_next rows index lt));
  none = first_below-more index (has_great_ordinal rows) before.none (le-ltb 65535 (ordinal_of rows (row_at rows index)) (omega (arith, is, small)));
}

pub great_found : (rows : List Export) (index : ℕ) (ordinals : List ℕ) (ordinal : ℕ) → NumberedSoFar rows index ordinals → index < length rows → ordinal ≡ ordinal_of rows (row_at rows index) → 65535 < ordinal → first_below (length rows) (has_great_ordinal rows) ≡ Some index
unfolding has_great_ordinal
great_found rows index ordinals ordinal before lt is great =
    first_below-found index (length rows) (has_great_ordinal rows) lt before.none (lt-ltb 65535 (ordinal_of rows (row_at rows index)) (omega (arith, is, great)))
