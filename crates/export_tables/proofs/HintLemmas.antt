-- The hints of rows, in a loop over them.
use Rattle.std.proofs.Common.{◌≡◌, ℕ, ◌+◌, ◌<◌, ◌≤◌, Bool, true, false, cond, List, [], ◌∷◌, ◌++◌, length, take, map, Option, Some, None, IsPermutation, refl, sym, ap, ◌∙◌, subst, arith}
use Rattle.std.specs.List.{cons_option}
use Rattle.std.proofs.lemmas.List.{map-append, append-nil}
use Rattle.std.proofs.lemmas.List.Elements.{filter_map-append}
use Rattle.std.proofs.lemmas.List.Sorted.{sum_by-IsPermutation, length_permutation}
use Rattle.directives.specs.declared.item.Export.{Export}
use Rattle.export_tables.specs.Ordinals.{row_at, comes_before}
use Rattle.export_tables.specs.Hints.{listed_name, listed_names, hint_in, hint_of}
use Rattle.export_tables.proofs.ClashLemmas.{take_next}

-- ---- the names that are listed

pub listed_taken : (rows : List Export) (index : ℕ) (names more : List (List ℕ)) (row : Export) → index < length rows → row ≡ row_at rows index → names ≡ listed_names (take index rows) → row.noname ≡ false → more ≡ names ++ row.name ∷ [] → more ≡ listed_names (take (index + 1) rows)
listed_taken rows index names more row lt is before listed added =
    added
    ∙ ap (λ (ns : List (List ℕ)). ns ++ row.name ∷ []) before
    ∙ ap (λ (o : Option (List ℕ)). listed_names (take index rows) ++ cons_option o []) (sym (ap (λ (b : Bool). cond b None (Some row.name)) listed))
    ∙ ap (λ (r : Export). listed_names (take index rows) ++ cons_option (listed_name r) []) is
    ∙ sym (filter_map-append listed_name (take index rows) (row_at rows index ∷ []))
    ∙ ap listed_names (sym (take_next rows index lt))

pub listed_left : (rows : List Export) (index : ℕ) (names more : List (List ℕ)) (row : Export) → index < length rows → row ≡ row_at rows index → names ≡ listed_names (take index rows) → row.noname ≡ true → more ≡ names → more ≡ listed_names (take (index + 1) rows)
listed_left rows index names more row lt is before unlisted added =
    added
    ∙ before
    ∙ sym (append-nil (listed_names (take index rows)))
    ∙ ap (λ (o : Option (List ℕ)). listed_names (take index rows) ++ cons_option o []) (sym (ap (λ (b : Bool). cond b None (Some row.name)) unlisted))
    ∙ ap (λ (r : Export). listed_names (take index rows) ++ cons_option (listed_name r) []) is
    ∙ sym (filter_map-append listed_name (take index rows) (row_at rows index ∷ []))
    ∙ ap listed_names (sym (take_next rows index lt))

-- there are no more of them than rows
pub listed_few : (rows : List Export) → length (listed_names rows) ≤ length rows
listed_few [] = omega arith
listed_few (row ∷ rows) = go row.noname refl (listed_few rows)
  where
    go : (b : Bool) → row.noname ≡ b → length (listed_names rows) ≤ length rows → length (listed_names (row ∷ rows)) ≤ length (row ∷ rows)
    go true e rest = rw e (omega (arith, rest))
    go false e rest = rw e (omega (arith, rest))

-- ---- their places

-- the order of the names changes no hint
pub hint_is : (rows : List Export) (names sorted view : List (List ℕ)) (row there : Export) (hint : ℕ) → names ≡ listed_names rows → IsPermutation names sorted → view ≡ sorted → row ≡ there → hint ≡ hint_in view row → hint ≡ hint_of rows there
unfolding hint_in hint_of
hint_is rows names sorted view row there hint names_are same view_is row_is is =
    is
    ∙ ap (λ (ns : List (List ℕ)). hint_in ns row) view_is
    ∙ ap (hint_in sorted) row_is
    ∙ sum_by-IsPermutation (λ (name : List ℕ). cond (comes_before there.name name) 1 0) (listed_names rows) sorted (subst (λ (ns : List (List ℕ)). IsPermutation ns sorted) names_are same)

-- there are as many sorted names as listed ones, and no more than rows
pub sorted_few : (rows : List Export) (names sorted view : List (List ℕ)) → names ≡ listed_names rows → IsPermutation names sorted → view ≡ sorted → length view ≤ length rows
sorted_few rows names sorted view names_are same view_is =
    let few : length (listed_names rows) ≤ length rows = listed_few rows in
    let as_many : length names ≡ length sorted = sym (length_permutation names sorted same) in
    let view_len : length view ≡ length sorted = ap (λ (ns : List (List ℕ)). length ns) view_is in
    let names_len : length names ≡ length (listed_names rows) = ap (λ (ns : List (List ℕ)). length ns) names_are in
    omega (arith, few, as_many, view_len, names_len)

pub hints_more : (rows : List Export) (index : ℕ) (hints more : List ℕ) (hint : ℕ) → index < length rows → hints ≡ map (hint_of rows) (take index rows) → hint ≡ hint_of rows (row_at rows index) → more ≡ hints ++ hint ∷ [] → more ≡ map (hint_of rows) (take (index + 1) rows)
hints_more rows index hints more hint lt before is added =
    added
    ∙ ap (λ (n : ℕ). hints ++ n ∷ []) is
    ∙ ap (λ (ns : List ℕ). ns ++ hint_of rows (row_at rows index) ∷ []) before
    ∙ sym (map-append (hint_of rows) (take index rows) (row_at rows index ∷ []))
    ∙ ap (map (hint_of rows)) (sym (take_next rows index lt))
