-- The order of names: it is one, and names that differ ascend in it.
use Rattle.std.proofs.Common.{◌≡◌, ◌≢◌, ℕ, ◌+◌, ◌<◌, false, List, [], ◌∷◌, ◌++◌, length, map, get_or, None, IsPermutation, IsSorted, refl, sym, ap, ◌∙◌, subst, arith}
use Rattle.std.specs.List.{All, range_with_len, AllPairs}
use Rattle.std.specs.Bool.{Decides}
use Rattle.std.specs.Ordering.{is_lt, nat_cmp, ordering_then, ordering_reverse}
use Rattle.std.specs.Cmp.Lexicographic.{slice_cmp}
use Rattle.std.specs.declared.cmp.Ordering.{Ordering}
use Rattle.std.specs.declared.cmp.Ordering.TheVariants.{Less, Equal, Greater}
use Rattle.std.proofs.lemmas.Bool.{false≢true, true≢false}
use Rattle.std.proofs.lemmas.Cmp.{nat_list_cmp_total}
use Rattle.std.proofs.lemmas.List.{map-append, get_or-map, length-map}
use Rattle.std.proofs.lemmas.List.FromFn.{length-range_with_len, get_or-range_with_len, get_or-map-range_with_len}
use Rattle.std.proofs.lemmas.List.Elements.{All-map}
use Rattle.std.proofs.lemmas.List.Sorted.{sorted_far, ranks_by, IsPermutation-map, All-permutation, length_permutation}
use Rattle.std.proofs.lemmas.Map.Keys.{IsDistinct-IsPermutation}
use Rattle.std.proofs.lemmas.Map.Made.{AllPairs-from_IsDistinct, IsDistinct-from_AllPairs}
use Rattle.std.proofs.lemmas.Slice.Eq.{bytes_eq-Decides}
use Rattle.directives.specs.declared.item.Export.{Export}
use Rattle.link_base.specs.NameText.{same_name}
use Rattle.link_base.proofs.NameTextLemmas.{same_flip}
use Rattle.link_base.proofs.OrderingLemmas.{one_text}
use Rattle.link_base.proofs.RangeLemmas.{range_more}
use Rattle.sorted_lists.specs.Order.{in_order}
use Rattle.sorted_lists.proofs.CallerLemmas.{order_permutes, order_sorted, is_in_order}
use Rattle.export_tables.specs.declared.names.NameEntry.{NameEntry}
use Rattle.export_tables.specs.ExportTable.{entry_cmp}
use Rattle.export_tables.specs.Ordinals.{row_at, ordinal_fault}
use Rattle.export_tables.specs.NameOrder.{row_entry, row_entries, name_order}
use Rattle.export_tables.proofs.EntryLemmas.{entry_total, one_entry}
use Rattle.export_tables.proofs.AssignedLemmas.{Faultless, faultless, names_differ}

-- ---- the order of the entries is one

pub entry_more : (rows : List Export) (index : ℕ) (entries more : List NameEntry) (entry : NameEntry) → entries ≡ map (row_entry rows) (range_with_len 0 index) → entry ≡ row_entry rows index → more ≡ entries ++ entry ∷ [] → more ≡ map (row_entry rows) (range_with_len 0 (index + 1))
entry_more rows index entries more entry before is added =
    added
    ∙ ap (λ (e : NameEntry). entries ++ e ∷ []) is
    ∙ ap (λ (es : List NameEntry). es ++ row_entry rows index ∷ []) before
    ∙ sym (map-append (row_entry rows) (range_with_len 0 index) (index ∷ []))
    ∙ ap (map (row_entry rows)) (sym (range_more 0 index index (omega arith)))

abbrev pub entry_with : ℕ → List ℕ → NameEntry
entry_with index name = record { name = name; index = index }

pub named_entry : (rows : List Export) (index : ℕ) (row : Export) (name : List ℕ) → name ≡ row.name → row ≡ row_at rows index → entry_with index name ≡ row_entry rows index
named_entry rows index row name again is = ap (entry_with index) (again ∙ ap (λ (r : Export). r.name) is)

pub order_is : (rows : List Export) (entries sorted view : List NameEntry) (order : List ℕ) → entries ≡ row_entries rows → IsPermutation entries sorted → IsSorted entry_cmp sorted → view ≡ sorted → order ≡ map (λ entry. entry.index) view → order ≡ name_order rows
unfolding name_order
order_is rows entries sorted view order is moved up view_is read =
    read
    ∙ ap (map (λ (entry : NameEntry). entry.index)) (view_is ∙ is_in_order entry_cmp entry_total one_entry (row_entries rows) sorted (subst (λ (es : List NameEntry). IsPermutation es sorted) is moved) up)

-- ---- names that differ ascend

names_decide : (x y : List ℕ) → Decides (same_name x y) (x ≡ y)
names_decide x y = bytes_eq-Decides x y

entries_apart : (rows : List Export) → Faultless rows → AllPairs (λ x y. x ≢ y) (map (λ entry. entry.name) (row_entries rows))
entries_apart rows ok i j d lt within same =
    let n = length rows in
    let entries = row_entries rows in
    let e : NameEntry = row_entry rows 0 in
    let entry_len : length entries ≡ n = length-map (range_with_len 0 n) (row_entry rows) ∙ length-range_with_len 0 n in
    let all_len : length (map (λ (entry : NameEntry). entry.name) entries) ≡ length entries = length-map entries (λ (entry : NameEntry). entry.name) in
    let j_in : j < n = omega (arith, within, all_len, entry_len) in
    let i_in : i < n = omega (arith, lt, j_in) in
    let at_i : get_or (map (λ (entry : NameEntry). entry.name) entries) i d ≡ (row_at rows i).name =
    get_or-map (λ (entry : NameEntry). entry.name) entries i e d (omega (arith, i_in, entry_len)) ∙ ap (λ (entry : NameEntry). entry.name) (get_or-map-range_with_len (row_entry rows) 0 n i i e i_in (omega arith)) in
    let at_j : get_or (map (λ (entry : NameEntry). entry.name) entries) j d ≡ (row_at rows j).name =
    get_or-map (λ (entry : NameEntry). entry.name) entries j e d (omega (arith, j_in, entry_len)) ∙ ap (λ (entry : NameEntry). entry.name) (get_or-map-range_with_len (row_entry rows) 0 n j j e j_in (omega arith)) in
    false≢true (sym (names_differ rows i j ok lt j_in) ∙ (names_decide (row_at rows j).name (row_at rows i).name).1 (sym at_j ∙ sym same ∙ at_i))

-- so they are in every order
sorted_apart : (rows : List Export) → Faultless rows → AllPairs (λ x y. x ≢ y) (map (λ entry. entry.name) (in_order entry_cmp (row_entries rows)))
sorted_apart rows ok =
    let name : NameEntry → List ℕ = λ entry. entry.name in
    let entries = row_entries rows in
    AllPairs-from_IsDistinct names_decide (map name (in_order entry_cmp entries))
    (IsDistinct-IsPermutation same_name same_flip (map name entries) (map name (in_order entry_cmp entries)) (IsPermutation-map name entries (in_order entry_cmp entries) (order_permutes entry_cmp entries))
    (IsDistinct-from_AllPairs names_decide (map name entries) (entries_apart rows ok)))

comes_first : (r s t : Ordering) → r ≡ ordering_reverse s → is_lt (ordering_then r t) ≡ false → (s ≡ Equal → ⊥) → s ≡ Less
comes_first r Less t e not_before apart = refl
comes_first r Equal t e not_before apart = absurd (apart refl)
comes_first r Greater t e not_before apart = absurd (true≢false (sym (ap (λ (o : Ordering). is_lt (ordering_then o t)) e) ∙ not_before))

ascend : (entries : List NameEntry) → IsSorted entry_cmp entries → AllPairs (λ x y. x ≢ y) (map (λ entry. entry.name) entries) → AllPairs (λ x y. slice_cmp nat_cmp x y ≡ Less) (map (λ entry. entry.name) entries)
ascend entries up apart i j d lt within =
    let name : NameEntry → List ℕ = λ entry. entry.name in
    let e : NameEntry = entry_with 0 d in
    let len : length (map name entries) ≡ length entries = length-map entries name in
    let at_i : get_or (map name entries) i d ≡ (get_or entries i e).name = get_or-map name entries i e d (omega (arith, lt, within, len)) in
    let at_j : get_or (map name entries) j d ≡ (get_or entries j e).name = get_or-map name entries j e d (omega (arith, within, len)) in
    let later = sorted_far (λ (x y : NameEntry). is_lt (entry_cmp x y)) (ranks_by entry_total (λ (x : NameEntry). x)) entries up i j e (omega (arith, lt)) (omega (arith, within, len)) in
    let first = get_or entries i e in
    let second = get_or entries j e in
    ap (λ (x : List ℕ). slice_cmp nat_cmp x (get_or (map name entries) j d)) at_i
    ∙ ap (slice_cmp nat_cmp first.name) at_j
    ∙ comes_first (slice_cmp nat_cmp second.name first.name) (slice_cmp nat_cmp first.name second.name) (nat_cmp second.index first.index) (nat_list_cmp_total.antisymm second.name first.name) later
    (λ same. apart i j d lt within (at_i ∙ one_text first.name second.name same ∙ sym at_j))

-- ---- by the indexes

IsOf : List Export → NameEntry → Type 0
IsOf rows entry = (entry.index < length rows) × ((row_at rows entry.index).name ≡ entry.name)

each_of : (rows : List Export) → All (IsOf rows) (in_order entry_cmp (row_entries rows))
unfolding IsOf
each_of rows =
    let n = length rows in
    All-permutation (IsOf rows) (row_entries rows) (in_order entry_cmp (row_entries rows)) (order_permutes entry_cmp (row_entries rows))
    (All-map (IsOf rows) (row_entry rows) (range_with_len 0 n) (λ k d lt.
    let here : k < n = omega (arith, lt, length-range_with_len 0 n) in
    (omega (arith, here, get_or-range_with_len 0 n k d here), refl)))

pub order_length : (rows : List Export) → length (name_order rows) ≡ length rows
unfolding name_order
order_length rows =
    length-map (in_order entry_cmp (row_entries rows)) (λ (entry : NameEntry). entry.index)
    ∙ length_permutation (row_entries rows) (in_order entry_cmp (row_entries rows)) (order_permutes entry_cmp (row_entries rows))
    ∙ length-map (range_with_len 0 (length rows)) (row_entry rows)
    ∙ length-range_with_len 0 (length rows)

-- each index is that of a row
pub order_within : (rows : List Export) → All (λ index. index < length rows) (name_order rows)
unfolding name_order IsOf
order_within rows =
    All-map (λ index. index < length rows) (λ (entry : NameEntry). entry.index) (in_order entry_cmp (row_entries rows)) (λ k d lt. (each_of rows k d lt).0)

-- where nothing is wrong with their ordinals, each name comes before those behind it
pub order_ascends : (rows : List Export) → ordinal_fault rows ≡ None → AllPairs (λ index other. slice_cmp nat_cmp (row_at rows index).name (row_at rows other).name ≡ Less) (name_order rows)
unfolding name_order IsOf
order_ascends rows none i j d lt within =
    let sorted = in_order entry_cmp (row_entries rows) in
    let name : NameEntry → List ℕ = λ entry. entry.name in
    let index : NameEntry → ℕ = λ entry. entry.index in
    let e : NameEntry = row_entry rows 0 in
    let len : length (map index sorted) ≡ length sorted = length-map sorted index in
    let names_len : length (map name sorted) ≡ length sorted = length-map sorted name in
    let j_in : j < length sorted = omega (arith, within, len) in
    let i_in : i < length sorted = omega (arith, lt, j_in) in
    let up : AllPairs (λ x y. slice_cmp nat_cmp x y ≡ Less) (map name sorted) =
    ascend sorted (order_sorted entry_cmp entry_total (row_entries rows)) (sorted_apart rows (faultless rows none)) in
    let at_i : (row_at rows (get_or (map index sorted) i d)).name ≡ get_or (map name sorted) i [] =
    ap (λ (k : ℕ). (row_at rows k).name) (get_or-map index sorted i e d i_in) ∙ (each_of rows i e i_in).1 ∙ sym (get_or-map name sorted i e [] i_in) in
    let at_j : (row_at rows (get_or (map index sorted) j d)).name ≡ get_or (map name sorted) j [] =
    ap (λ (k : ℕ). (row_at rows k).name) (get_or-map index sorted j e d j_in) ∙ (each_of rows j e j_in).1 ∙ sym (get_or-map name sorted j e [] j_in) in
    ap (λ (x : List ℕ). slice_cmp nat_cmp x (row_at rows (get_or (map index sorted) j d)).name) at_i
    ∙ ap (slice_cmp nat_cmp (get_or (map name sorted) i [])) at_j
    ∙ up i j [] lt (omega (arith, j_in, names_len))
