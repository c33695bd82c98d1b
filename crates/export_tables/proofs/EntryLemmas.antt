-- The names of exports in their order, and how many bytes rows have of their own.
use Rattle.std.proofs.Common.{◌≡◌, ℕ, zero, suc, ◌+◌, ◌-◌, ◌*◌, ◌<◌, ◌≤◌, Bool, true, false, cond, List, [], ◌∷◌, ◌++◌, length, take, get_or, Option, Some, None, refl, ap, ◌∙◌, subst, arith, rules}
use Rattle.std.specs.List.{sum_by, filter_map, range_with_len}
use Rattle.std.specs.Option.{option_to_list}
use Rattle.std.specs.Ordering.{nat_cmp}
use Rattle.std.specs.Cmp.{IsTotalOrder}
use Rattle.std.specs.Cmp.Rules.{comparing}
use Rattle.std.specs.Cmp.Lexicographic.{slice_cmp}
use Rattle.std.specs.declared.cmp.Ordering.TheVariants.{Equal}
use Rattle.std.proofs.lemmas.List.Elements.{filter_map-append}
use Rattle.std.proofs.lemmas.List.Sums.{sum_by-append, sum_by-cons, sum_by_more}
use Rattle.std.proofs.lemmas.List.Sorted.{sum_by-IsPermutation}
use Rattle.std.proofs.lemmas.List.{take_all}
use Rattle.sorted_lists.specs.Order.{in_order}
use Rattle.sorted_lists.proofs.CallerLemmas.{order_permutes}
use Rattle.link_base.proofs.OrderingLemmas.{one_number, then_both, one_text}
use Rattle.link_base.proofs.RangeLemmas.{range_more}
use Rattle.export_tables.specs.declared.row.ExportRow.{ExportRow}
use Rattle.export_tables.specs.declared.names.NameEntry.{NameEntry}
use Rattle.export_tables.specs.ExportTable.{no_row, row_at, least, address_count, targets_in, entry_of, entry_at, entries_before, entry_cmp, names_of, text_size, name_size, target_size, forwarder_size, row_size, rows_size, AreNumbered}
use Rattle.export_tables.proofs.TargetLemmas.{least_below, place_within, sum_target, no_sum}

-- ---- the order of names

pub entry_total : IsTotalOrder entry_cmp
entry_total = search (comparing, rules) depth 8

pub one_entry : (a b : NameEntry) → entry_cmp a b ≡ Equal → a ≡ b
one_entry a b e =
    let both = then_both (slice_cmp nat_cmp a.name b.name) _ e in
    let name = one_text a.name b.name both.0 in
    let index = one_number a.index b.index both.1 in
    λ i. record { name = name i; index = index i }

-- ---- one row more

pub entries_more : (rows : List ExportRow) (ordinals : List ℕ) (k : ℕ) → entries_before rows ordinals (k + 1) ≡ entries_before rows ordinals k ++ option_to_list (entry_at rows ordinals k)
unfolding entries_before
entries_more rows ordinals k =
    ap (filter_map (entry_at rows ordinals)) (range_more 0 k k (omega arith))
    ∙ filter_map-append (entry_at rows ordinals) (range_with_len 0 k) (k ∷ [])
    ∙ ap (λ (es : List NameEntry). filter_map (entry_at rows ordinals) (range_with_len 0 k) ++ es) (one (entry_at rows ordinals k))
  where
    one : (o : Option NameEntry) → ◌≡◌ {A = List NameEntry} (filter_map (λ (x : Option NameEntry). x) (o ∷ [])) (option_to_list o)
    one None = refl
    one (Some e) = refl

pub rows_more : (rows : List ExportRow) (k : ℕ) → k < length rows → rows_size (take (k + 1) rows) ≡ rows_size (take k rows) + row_size (row_at rows k)
unfolding rows_size
rows_more rows k lt = sum_by_more row_size rows k no_row lt

-- ---- how many bytes

-- a name with its entries in the tables
abbrev pub entry_weight : NameEntry → ℕ
entry_weight entry = 6 + name_size entry

pub weight_parts : (names : List NameEntry) → sum_by entry_weight names ≡ 6 * length names + sum_by name_size names
weight_parts [] = refl
weight_parts (name ∷ names) =
    omega (arith, weight_parts names, sum_by-cons entry_weight name names, sum_by-cons name_size name names)

row_parts : (row : ExportRow) (index : ℕ) → sum_by entry_weight (option_to_list (entry_of row index)) + forwarder_size row.what ≡ row_size row
row_parts row index = go row.noname
  where
    go : (b : Bool) → sum_by entry_weight (option_to_list (cond b None (Some (record { name = row.name; index = index })))) + forwarder_size row.what ≡ cond b 0 (6 + text_size row.name) + forwarder_size row.what
    go true = refl
    go false = omega arith

abbrev Parts : List ExportRow → List ℕ → ℕ → Type 0
Parts rows ordinals k =
    sum_by entry_weight (entries_before rows ordinals k) + sum_by target_size (targets_in rows (least ordinals) (address_count ordinals) (take k ordinals)) ≡ rows_size (take k rows)

parts_more : (rows : List ExportRow) (ordinals : List ℕ) (k : ℕ) → AreNumbered rows ordinals → k < length rows → Parts rows ordinals k → Parts rows ordinals (k + 1)
parts_more rows ordinals k are lt before =
    let within : k < length ordinals = omega (arith, lt, are.same_many) in
    let names = ap (sum_by entry_weight) (entries_more rows ordinals k) ∙ sum_by-append entry_weight (entries_before rows ordinals k) (option_to_list (entry_at rows ordinals k)) in
    let targets = sum_target rows (least ordinals) ordinals k within (address_count ordinals) are.differ (least_below ordinals k within) (place_within ordinals k within) in
    omega (arith, before, names, targets, rows_more rows k lt, row_parts (row_at rows k) (get_or ordinals k 0 - least ordinals))

parts : (rows : List ExportRow) (ordinals : List ℕ) (k : ℕ) → AreNumbered rows ordinals → k ≤ length rows → Parts rows ordinals k
unfolding entries_before rows_size
parts rows ordinals zero are le = let none = no_sum rows (least ordinals) (address_count ordinals) in omega (arith, none)
parts rows ordinals (suc k) are le =
    let one : k + 1 ≡ suc k = omega arith in
    subst (Parts rows ordinals) one (parts_more rows ordinals k are (omega (arith, le)) (parts rows ordinals k are (omega (arith, le))))

-- what all rows have of their own are the names, the entries of these, and the forwarders
pub rows_parts : (rows : List ExportRow) (ordinals : List ℕ) → AreNumbered rows ordinals → 6 * length (names_of rows ordinals) + sum_by name_size (names_of rows ordinals) + sum_by target_size (targets_in rows (least ordinals) (address_count ordinals) ordinals) ≡ rows_size rows
unfolding names_of
rows_parts rows ordinals are =
    let all = parts rows ordinals (length rows) are (omega arith) in
    let moved = sum_by-IsPermutation entry_weight (entries_before rows ordinals (length rows)) (in_order entry_cmp (entries_before rows ordinals (length rows))) (order_permutes entry_cmp (entries_before rows ordinals (length rows))) in
    let split = weight_parts (in_order entry_cmp (entries_before rows ordinals (length rows))) in
    let rows_all = ap rows_size (take_all (length rows) rows (omega arith)) in
    let ordinals_all = ap (λ (os : List ℕ). sum_by target_size (targets_in rows (least ordinals) (address_count ordinals) os)) (take_all (length rows) ordinals (omega (arith, are.same_many))) in
    omega (arith, all, moved, split, rows_all, ordinals_all)
