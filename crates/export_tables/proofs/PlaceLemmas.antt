-- The names by their numbers: one row more, and that they are the names of all rows.
use Rattle.std.proofs.Common.{◌≡◌, ◌≢◌, ℕ, zero, suc, ◌+◌, ◌-◌, ◌<◌, ◌≤◌, eqb, List, [], ◌∷◌, ◌++◌, length, take, map, get_or, set, Option, Some, None, refl, sym, ap, ◌∙◌, subst, inl, inr, eq-eqb, arith}
use Rattle.std.specs.List.{sum_by, flat_map, position, range_with_len}
use Rattle.std.specs.List.Sorted.{IsSorted, IsPermutation}
use Rattle.std.specs.Option.{option_to_list, option_and_then}
use Rattle.std.proofs.lemmas.Bool.{cases_eq}
use Rattle.std.proofs.lemmas.Grind.{get_or-set_at}
use Rattle.std.proofs.lemmas.List.{take_all, take_more, length-take, length-set, get_or-set_other}
use Rattle.std.proofs.lemmas.List.Sums.{sum_by-append, sum_by-cons, sum_by-set}
use Rattle.std.proofs.lemmas.List.Sorted.{sum_by-IsPermutation}
use Rattle.std.proofs.lemmas.List.FromFn.{length-map-range_with_len, get_or-map-range_with_len, map-range_with_len_more, fill_by_all}
use Rattle.sorted_lists.proofs.CallerLemmas.{is_order_of_sums}
use Rattle.link_base.proofs.NumberLemmas.{eqb_apart}
use Rattle.export_tables.specs.declared.row.ExportRow.{ExportRow}
use Rattle.export_tables.specs.declared.names.NameEntry.{NameEntry}
use Rattle.export_tables.specs.ExportTable.{least, address_count, entry_at, entries_before, entry_cmp, names_of, place_in, places_in, places_of, AreNumbered}
use Rattle.export_tables.proofs.EntryLemmas.{entry_total, one_entry, entries_more}
use Rattle.export_tables.proofs.TargetLemmas.{Differ, least_below, place_within, place_of_other, place_of_new, no_earlier}

pub length_places : (rows : List ExportRow) (all : List ℕ) (count : ℕ) (ordinals : List ℕ) → length (places_in rows all count ordinals) ≡ count
unfolding places_in
length_places rows all count ordinals = length-map-range_with_len (place_in rows all ordinals) 0 count

pub none_placed : (rows : List ExportRow) (all : List ℕ) (count : ℕ) → places_in rows all (count + 1) [] ≡ places_in rows all count [] ++ None ∷ []
unfolding places_in place_in
none_placed rows all count = map-range_with_len_more (place_in rows all []) 0 count count (omega arith)

-- ---- one row more

module _ (rows : List ExportRow) (ordinals : List ℕ) (differ : Differ ordinals) (i : ℕ) (lt : i < length ordinals) where
  -- a number that is not that of the row
  other_place : (k : ℕ) → least ordinals + k ≢ get_or ordinals i 0 → place_in rows ordinals (take (i + 1) ordinals) k ≡ place_in rows ordinals (take i ordinals) k
  unfolding place_in
  other_place k other =
      ap (option_and_then (entry_at rows ordinals))
      (ap (position (eqb (least ordinals + k))) (take_more ordinals i 0 lt)
      ∙ place_of_other (eqb (least ordinals + k)) (take i ordinals) (get_or ordinals i 0) (eqb_apart (least ordinals + k) (get_or ordinals i 0) other))

  -- that of the row, which no earlier one has
  no_place : (k : ℕ) → least ordinals + k ≡ get_or ordinals i 0 → place_in rows ordinals (take i ordinals) k ≡ None
  unfolding place_in
  no_place k is = ap (option_and_then (entry_at rows ordinals)) (no_earlier rows (least ordinals) ordinals i lt k differ is)

  new_place : (k : ℕ) → least ordinals + k ≡ get_or ordinals i 0 → place_in rows ordinals (take (i + 1) ordinals) k ≡ entry_at rows ordinals i
  unfolding place_in
  new_place k is =
      ap (option_and_then (entry_at rows ordinals))
      (ap (position (eqb (least ordinals + k))) (take_more ordinals i 0 lt)
      ∙ place_of_new (eqb (least ordinals + k)) (take i ordinals) (get_or ordinals i 0) (no_earlier rows (least ordinals) ordinals i lt k differ is) (eq-eqb (least ordinals + k) (get_or ordinals i 0) is)
      ∙ ap Some (omega (arith, length-take i ordinals, lt)))

  place_at : (count : ℕ) (earlier : List ℕ) (k : ℕ) → k < count → get_or (places_in rows ordinals count earlier) k None ≡ place_in rows ordinals earlier k
  unfolding places_in
  place_at count earlier k within = get_or-map-range_with_len (place_in rows ordinals earlier) 0 count k k None within (omega arith)

  pub set_place : set (places_in rows ordinals (address_count ordinals) (take i ordinals)) (get_or ordinals i 0 - least ordinals) (entry_at rows ordinals i) ≡ places_in rows ordinals (address_count ordinals) (take (i + 1) ordinals)
  unfolding places_in
  set_place =
      let count = address_count ordinals in
      let places = places_in rows ordinals count (take i ordinals) in
      let place = get_or ordinals i 0 - least ordinals in
      let long = length_places rows ordinals count (take i ordinals) in
      fill_by_all (place_in rows ordinals (take (i + 1) ordinals)) _ count None
      (length-set places place (entry_at rows ordinals i) ∙ long)
      (λ k within. elim (cases_eq k place) [
        | inl same ↦
            get_or-set_at places place k (entry_at rows ordinals i) None same (omega (arith, place_within ordinals i lt, long))
            ∙ sym (new_place k (omega (arith, same, least_below ordinals i lt)))
        | inr other ↦
            get_or-set_other places place k (entry_at rows ordinals i) None other
            ∙ place_at count (take i ordinals) k within
            ∙ sym (other_place k (λ e. other (omega (arith, e, least_below ordinals i lt))))
      ])

  sum_place : (f : Option NameEntry → ℕ) → f None ≡ 0 → sum_by f (places_in rows ordinals (address_count ordinals) (take (i + 1) ordinals)) ≡ sum_by f (places_in rows ordinals (address_count ordinals) (take i ordinals)) + f (entry_at rows ordinals i)
  sum_place f nothing =
      let count = address_count ordinals in
      let places = places_in rows ordinals count (take i ordinals) in
      let place = get_or ordinals i 0 - least ordinals in
      let high = place_within ordinals i lt in
      let within : place < length places = omega (arith, high, length_places rows ordinals count (take i ordinals)) in
      let changed = sum_by-set f places place (entry_at rows ordinals i) None within in
      let none : f (get_or places place None) ≡ 0 = ap f (place_at count (take i ordinals) place high ∙ no_place place (omega (arith, least_below ordinals i lt))) ∙ nothing in
      let same : sum_by f (set places place (entry_at rows ordinals i)) ≡ sum_by f (places_in rows ordinals count (take (i + 1) ordinals)) = ap (sum_by f) set_place in
      omega (arith, changed, none, same)

-- ---- all rows

abbrev weight : (NameEntry → ℕ) → Option NameEntry → ℕ
weight f place = sum_by f (option_to_list place)

none_sum : (f : NameEntry → ℕ) (rows : List ExportRow) (all : List ℕ) (from count : ℕ) → sum_by (weight f) (map (place_in rows all []) (range_with_len from count)) ≡ 0
unfolding place_in
none_sum f rows all from zero = refl
none_sum f rows all from (suc count) =
    let first : weight f (place_in rows all [] from) ≡ 0 = refl in
    omega (arith, first, sum_by-cons (weight f) (place_in rows all [] from) (map (place_in rows all []) (range_with_len (from + 1) count)), none_sum f rows all (from + 1) count)

abbrev OneSum : (NameEntry → ℕ) → List ExportRow → List ℕ → ℕ → Type 0
OneSum f rows ordinals k =
    sum_by (weight f) (places_in rows ordinals (address_count ordinals) (take k ordinals)) ≡ sum_by f (entries_before rows ordinals k)

sum_more : (f : NameEntry → ℕ) (rows : List ExportRow) (ordinals : List ℕ) (k : ℕ) → AreNumbered rows ordinals → k < length rows → OneSum f rows ordinals k → OneSum f rows ordinals (k + 1)
sum_more f rows ordinals k are lt before =
    let places = sum_place rows ordinals are.differ k (omega (arith, lt, are.same_many)) (weight f) refl in
    let entries = ap (sum_by f) (entries_more rows ordinals k) ∙ sum_by-append f (entries_before rows ordinals k) (option_to_list (entry_at rows ordinals k)) in
    omega (arith, before, places, entries)

one_sum : (f : NameEntry → ℕ) (rows : List ExportRow) (ordinals : List ℕ) (k : ℕ) → AreNumbered rows ordinals → k ≤ length rows → OneSum f rows ordinals k
unfolding entries_before places_in
one_sum f rows ordinals zero are le = none_sum f rows ordinals 0 (address_count ordinals)
one_sum f rows ordinals (suc k) are le =
    let one : k + 1 ≡ suc k = omega arith in
    subst (OneSum f rows ordinals) one (sum_more f rows ordinals k are (omega (arith, le)) (one_sum f rows ordinals k are (omega (arith, le))))

flat_sum : (f : NameEntry → ℕ) (places : List (Option NameEntry)) → sum_by f (flat_map option_to_list places) ≡ sum_by (weight f) places
flat_sum f [] = refl
flat_sum f (place ∷ places) =
    omega (arith, sum_by-append f (option_to_list place) (flat_map option_to_list places), sum_by-cons (weight f) place places, flat_sum f places)

-- what is there, once it is sorted, are the names in their order
pub names_are : (rows : List ExportRow) (ordinals : List ℕ) (names sorted : List NameEntry) → AreNumbered rows ordinals → names ≡ flat_map option_to_list (places_of rows ordinals) → IsPermutation names sorted → IsSorted entry_cmp sorted → sorted ≡ names_of rows ordinals
unfolding names_of
names_are rows ordinals names sorted are is moved up =
    is_order_of_sums entry_cmp entry_total one_entry (entries_before rows ordinals (length rows)) sorted (λ f.
    let all : OneSum f rows ordinals (length rows) = one_sum f rows ordinals (length rows) are (omega arith) in
    let whole : take (length rows) ordinals ≡ ordinals = take_all (length rows) ordinals (omega (arith, are.same_many)) in
    sum_by-IsPermutation f names sorted moved
    ∙ ap (sum_by f) is
    ∙ flat_sum f (places_of rows ordinals)
    ∙ ap (λ (os : List ℕ). sum_by (weight f) (places_in rows ordinals (address_count ordinals) os)) (sym whole)
    ∙ all) up
