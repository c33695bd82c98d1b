-- The rows of an import library, in a loop over the exports, and what is known of them.
use Rattle.std.proofs.Common.{◌≡◌, ℕ, ◌+◌, ◌<◌, ◌≤◌, Bool, true, false, cond, not, List, [], ◌∷◌, ◌++◌, length, map, take, get_or, None, refl, sym, ap, ◌∙◌, subst, arith}
use Rattle.std.specs.List.{filter}
use Rattle.std.specs.Ordering.{nat_cmp}
use Rattle.std.specs.Cmp.Lexicographic.{slice_cmp}
use Rattle.std.specs.declared.cmp.Ordering.TheVariants.{Less}
use Rattle.std.proofs.lemmas.List.{map-append, append-nil, get_or-map, length-map, take_all}
use Rattle.std.proofs.lemmas.List.Elements.{filter_more, All-filter, All-map}
use Rattle.std.proofs.lemmas.List.Filters.{length-filter_both}
use Rattle.std.proofs.lemmas.List.Kept.{AllPairs-filter}
use Rattle.link_base.specs.Limits.{NAME_LIMIT}
use Rattle.directives.specs.declared.item.Export.{Export}
use Rattle.export_tables.specs.Ordinals.{no_export, row_at, ordinal_fault}
use Rattle.export_tables.specs.NameOrder.{name_order}
use Rattle.export_tables.proofs.NameOrderLemmas.{order_length, order_within, order_ascends}
use Rattle.implib.specs.declared.row.LibraryRow.{LibraryRow}
use Rattle.implib.specs.Rows.{IsText, IsBySymbol, IsBefore, AreRows}
use Rattle.link_exports.specs.Exports.{ExportsView, unplaced_row, CanBeTold, AreTold}
use Rattle.link_library.specs.LinkLibrary.{by_of, row_of, is_listed, library_rows}

-- ---- how many there are

pub rows_few : (exports : ExportsView) → AreTold exports → exports.fault ≡ None → length exports.rows ≤ 65535
rows_few exports told none = let few = (told.numbered none).few in omega (arith, few, length-map exports.rows unplaced_row)

-- ---- the index of each

pub index_within : (exports : ExportsView) (order view : List ℕ) (k index : ℕ) → order ≡ name_order exports.rows → view ≡ order → k < length view → index ≡ get_or view k 0 → index < length exports.rows
index_within exports order view k index order_is view_is lt read =
    let all : view ≡ name_order exports.rows = view_is ∙ order_is in
    let there = order_within exports.rows k 0 (subst (λ (xs : List ℕ). k < length xs) all lt) in
    let same : get_or view k 0 ≡ get_or (name_order exports.rows) k 0 = ap (λ (xs : List ℕ). get_or xs k 0) all in
    omega (arith, read, same, there)

-- all of them
pub all_rows : (exports : ExportsView) (order view : List ℕ) (k : ℕ) (rows : List LibraryRow) → order ≡ name_order exports.rows → view ≡ order → length view ≤ k → rows ≡ map (row_of exports) (filter (is_listed exports.rows) (take k view)) → rows ≡ library_rows exports
unfolding library_rows
all_rows exports order view k rows order_is view_is end is =
    is
    ∙ ap (λ (xs : List ℕ). map (row_of exports) (filter (is_listed exports.rows) xs)) (take_all k view end ∙ view_is ∙ order_is)

-- ---- one more

pub listed_more : (exports : ExportsView) (order : List ℕ) (k index d : ℕ) (before after : List LibraryRow) (row : LibraryRow) → k < length order → index ≡ get_or order k d → is_listed exports.rows index ≡ true → row ≡ row_of exports index → before ≡ map (row_of exports) (filter (is_listed exports.rows) (take k order)) → after ≡ before ++ row ∷ [] → after ≡ map (row_of exports) (filter (is_listed exports.rows) (take (k + 1) order))
listed_more exports order k index d before after row lt at listed is so_far added =
    let p = is_listed exports.rows in
    added
    ∙ ap (λ (rows : List LibraryRow). rows ++ row ∷ []) so_far
    ∙ ap (λ (r : LibraryRow). map (row_of exports) (filter p (take k order)) ++ r ∷ []) is
    ∙ sym (map-append (row_of exports) (filter p (take k order)) (index ∷ []))
    ∙ ap (λ (b : Bool). map (row_of exports) (filter p (take k order) ++ cond b (index ∷ []) [])) (sym listed)
    ∙ ap (λ (i : ℕ). map (row_of exports) (filter p (take k order) ++ cond (p i) (i ∷ []) [])) at
    ∙ ap (map (row_of exports)) (sym (filter_more p order k d lt))

pub passed_more : (exports : ExportsView) (order : List ℕ) (k index d : ℕ) (before after : List LibraryRow) → k < length order → index ≡ get_or order k d → is_listed exports.rows index ≡ false → before ≡ map (row_of exports) (filter (is_listed exports.rows) (take k order)) → after ≡ before → after ≡ map (row_of exports) (filter (is_listed exports.rows) (take (k + 1) order))
passed_more exports order k index d before after lt at passed so_far same =
    let p = is_listed exports.rows in
    same
    ∙ so_far
    ∙ ap (map (row_of exports)) (sym (append-nil (filter p (take k order))))
    ∙ ap (λ (b : Bool). map (row_of exports) (filter p (take k order) ++ cond b (index ∷ []) [])) (sym passed)
    ∙ ap (λ (i : ℕ). map (row_of exports) (filter p (take k order) ++ cond (p i) (i ∷ []) [])) at
    ∙ ap (map (row_of exports)) (sym (filter_more p order k d lt))

-- ---- a library can have them

by_symbol : (row : Export) (ordinal hint : ℕ) → IsBySymbol row.name (by_of row ordinal hint)
by_symbol row ordinal hint = go row.noname refl
  where
    go : (b : Bool) → row.noname ≡ b → IsBySymbol row.name (by_of row ordinal hint)
    go true e = rw e tt
    go false e = rw e refl

is_text : (row : Export) → CanBeTold row → IsText NAME_LIMIT row.name
is_text row told = record { some = told.some; short = told.short_name; plain = told.plain_name }

pub rows_are : (exports : ExportsView) → AreTold exports → exports.fault ≡ None → ordinal_fault exports.rows ≡ None → AreRows (library_rows exports)
unfolding library_rows
rows_are exports told unrefused none = record {
  few = omega (arith, len, kept, order_length exports.rows, rows_few exports told unrefused);
  ascend = λ k d lt. before k d lt;
  symbols = All-map (λ row. IsText NAME_LIMIT row.symbol) (row_of exports) listed (All-filter p (λ index. IsText NAME_LIMIT (row_at exports.rows index).name) order (λ k d lt.
      is_text (row_at exports.rows (get_or order k d)) (told.rows (get_or order k d) no_export (order_within exports.rows k d lt))));
  named = All-map (λ row. IsBySymbol row.symbol row.by) (row_of exports) listed (λ k d lt. by_symbol (row_at exports.rows (get_or listed k d)) _ _);
}
  where
    order : List ℕ
    order = name_order exports.rows

    p : ℕ → Bool
    p = is_listed exports.rows

    listed : List ℕ
    listed = filter p order

    len : length (map (row_of exports) listed) ≡ length listed
    len = length-map listed (row_of exports)

    kept : length listed ≤ length order
    kept = let both = length-filter_both p (λ index. not (p index)) (λ index. refl) order in omega (arith, both)

    before : (k : ℕ) (d : LibraryRow) → k + 1 < length (map (row_of exports) listed) → IsBefore (get_or (map (row_of exports) listed) k d) (get_or (map (row_of exports) listed) (k + 1) d)
    before k d lt =
        let up = AllPairs-filter (λ index other. slice_cmp nat_cmp (row_at exports.rows index).name (row_at exports.rows other).name ≡ Less) p order (order_ascends exports.rows none) in
        let at : get_or (map (row_of exports) listed) k d ≡ row_of exports (get_or listed k 0) = get_or-map (row_of exports) listed k 0 d (omega (arith, lt, len)) in
        let next : get_or (map (row_of exports) listed) (k + 1) d ≡ row_of exports (get_or listed (k + 1) 0) = get_or-map (row_of exports) listed (k + 1) 0 d (omega (arith, lt, len)) in
        ap (λ (row : LibraryRow). slice_cmp nat_cmp row.symbol (get_or (map (row_of exports) listed) (k + 1) d).symbol) at
        ∙ ap (λ (row : LibraryRow). slice_cmp nat_cmp (row_of exports (get_or listed k 0)).symbol row.symbol) next
        ∙ up k (k + 1) 0 (omega arith) (omega (arith, lt, len))
