-- No two imports share a slot, and each lies in the table of its DLL, before the entry that ends it.
use Rattle.std.proofs.Common.{◌≡◌, ℕ, suc, ◌+◌, ◌*◌, ◌<◌, ◌≤◌, ◌⊎◌, Bool, true, false, cond, ◌||◌, List, [], ◌∷◌, length, take, drop, refl, sym, ap, ◌∙◌, inl, inr, arith}
use Rattle.std.proofs.Math.Bool.{or-true}
use Rattle.std.specs.List.{list_any, before_first, position_or_len}
use Rattle.std.proofs.lemmas.Bool.{cases_Bool, false≢true}
use Rattle.std.proofs.Math.Numerals.{one-add}
use Rattle.std.proofs.lemmas.List.{take-append-drop, take-take}
use Rattle.std.proofs.lemmas.List.Folds.{list_any-append}
use Rattle.std.proofs.lemmas.List.Sums.{sum_by-cons, sum_by-take-le}
use Rattle.link_base.proofs.NameTextLemmas.{same_is, same_refl, same_flip}
use Rattle.import_tables.specs.declared.row.ImportRow.{ImportRow}
use Rattle.import_tables.specs.ImportShape.{same_name, is_of, dlls_of, count_of, entry_count, table_start, entry_behind, dll_at, slot_offset}
use Rattle.import_tables.proofs.DllLemmas.{any_dll}
use Rattle.import_tables.proofs.TallyLemmas.{count_more_row, any_more_row}

-- ---- the tables of DLLs

unfoldable pub start_among : List ImportRow → List (List ℕ) → List ℕ → ℕ
start_among rows dlls name = entry_count rows (before_first (same_name name) dlls)

pub count_front : (rows : List ImportRow) (name : List ℕ) (dlls : List (List ℕ)) → entry_count rows (name ∷ dlls) ≡ count_of name rows + 1 + entry_count rows dlls
unfolding entry_count
count_front rows name dlls = sum_by-cons (λ (dll : List ℕ). count_of dll rows + 1) name dlls

pub start_here : (rows : List ImportRow) (first : List ℕ) (dlls : List (List ℕ)) (name : List ℕ) → same_name name first ≡ true → start_among rows (first ∷ dlls) name ≡ 0
unfolding start_among entry_count
start_here rows first dlls name same = rw same refl

pub start_later : (rows : List ImportRow) (first : List ℕ) (dlls : List (List ℕ)) (name : List ℕ) → same_name name first ≡ false → start_among rows (first ∷ dlls) name ≡ count_of first rows + 1 + start_among rows dlls name
unfolding start_among
start_later rows first dlls name other =
    ap (λ (n : ℕ). entry_count rows (take n (first ∷ dlls))) (first_place other) ∙ count_front rows first (before_first (same_name name) dlls)
  where
    first_place : same_name name first ≡ false → position_or_len (same_name name) (first ∷ dlls) ≡ suc (position_or_len (same_name name) dlls)
    first_place e = rw e (one-add (position_or_len (same_name name) dlls))

pub any_later : (name first : List ℕ) (dlls : List (List ℕ)) → same_name name first ≡ false → list_any (same_name name) (first ∷ dlls) ≡ true → list_any (same_name name) dlls ≡ true
any_later name first dlls other any = ap (λ (b : Bool). b || list_any (same_name name) dlls) (sym other) ∙ any

-- a table ends within all
ends_within : (rows : List ImportRow) (dlls : List (List ℕ)) (name : List ℕ) → list_any (same_name name) dlls ≡ true → start_among rows dlls name + (count_of name rows + 1) ≤ entry_count rows dlls
ends_within rows [] name any = absurd (false≢true any)
ends_within rows (first ∷ dlls) name any =
    elim (cases_Bool (same_name name first)) [
      | inl same ↦ omega (arith, start_here rows first dlls name same, count_front rows first dlls, ap (λ (q : List ℕ). count_of q rows) (same_is name first same))
      | inr other ↦
          omega (arith, start_later rows first dlls name other, count_front rows first dlls, ends_within rows dlls name (any_later name first dlls other any))
    ]

-- of two tables one ends before the other starts
parted : (rows : List ImportRow) (dlls : List (List ℕ)) (one two : List ℕ) → list_any (same_name one) dlls ≡ true → list_any (same_name two) dlls ≡ true → same_name one two ≡ false → (start_among rows dlls one + (count_of one rows + 1) ≤ start_among rows dlls two) ⊎ (start_among rows dlls two + (count_of two rows + 1) ≤ start_among rows dlls one)
parted rows [] one two a b differ = absurd (false≢true a)
parted rows (first ∷ dlls) one two a b differ =
    elim (cases_Bool (same_name one first)) [
      | inl same ↦
          let not_two : same_name two first ≡ false = ap (same_name two) (sym (same_is one first same)) ∙ (sym (same_flip one two) ∙ differ) in
          inl (omega (arith, start_here rows first dlls one same, start_later rows first dlls two not_two, ap (λ (q : List ℕ). count_of q rows) (same_is one first same)))
      | inr not_one ↦ elim (cases_Bool (same_name two first)) [
        | inl same ↦
            inr (omega (arith, start_here rows first dlls two same, start_later rows first dlls one not_one, ap (λ (q : List ℕ). count_of q rows) (same_is two first same)))
        | inr not_two ↦
            let first_one = start_later rows first dlls one not_one in
            let first_two = start_later rows first dlls two not_two in
            elim (parted rows dlls one two (any_later one first dlls not_one a) (any_later two first dlls not_two b) differ) [
              | inl le ↦ inl (omega (arith, first_one, first_two, le))
              | inr le ↦ inr (omega (arith, first_one, first_two, le))
            ]
      ]
    ]

-- ---- the entries of imports

some_more : (name : List ℕ) (rows : List ImportRow) (k : ℕ) → list_any (is_of name) (take k rows) ≡ true → list_any (is_of name) rows ≡ true
some_more name rows k some =
    ap (list_any (is_of name)) (sym (take-append-drop k rows)) ∙ (list_any-append (is_of name) (take k rows) (drop k rows) ∙ ap (λ (b : Bool). b || list_any (is_of name) (drop k rows)) some)

pub listed : (rows : List ImportRow) (k : ℕ) → k < length rows → list_any (same_name (dll_at rows k)) (dlls_of rows) ≡ true
listed rows k lt =
    any_dll (dll_at rows k) rows
    ∙ some_more (dll_at rows k) rows (k + 1) (any_more_row rows k (dll_at rows k) lt ∙ (ap (λ (b : Bool). list_any (is_of (dll_at rows k)) (take k rows) || b) (same_refl (dll_at rows k)) ∙ or-true (list_any (is_of (dll_at rows k)) (take k rows))))

pub count_grows : (name : List ℕ) (rows : List ImportRow) (k : ℕ) → count_of name (take k rows) ≤ count_of name rows
unfolding count_of
count_grows name rows k = sum_by-take-le (λ (row : ImportRow). cond (is_of name row) 1 0) rows k

pub counts_itself : (rows : List ImportRow) (k : ℕ) → k < length rows → count_of (dll_at rows k) (take (k + 1) rows) ≡ count_of (dll_at rows k) (take k rows) + 1
counts_itself rows k lt =
    count_more_row rows k (dll_at rows k) lt ∙ ap (λ (b : Bool). count_of (dll_at rows k) (take k rows) + cond b 1 0) (same_refl (dll_at rows k))

-- before the entry that ends the table
pub entry_inside : (rows : List ImportRow) (k : ℕ) → k < length rows → entry_behind rows (take k rows) (dll_at rows k) < table_start rows (dll_at rows k) + count_of (dll_at rows k) rows
entry_inside rows k lt = omega (arith, counts_itself rows k lt, count_grows (dll_at rows k) rows (k + 1))

pub table_inside : (rows : List ImportRow) (k : ℕ) → k < length rows → table_start rows (dll_at rows k) + (count_of (dll_at rows k) rows + 1) ≤ entry_count rows (dlls_of rows)
unfolding table_start start_among
table_inside rows k lt = ends_within rows (dlls_of rows) (dll_at rows k) (listed rows k lt)

earlier : (rows : List ImportRow) (name : List ℕ) (j k : ℕ) → j < k → count_of name (take (j + 1) rows) ≤ count_of name (take k rows)
earlier rows name j k lt =
    omega (arith, ap (count_of name) (take-take (j + 1) k rows (omega arith)), count_grows name (take k rows) (j + 1))

pub entries_apart : (rows : List ImportRow) (j k : ℕ) → j < k → k < length rows → (entry_behind rows (take j rows) (dll_at rows j) < entry_behind rows (take k rows) (dll_at rows k)) ⊎ (entry_behind rows (take k rows) (dll_at rows k) < entry_behind rows (take j rows) (dll_at rows j))
unfolding table_start start_among
entries_apart rows j k lt inside =
    elim (cases_Bool (same_name (dll_at rows j) (dll_at rows k))) [
      | inl same ↦
          let one : dll_at rows j ≡ dll_at rows k = same_is (dll_at rows j) (dll_at rows k) same in
          inl (omega (
            arith,
            counts_itself rows j (omega arith),
            earlier rows (dll_at rows j) j k lt,
            ap (table_start rows) one,
            ap (λ (name : List ℕ). count_of name (take k rows)) one,
          ))
      | inr differ ↦
          let first = entry_inside rows j (omega arith) in
          let second = entry_inside rows k inside in
          elim (parted rows (dlls_of rows) (dll_at rows j) (dll_at rows k) (listed rows j (omega arith)) (listed rows k inside) differ) [
            | inl le ↦ inl (omega (arith, first, le))
            | inr le ↦ inr (omega (arith, second, le))
          ]
    ]

-- ---- slots

pub slot_within : (rows : List ImportRow) (k : ℕ) → k < length rows → (8 * table_start rows (dll_at rows k) ≤ slot_offset rows k) × (slot_offset rows k + 8 ≤ 8 * (table_start rows (dll_at rows k) + count_of (dll_at rows k) rows))
unfolding slot_offset
slot_within rows k lt = (omega arith, omega (arith, entry_inside rows k lt))

pub table_within : (rows : List ImportRow) (k : ℕ) → k < length rows → 8 * (table_start rows (dll_at rows k) + count_of (dll_at rows k) rows) + 8 ≤ 8 * entry_count rows (dlls_of rows)
table_within rows k lt = omega (arith, table_inside rows k lt)

pub slots_apart : (rows : List ImportRow) (j k : ℕ) → j < k → k < length rows → (slot_offset rows j + 8 ≤ slot_offset rows k) ⊎ (slot_offset rows k + 8 ≤ slot_offset rows j)
unfolding slot_offset
slots_apart rows j k lt inside =
    elim (entries_apart rows j k lt inside) [
      | inl before ↦ inl (omega (arith, before))
      | inr behind ↦ inr (omega (arith, behind))
    ]
