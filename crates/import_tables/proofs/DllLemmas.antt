-- The DLLs of some imports, one import at a time, and how many imports each has.
use Rattle.std.proofs.Common.{◌≡◌, ℕ, ◌+◌, ◌≤◌, Bool, true, false, cond, ◌||◌, List, [], ◌∷◌, ◌++◌, length, length-append, fold, refl, sym, ap, ◌∙◌, inl, inr, arith}
use Rattle.std.proofs.Math.Bool.{or-false, or_assoc}
use Rattle.std.specs.List.{list_any, count_by}
use Rattle.std.proofs.lemmas.Bool.{cases_Bool}
use Rattle.std.proofs.lemmas.List.Folds.{list_any-append}
use Rattle.std.proofs.lemmas.List.Sums.{sum_by-cons, sum_by-append, count_by-le-length}
use Rattle.link_base.proofs.NameTextLemmas.{same_is, same_flip}
use Rattle.import_tables.specs.declared.row.ImportRow.{ImportRow}
use Rattle.import_tables.specs.ImportShape.{same_name, is_of, with_dll, dlls_of, count_of, entry_count}

-- ---- one more import

any_with : (name : List ℕ) (dlls : List (List ℕ)) (row : ImportRow) → list_any (same_name name) (with_dll dlls row) ≡ (list_any (same_name name) dlls || is_of name row)
any_with name dlls row =
    elim (cases_Bool (list_any (same_name row.dll) dlls)) [
      | inl known ↦ rw known (elim (cases_Bool (same_name name row.dll)) [
        | inl same ↦
            let there : list_any (same_name name) dlls ≡ true = ap (λ (q : List ℕ). list_any (same_name q) dlls) (same_is name row.dll same) ∙ known in
            rw (there) refl
        | inr other ↦ rw other (sym (or-false _))
      ])
      | inr new ↦
          rw new (list_any-append (same_name name) dlls (row.dll ∷ []) ∙ ap (λ (b : Bool). list_any (same_name name) dlls || b) (or-false (same_name name row.dll)))
    ]

any_fold : (name : List ℕ) (dlls : List (List ℕ)) (rows : List ImportRow) → list_any (same_name name) (fold with_dll dlls rows) ≡ (list_any (same_name name) dlls || list_any (is_of name) rows)
any_fold name dlls [] = sym (or-false _)
any_fold name dlls (row ∷ rows) =
    any_fold name (with_dll dlls row) rows
    ∙ ap (λ (b : Bool). b || list_any (is_of name) rows) (any_with name dlls row)
    ∙ or_assoc (list_any (same_name name) dlls) (is_of name row) (list_any (is_of name) rows)

-- a DLL is listed exactly where it has an import
pub any_dll : (name : List ℕ) (rows : List ImportRow) → list_any (same_name name) (dlls_of rows) ≡ list_any (is_of name) rows
unfolding dlls_of
any_dll name rows = any_fold name [] rows

length_with : (dlls : List (List ℕ)) (row : ImportRow) → length (with_dll dlls row) ≤ length dlls + 1
length_with dlls row =
    elim (cases_Bool (list_any (same_name row.dll) dlls)) [
      | inl known ↦ rw known (omega arith)
      | inr new ↦ rw (new, length-append dlls (row.dll ∷ [])) (omega arith)
    ]

length_fold : (dlls : List (List ℕ)) (rows : List ImportRow) → length (fold with_dll dlls rows) ≤ length dlls + length rows
length_fold dlls [] = omega arith
length_fold dlls (row ∷ rows) = omega (arith, length_fold (with_dll dlls row) rows, length_with dlls row)

-- ---- the imports of several DLLs

abbrev among : List (List ℕ) → ImportRow → Bool
among dlls row = list_any (same_name row.dll) dlls

one_more : (dlls : List (List ℕ)) (name : List ℕ) (row : ImportRow) → list_any (same_name name) dlls ≡ false → cond (among (dlls ++ name ∷ []) row) 1 0 ≡ cond (among dlls row) 1 0 + cond (is_of name row) 1 0
one_more dlls name row new =
    rw (list_any-append (same_name row.dll) dlls (name ∷ [])) (elim (cases_Bool (same_name name row.dll)) [
      | inl same ↦
          let back : same_name row.dll name ≡ true = sym (same_flip name row.dll) ∙ same in
          let none : list_any (same_name row.dll) dlls ≡ false = ap (λ (q : List ℕ). list_any (same_name q) dlls) (sym (same_is name row.dll same)) ∙ new in
          rw (same, back, none) refl
      | inr other ↦
          let back : same_name row.dll name ≡ false = sym (same_flip name row.dll) ∙ other in
          rw (other, back, or-false (list_any (same_name row.dll) dlls)) (sym (plus_zero _))
    ])
  where
    plus_zero : (n : ℕ) → n + 0 ≡ n
    plus_zero n = omega arith

count_more : (dlls : List (List ℕ)) (name : List ℕ) (rows : List ImportRow) → list_any (same_name name) dlls ≡ false → count_by (among (dlls ++ name ∷ [])) rows ≡ count_by (among dlls) rows + count_by (is_of name) rows
count_more dlls name [] new = refl
count_more dlls name (row ∷ rows) new =
    omega (
      arith,
      sum_by-cons (λ (r : ImportRow). cond (among (dlls ++ name ∷ []) r) 1 0) row rows,
      sum_by-cons (λ (r : ImportRow). cond (among dlls r) 1 0) row rows,
      sum_by-cons (λ (r : ImportRow). cond (is_of name r) 1 0) row rows,
      one_more dlls name row new,
      count_more dlls name rows new,
    )

none_among : (rows : List ImportRow) → count_by (among []) rows ≡ 0
none_among [] = refl
none_among (row ∷ rows) = omega (arith, sum_by-cons (λ (r : ImportRow). cond (among [] r) 1 0) row rows, none_among rows)

-- each import has one entry, and each DLL one more
abbrev IsEven : List ImportRow → List (List ℕ) → Type 0
IsEven rows dlls = entry_count rows dlls ≡ count_by (among dlls) rows + length dlls

even_with : (rows : List ImportRow) (dlls : List (List ℕ)) (row : ImportRow) → IsEven rows dlls → IsEven rows (with_dll dlls row)
unfolding entry_count count_of
even_with rows dlls row even =
    elim (cases_Bool (list_any (same_name row.dll) dlls)) [
      | inl known ↦ rw known even
      | inr new ↦ rw new (omega (
        arith,
        even,
        count_more dlls row.dll rows new,
        length-append dlls (row.dll ∷ []),
        sum_by-append (λ (dll : List ℕ). count_by (is_of dll) rows + 1) dlls (row.dll ∷ []),
        sum_by-cons (λ (dll : List ℕ). count_by (is_of dll) rows + 1) row.dll [],
      ))
    ]

even_fold : (rows : List ImportRow) (dlls : List (List ℕ)) (more : List ImportRow) → IsEven rows dlls → IsEven rows (fold with_dll dlls more)
even_fold rows dlls [] even = even
even_fold rows dlls (row ∷ more) even = even_fold rows (with_dll dlls row) more (even_with rows dlls row even)

even_none : (rows : List ImportRow) → IsEven rows []
unfolding entry_count
even_none rows = omega (arith, none_among rows)

pub entry_bound : (rows more : List ImportRow) → entry_count rows (dlls_of more) ≤ length rows + length more
unfolding dlls_of
entry_bound rows more =
    omega (arith, even_fold rows [] more (even_none rows), count_by-le-length (among (fold with_dll [] more)) rows, length_fold [] more)

pub dll_bound : (rows : List ImportRow) → length (dlls_of rows) ≤ length rows
unfolding dlls_of
dll_bound rows = omega (arith, length_fold [] rows)
