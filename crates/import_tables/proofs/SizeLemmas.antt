-- The sizes of the tables are those that the shape tells.
use Rattle.std.proofs.Common.{◌≡◌, ℕ, ◌+◌, ◌*◌, ◌%◌, Bool, true, false, cond, eqb, List, [], ◌∷◌, ◌++◌, length, map, All, length-append, refl, sym, ap, ◌∙◌, inl, inr, arith}
use Rattle.std.specs.List.{AllByRecursion, list_any, flat_map, sum_by}
use Rattle.std.proofs.lemmas.Bool.{cases_Bool, eqb-true, eqb-false}
use Rattle.std.proofs.lemmas.List.{get_or_default}
use Rattle.std.proofs.lemmas.List.Concat.{flat_map-append}
use Rattle.std.proofs.lemmas.List.Elements.{recursion_from_All}
use Rattle.std.proofs.lemmas.List.FromFn.{length-map-range_with_len}
use Rattle.std.proofs.lemmas.List.Sums.{sum_by-cons}
use Rattle.link_base.specs.Bytes.{number_bytes}
use Rattle.link_base.proofs.CallerLemmas.{length-number_bytes}
use Rattle.link_base.proofs.NameTextLemmas.{same_is, same_flip}
use Rattle.short_import.specs.declared.import.ImportBy.{ImportBy}
use Rattle.short_import.specs.declared.import.ImportBy.TheVariants.{Ordinal, Named}
use Rattle.import_tables.specs.declared.row.ImportRow.{ImportRow}
use Rattle.import_tables.specs.ImportShape.{same_name, is_of, dlls_of, entry_count, no_row, extent_of, hint_size, hints_size, directory_size, sizes_of}
use Rattle.import_tables.specs.ImportTables.{hint_bytes, dll_entries, entries_in_order, entry_hint, hint_table, number_at_place, entry_numbers, number_table, descriptor, dll_descriptor, directory_end, directory_table, tables_of, hints_rva}
use Rattle.import_tables.proofs.ApartLemmas.{listed}
use Rattle.import_tables.proofs.EntryLemmas.{IsDistinct, dlls_distinct, length_so_far, all_so_far}
use Rattle.import_tables.proofs.DirectoryLemmas.{length_names}

-- ---- the directory

length_descriptor : (lookups name slots : ℕ) → length (descriptor lookups name slots) ≡ 20
unfolding descriptor number_bytes
length_descriptor lookups name slots = refl

pub length_dll_descriptor : (rows : List ImportRow) (rvas dll : List ℕ) → length (dll_descriptor rows rvas dll) ≡ 20
unfolding dll_descriptor
length_dll_descriptor rows rvas dll = length_descriptor _ _ _

pub length_descriptors : (rows : List ImportRow) (rvas : List ℕ) (dlls : List (List ℕ)) → length (flat_map (dll_descriptor rows rvas) dlls) ≡ 20 * length dlls
length_descriptors rows rvas [] = refl
length_descriptors rows rvas (dll ∷ dlls) =
    omega (
      arith,
      length-append (dll_descriptor rows rvas dll) (flat_map (dll_descriptor rows rvas) dlls),
      length_dll_descriptor rows rvas dll,
      length_descriptors rows rvas dlls,
    )

length_directory : (rows : List ImportRow) (rvas : List ℕ) → length (directory_table rows rvas) ≡ directory_size (length (dlls_of rows))
unfolding directory_table
length_directory rows rvas =
    length-append (flat_map (dll_descriptor rows rvas) (dlls_of rows)) (directory_end (length (dlls_of rows)))
    ∙ ap (λ (n : ℕ). n + length (directory_end (length (dlls_of rows)))) (length_descriptors rows rvas (dlls_of rows))
    ∙ all (length (dlls_of rows))
  where
    all : (n : ℕ) → 20 * n + length (directory_end n) ≡ directory_size n
    all n =
        elim (cases_Bool (eqb n 0)) [
          | inl none ↦ let zero : n ≡ 0 = eqb-true n 0 none in rw zero refl
          | inr some ↦ rw some (omega arith)
        ]

-- ---- the lookup tables

pub length_numbers : (numbers : List ℕ) → length (number_table numbers) ≡ 8 * length numbers
unfolding number_table
length_numbers [] = refl
length_numbers (number ∷ numbers) =
    omega (
      arith,
      length-append (number_bytes 8 number) (flat_map (number_bytes 8) numbers),
      length-number_bytes 8 number,
      length_numbers numbers,
    )

pub length_entries : (rows : List ImportRow) → length (entries_in_order rows) ≡ entry_count rows (dlls_of rows)
length_entries rows =
    ap length (sym (all_so_far rows (length rows) (omega arith))) ∙ length_so_far rows (length rows) (dlls_of rows)

length_lookups : (rows : List ImportRow) (rva : ℕ) → length (number_table (entry_numbers (entries_in_order rows) rva)) ≡ 8 * entry_count rows (dlls_of rows)
unfolding entry_numbers
length_lookups rows rva =
    omega (
      arith,
      length_numbers (entry_numbers (entries_in_order rows) rva),
      length-map-range_with_len (number_at_place (entries_in_order rows) rva) 0 (length (entries_in_order rows)),
      length_entries rows,
    )

-- ---- the hints and names

pub length_hint : (how : ImportBy) → length (hint_bytes how) ≡ hint_size how
length_hint (Ordinal number) = refl
length_hint (Named hint name) =
    omega (
      arith,
      length-append (number_bytes 2 hint) (name ++ nuls (length name)),
      length-number_bytes 2 hint,
      length-append name (nuls (length name)),
      filled (length name),
    )
  where
    nuls : ℕ → List ℕ
    nuls n = cond (eqb (n % 2) 0) (0 ∷ 0 ∷ []) (0 ∷ [])

    filled : (n : ℕ) → 2 + n + length (nuls n) ≡ 2 + n + 1 + (2 + n + 1) % 2
    filled n =
        elim (cases_Bool (eqb (n % 2) 0)) [
          | inl even ↦ rw even (omega (arith, eqb-true (n % 2) 0 even))
          | inr odd ↦ rw odd (omega (arith, eqb-false (n % 2) 0 odd))
        ]

-- the sizes of the imports of a DLL
size_in : ImportRow → ℕ
size_in row = hint_size row.by

of_dll : List ℕ → ImportRow → ℕ
of_dll dll row = cond (is_of dll row) (size_in row) 0

of_dlls : List (List ℕ) → ImportRow → ℕ
of_dlls dlls row = cond (list_any (same_name row.dll) dlls) (size_in row) 0

hint_first : (row : ImportRow) (rows : List ImportRow) (dll : List ℕ) → hint_table (dll_entries (row ∷ rows) dll) ≡ cond (is_of dll row) (hint_bytes row.by) [] ++ hint_table (dll_entries rows dll)
unfolding hint_table
hint_first row rows dll =
    elim (cases_Bool (is_of dll row)) [
      | inl is ↦ rw is refl
      | inr other ↦ rw other refl
    ]

length_part : (b : Bool) (row : ImportRow) → length (cond b (hint_bytes row.by) []) ≡ cond b (size_in row) 0
unfolding size_in
length_part true row = length_hint row.by
length_part false row = refl

length_dll : (rows : List ImportRow) (dll : List ℕ) → length (hint_table (dll_entries rows dll)) ≡ sum_by (of_dll dll) rows
unfolding hint_table of_dll
length_dll [] dll = refl
length_dll (row ∷ rows) dll =
    omega (
      arith,
      ap length (hint_first row rows dll),
      length-append (cond (is_of dll row) (hint_bytes row.by) []) (hint_table (dll_entries rows dll)),
      length_part (is_of dll row) row,
      length_dll rows dll,
      sum_by-cons (of_dll dll) row rows,
    )

-- an import counts once, since its DLL is listed once
one_more : (first : List ℕ) (dlls : List (List ℕ)) (row : ImportRow) → list_any (same_name first) dlls ≡ false → of_dlls (first ∷ dlls) row ≡ of_dll first row + of_dlls dlls row
unfolding of_dll of_dlls
one_more first dlls row distinct =
    elim (cases_Bool (same_name first row.dll)) [
      | inl same ↦
          let back : same_name row.dll first ≡ true = same_flip row.dll first ∙ same in
          let none : list_any (same_name row.dll) dlls ≡ false = ap (λ (q : List ℕ). list_any (same_name q) dlls) (sym (same_is first row.dll same)) ∙ distinct in
          rw (same, back, none) (plus_nothing _)
      | inr other ↦
          let back : same_name row.dll first ≡ false = same_flip row.dll first ∙ other in
          rw (other, back) (nothing_plus _)
    ]
  where
    plus_nothing : (n : ℕ) → n ≡ n + 0
    plus_nothing n = omega arith

    nothing_plus : (n : ℕ) → n ≡ 0 + n
    nothing_plus n = omega arith

sum_more : (first : List ℕ) (dlls : List (List ℕ)) (rows : List ImportRow) → list_any (same_name first) dlls ≡ false → sum_by (of_dlls (first ∷ dlls)) rows ≡ sum_by (of_dll first) rows + sum_by (of_dlls dlls) rows
sum_more first dlls [] distinct = refl
sum_more first dlls (row ∷ rows) distinct =
    omega (
      arith,
      sum_by-cons (of_dlls (first ∷ dlls)) row rows,
      sum_by-cons (of_dll first) row rows,
      sum_by-cons (of_dlls dlls) row rows,
      one_more first dlls row distinct,
      sum_more first dlls rows distinct,
    )

sum_none : (rows : List ImportRow) → sum_by (of_dlls []) rows ≡ 0
unfolding of_dlls
sum_none [] = refl
sum_none (row ∷ rows) = omega (arith, sum_by-cons (of_dlls []) row rows, sum_none rows)

length_among : (rows : List ImportRow) (dlls : List (List ℕ)) → IsDistinct dlls → length (hint_table (flat_map (dll_entries rows) dlls)) ≡ sum_by (of_dlls dlls) rows
unfolding hint_table
length_among rows [] distinct = sym (sum_none rows)
length_among rows (first ∷ dlls) distinct =
    omega (
      arith,
      ap length (flat_map-append entry_hint (dll_entries rows first) (flat_map (dll_entries rows) dlls)),
      length-append (flat_map entry_hint (dll_entries rows first)) (flat_map entry_hint (flat_map (dll_entries rows) dlls)),
      length_dll rows first,
      length_among rows dlls distinct.1,
      sum_more first dlls rows distinct.0,
    )

-- each import's DLL is listed
all_listed : (rows : List ImportRow) → All (λ (row : ImportRow). list_any (same_name row.dll) (dlls_of rows) ≡ true) rows
all_listed rows k d lt =
    ap (λ (row : ImportRow). list_any (same_name row.dll) (dlls_of rows)) (get_or_default rows k d no_row lt) ∙ listed rows k lt

sum_all : (dlls : List (List ℕ)) (rows : List ImportRow) → AllByRecursion (λ (row : ImportRow). list_any (same_name row.dll) dlls ≡ true) rows → sum_by (of_dlls dlls) rows ≡ sum_by size_in rows
unfolding of_dlls
sum_all dlls [] all = refl
sum_all dlls (row ∷ rows) all =
    omega (
      arith,
      sum_by-cons (of_dlls dlls) row rows,
      sum_by-cons size_in row rows,
      ap (λ (b : Bool). cond b (size_in row) 0) all.0,
      sum_all dlls rows all.1,
    )

pub length_hints : (rows : List ImportRow) → length (hint_table (entries_in_order rows)) ≡ hints_size rows
unfolding entries_in_order hints_size size_in
length_hints rows =
    length_among rows (dlls_of rows) (dlls_distinct rows)
    ∙ sum_all (dlls_of rows) rows (recursion_from_All (λ (row : ImportRow). list_any (same_name row.dll) (dlls_of rows) ≡ true) rows (all_listed rows))

-- ---- all

five : (a b c d e v w x y z : ℕ) → a ≡ v → b ≡ w → c ≡ x → d ≡ y → e ≡ z → a ∷ b ∷ c ∷ d ∷ e ∷ [] ≡ v ∷ w ∷ x ∷ y ∷ z ∷ []
five a b c d e v w x y z f g h i j = rw (f, g, h, i, j) refl

lengths_of : (rows : List ImportRow) (rvas : List ℕ) → map length (tables_of rows rvas) ≡ sizes_of rows
unfolding tables_of sizes_of extent_of
lengths_of rows rvas =
    let lookups = length_lookups rows (hints_rva rvas) in
    five _ _ _ _ _ _ _ _ _ _ (length_directory rows rvas) lookups lookups (length_hints rows) (length_names (dlls_of rows))

pub sizes_kept : (rows : List ImportRow) (rvas : List ℕ) (tables : List (List ℕ)) (sizes : List ℕ) → tables ≡ tables_of rows rvas → sizes ≡ sizes_of rows → map length tables ≡ sizes
sizes_kept rows rvas tables sizes are is = ap (map length) are ∙ lengths_of rows rvas ∙ sym is
