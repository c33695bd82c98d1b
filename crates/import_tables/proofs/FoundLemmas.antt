-- Each import is found with its own slot.
use Rattle.std.proofs.Common.{◌≡◌, ℕ, ◌+◌, ◌*◌, ◌<◌, Bool, true, cond, List, [], ◌∷◌, ◌++◌, length, take, drop, get_or, filter, refl, sym, ap, ◌∙◌, inl, inr, arith, subst}
use Rattle.std.specs.List.{Contains, list_any, flat_map}
use Rattle.std.proofs.lemmas.Bool.{cases_Bool, false≢true}
use Rattle.std.proofs.lemmas.List.{append_assoc, take-append-drop}
use Rattle.std.proofs.lemmas.List.Elements.{Contains-append_left, Contains-append_right, filter-append, filter_more}
use Rattle.std.proofs.lemmas.List.Sums.{length-filter}
use Rattle.link_base.proofs.NameTextLemmas.{same_is, same_refl}
use Rattle.import_tables.specs.declared.row.ImportRow.{ImportRow}
use Rattle.import_tables.specs.declared.found.ImportFound.{ImportFound}
use Rattle.import_tables.specs.ImportDirectory.{import_of}
use Rattle.import_tables.specs.ImportShape.{same_name, is_of, dlls_of, count_of, table_start, no_row, dll_at, by_at, slot_offset}
use Rattle.import_tables.specs.ImportTables.{slots_rva}
use Rattle.import_tables.specs.ReadBack.{found_from, found_of_dll, found_of}
use Rattle.import_tables.proofs.ApartLemmas.{any_later, listed}

-- ---- among the imports of a DLL

found_behind : (dll : List ℕ) (slot : ℕ) (before after : List ImportRow) (row : ImportRow) → Contains (found_from dll slot (before ++ row ∷ after)) (import_of dll row.by (slot + 8 * length before))
found_behind dll slot [] after row =
    let here : slot ≡ slot + 8 * 0 = omega arith in
    subst (λ (n : ℕ). Contains (found_from dll slot (row ∷ after)) (import_of dll row.by n)) here (0, omega arith, refl)
found_behind dll slot (first ∷ before) after row =
    let place : slot + 8 + 8 * length before ≡ slot + 8 * length (first ∷ before) = omega arith in
    let rest = found_from dll (slot + 8) (before ++ row ∷ after) in
    subst (λ (n : ℕ). Contains (import_of dll first.by slot ∷ rest) (import_of dll row.by n)) place
    (Contains-append_right (import_of dll first.by slot ∷ []) rest (import_of dll row.by (slot + 8 + 8 * length before)) (found_behind dll (slot + 8) before after row))

-- the imports of an import's DLL: those before it, itself, and those behind
own_split : (rows : List ImportRow) (k : ℕ) → k < length rows → filter (is_of (dll_at rows k)) rows ≡ filter (is_of (dll_at rows k)) (take k rows) ++ get_or rows k no_row ∷ filter (is_of (dll_at rows k)) (drop (k + 1) rows)
own_split rows k lt =
    let own = is_of (dll_at rows k) in
    let row = get_or rows k no_row in
    ap (filter own) (sym (take-append-drop (k + 1) rows))
    ∙ filter-append own (take (k + 1) rows) (drop (k + 1) rows)
    ∙ ap (λ (xs : List ImportRow). xs ++ filter own (drop (k + 1) rows)) (filter_more own rows k no_row lt)
    ∙ ap (λ (b : Bool). (filter own (take k rows) ++ cond b (row ∷ []) []) ++ filter own (drop (k + 1) rows)) (same_refl (dll_at rows k))
    ∙ append_assoc (filter own (take k rows)) (row ∷ []) (filter own (drop (k + 1) rows))

count_before : (rows : List ImportRow) (k : ℕ) (dll : List ℕ) → length (filter (is_of dll) (take k rows)) ≡ count_of dll (take k rows)
unfolding count_of
count_before rows k dll = length-filter (is_of dll) (take k rows)

found_in_table : (rows : List ImportRow) (rvas : List ℕ) (k : ℕ) → k < length rows → Contains (found_of_dll rows rvas (dll_at rows k)) (import_of (dll_at rows k) (by_at rows k) (slots_rva rvas + slot_offset rows k))
unfolding slot_offset
found_in_table rows rvas k lt =
    let dll = dll_at rows k in
    let start = slots_rva rvas + 8 * table_start rows dll in
    let before = filter (is_of dll) (take k rows) in
    let place : start + 8 * length before ≡ slots_rva rvas + 8 * (table_start rows dll + count_of dll (take k rows)) = omega (arith, count_before rows k dll) in
    let found = found_behind dll start before (filter (is_of dll) (drop (k + 1) rows)) (get_or rows k no_row) in
    let among = subst (λ (own : List ImportRow). Contains (found_from dll start own) (import_of dll (by_at rows k) (start + 8 * length before))) (sym (own_split rows k lt)) found in
    subst (λ (n : ℕ). Contains (found_of_dll rows rvas dll) (import_of dll (by_at rows k) n)) place among

-- ---- among those of all DLLs

found_among : (found : List ℕ → List ImportFound) (import : ImportFound) (name : List ℕ) (dlls : List (List ℕ)) → list_any (same_name name) dlls ≡ true → Contains (found name) import → Contains (flat_map found dlls) import
found_among found import name [] any here = absurd (false≢true any)
found_among found import name (first ∷ dlls) any here =
    elim (cases_Bool (same_name name first)) [
      | inl same ↦
          Contains-append_left (found first) (flat_map found dlls) import (subst (λ (dll : List ℕ). Contains (found dll) import) (same_is name first same) here)
      | inr other ↦
          Contains-append_right (found first) (flat_map found dlls) import (found_among found import name dlls (any_later name first dlls other any) here)
    ]

pub found_with_slot : (rows : List ImportRow) (rvas : List ℕ) (k : ℕ) → k < length rows → Contains (found_of rows rvas) (import_of (dll_at rows k) (by_at rows k) (slots_rva rvas + slot_offset rows k))
unfolding found_of
found_with_slot rows rvas k lt =
    found_among (found_of_dll rows rvas) (import_of (dll_at rows k) (by_at rows k) (slots_rva rvas + slot_offset rows k)) (dll_at rows k) (dlls_of rows) (listed rows k lt) (found_in_table rows rvas k lt)
