-- The directory and the names of DLLs, an import at a time.
use Rattle.std.proofs.Common.{◌≡◌, ℕ, ◌+◌, ◌*◌, ◌^◌, ◌<◌, ◌≤◌, Bool, true, false, cond, not, List, [], ◌∷◌, ◌++◌, length, take, drop, slice_index, fold, length-append, refl, sym, ap, ◌∙◌, inl, inr, arith}
use Rattle.std.specs.List.{list_any, flat_map}
use Rattle.std.proofs.lemmas.Bool.{cases_Bool}
use Rattle.std.proofs.lemmas.List.{take_all, append-nil}
use Rattle.std.proofs.lemmas.List.Concat.{flat_map-append}
use Rattle.std.proofs.lemmas.List.Sums.{sum_by-cons, sum_by-append}
use Rattle.import_tables.specs.declared.row.ImportRow.{ImportRow}
use Rattle.import_tables.specs.ImportShape.{same_name, is_of, with_dll, dlls_of, table_start, dll_at, slot_offset, names_size, extent_of, sizes_of}
use Rattle.import_tables.specs.ImportTables.{EndBelow4G, text_bytes, name_start, descriptor, dll_descriptor, directory_end, directory_table, name_table}
use Rattle.import_tables.proofs.DllLemmas.{any_dll}
use Rattle.import_tables.proofs.TallyLemmas.{none_counted}
use Rattle.import_tables.proofs.SlotLemmas.{before_new, next_dlls, all_dlls}
use Rattle.import_tables.proofs.FillLemmas.{entry_in_order}

-- ---- the DLLs so far

pub keys_more : (rows : List ImportRow) (k : ℕ) (name : List ℕ) (old new : List (List ℕ)) → k < length rows → name ≡ dll_at rows k → old ≡ dlls_of (take k rows) → new ≡ cond (list_any (same_name name) old) old (old ++ name ∷ []) → new ≡ dlls_of (take (k + 1) rows)
keys_more rows k name old new lt is so_far now = now ∙ rw (so_far, is) (sym (next_dlls rows k lt))

-- a DLL that is listed already adds nothing
pub dlls_known : (rows : List ImportRow) (k : ℕ) → k < length rows → list_any (same_name (dll_at rows k)) (dlls_of (take k rows)) ≡ true → dlls_of (take (k + 1) rows) ≡ dlls_of (take k rows)
dlls_known rows k lt known =
    next_dlls rows k lt ∙ ap (λ (b : Bool). cond b (dlls_of (take k rows)) (dlls_of (take k rows) ++ dll_at rows k ∷ [])) known

pub dlls_new : (rows : List ImportRow) (k : ℕ) → k < length rows → list_any (same_name (dll_at rows k)) (dlls_of (take k rows)) ≡ false → dlls_of (take (k + 1) rows) ≡ dlls_of (take k rows) ++ dll_at rows k ∷ []
dlls_new rows k lt new =
    next_dlls rows k lt ∙ ap (λ (b : Bool). cond b (dlls_of (take k rows)) (dlls_of (take k rows) ++ dll_at rows k ∷ [])) new

-- whether a DLL is a new one, by the answer of the set
is_new : (b : Bool) → true ≡ not b → b ≡ false
is_new true e = absurd cc
is_new false e = refl

is_known : (b : Bool) → false ≡ not b → b ≡ true
is_known true e = refl
is_known false e = absurd cc

pub new_by_set : (rows : List ImportRow) (k : ℕ) (name : List ℕ) (keys : List (List ℕ)) (added : Bool) → name ≡ dll_at rows k → keys ≡ dlls_of (take k rows) → added ≡ not (list_any (same_name name) keys) → added ≡ true → list_any (same_name (dll_at rows k)) (dlls_of (take k rows)) ≡ false
new_by_set rows k name keys added is so_far says passes =
    is_new _ (sym passes ∙ says ∙ rw (so_far, is) refl)

pub known_by_set : (rows : List ImportRow) (k : ℕ) (name : List ℕ) (keys : List (List ℕ)) (added : Bool) → name ≡ dll_at rows k → keys ≡ dlls_of (take k rows) → added ≡ not (list_any (same_name name) keys) → added ≡ false → list_any (same_name (dll_at rows k)) (dlls_of (take k rows)) ≡ true
known_by_set rows k name keys added is so_far says fails =
    is_known _ (sym fails ∙ says ∙ rw (so_far, is) refl)

-- ---- names

pub length_names : (dlls : List (List ℕ)) → length (name_table dlls) ≡ names_size dlls
unfolding name_table names_size
length_names [] = refl
length_names (dll ∷ dlls) =
    omega (
      arith,
      length-append (text_bytes dll) (flat_map text_bytes dlls),
      length-append dll (0 ∷ []),
      length_names dlls,
      sum_by-cons (λ (name : List ℕ). length name + 1) dll dlls,
    )

names_with : (dlls : List (List ℕ)) (row : ImportRow) → names_size dlls ≤ names_size (with_dll dlls row)
unfolding names_size
names_with dlls row =
    elim (cases_Bool (list_any (same_name row.dll) dlls)) [
      | inl known ↦ rw known (omega arith)
      | inr new ↦ rw new (omega (arith, sum_by-append (λ (name : List ℕ). length name + 1) dlls (row.dll ∷ [])))
    ]

names_fold : (dlls : List (List ℕ)) (rows : List ImportRow) → names_size dlls ≤ names_size (fold with_dll dlls rows)
names_fold dlls [] = omega arith
names_fold dlls (row ∷ rows) = omega (arith, names_with dlls row, names_fold (with_dll dlls row) rows)

names_grow : (rows : List ImportRow) (k : ℕ) → names_size (dlls_of (take k rows)) ≤ names_size (dlls_of rows)
names_grow rows k = omega (arith, ap names_size (all_dlls rows k), names_fold (dlls_of (take k rows)) (drop k rows))

-- ---- RVAs in the tables

pub lookups_below : (rows : List ImportRow) (rvas : List ℕ) (k slot : ℕ) → EndBelow4G rvas (sizes_of rows) → k < length rows → slot ≡ slot_offset rows k → slice_index rvas 1 + slot < 2 ^ 32
unfolding sizes_of extent_of slot_offset
lookups_below rows rvas k slot below lt is = omega (arith, is, below.lookups, entry_in_order rows k lt)

pub slots_below : (rows : List ImportRow) (rvas : List ℕ) (k slot : ℕ) → EndBelow4G rvas (sizes_of rows) → k < length rows → slot ≡ slot_offset rows k → slice_index rvas 2 + slot < 2 ^ 32
unfolding sizes_of extent_of slot_offset
slots_below rows rvas k slot below lt is = omega (arith, is, below.slots, entry_in_order rows k lt)

pub names_below : (rows : List ImportRow) (rvas names : List ℕ) (k : ℕ) → EndBelow4G rvas (sizes_of rows) → names ≡ name_table (dlls_of (take k rows)) → slice_index rvas 4 + length names < 2 ^ 32
unfolding sizes_of extent_of
names_below rows rvas names k below is =
    omega (arith, ap length is, length_names (dlls_of (take k rows)), names_grow rows k, below.names)

-- ---- descriptors

-- the descriptor of a DLL, at its first import
descriptor_new : (rows : List ImportRow) (rvas names : List ℕ) (k slot : ℕ) → k < length rows → list_any (same_name (dll_at rows k)) (dlls_of (take k rows)) ≡ false → slot ≡ slot_offset rows k → names ≡ name_table (dlls_of (take k rows)) → descriptor (slice_index rvas 1 + slot) (slice_index rvas 4 + length names) (slice_index rvas 2 + slot) ≡ dll_descriptor rows rvas (dll_at rows k)
unfolding dll_descriptor slot_offset name_start
descriptor_new rows rvas names k slot lt new is so_far =
    let none : list_any (is_of (dll_at rows k)) (take k rows) ≡ false = sym (any_dll (dll_at rows k) (take k rows)) ∙ new in
    let place : slot ≡ 8 * table_start rows (dll_at rows k) = omega (arith, is, none_counted (dll_at rows k) (take k rows) none) in
    let name : length names ≡ names_size (dlls_of (take k rows)) = ap length so_far ∙ length_names (dlls_of (take k rows)) in
    rw (place, name, before_new rows k lt none) refl

pub directory_new : (rows : List ImportRow) (rvas names old new : List ℕ) (k slot : ℕ) → k < length rows → list_any (same_name (dll_at rows k)) (dlls_of (take k rows)) ≡ false → slot ≡ slot_offset rows k → names ≡ name_table (dlls_of (take k rows)) → old ≡ flat_map (dll_descriptor rows rvas) (dlls_of (take k rows)) → new ≡ old ++ descriptor (slice_index rvas 1 + slot) (slice_index rvas 4 + length names) (slice_index rvas 2 + slot) → new ≡ flat_map (dll_descriptor rows rvas) (dlls_of (take (k + 1) rows))
directory_new rows rvas names old new k slot lt fresh is so_far was now =
    now ∙ rw (was, descriptor_new rows rvas names k slot lt fresh is so_far, dlls_new rows k lt fresh)
    (ap (λ (more : List ℕ). flat_map (dll_descriptor rows rvas) (dlls_of (take k rows)) ++ more) (sym (append-nil (dll_descriptor rows rvas (dll_at rows k))))
    ∙ sym (flat_map-append (dll_descriptor rows rvas) (dlls_of (take k rows)) (dll_at rows k ∷ [])))

pub names_new : (rows : List ImportRow) (name old new : List ℕ) (k : ℕ) → k < length rows → list_any (same_name (dll_at rows k)) (dlls_of (take k rows)) ≡ false → name ≡ dll_at rows k → old ≡ name_table (dlls_of (take k rows)) → new ≡ old ++ text_bytes name → new ≡ name_table (dlls_of (take (k + 1) rows))
unfolding name_table
names_new rows name old new k lt fresh is was now =
    now ∙ rw (was, is, dlls_new rows k lt fresh)
    (ap (λ (more : List ℕ). flat_map text_bytes (dlls_of (take k rows)) ++ more) (sym (append-nil (text_bytes (dll_at rows k))))
    ∙ sym (flat_map-append text_bytes (dlls_of (take k rows)) (dll_at rows k ∷ [])))

pub directory_done : (rows : List ImportRow) (rvas old new : List ℕ) (k count : ℕ) (keys : List (List ℕ)) → length rows ≤ k → keys ≡ dlls_of (take k rows) → count ≡ length keys → old ≡ flat_map (dll_descriptor rows rvas) (dlls_of (take k rows)) → new ≡ old ++ directory_end count → new ≡ directory_table rows rvas
unfolding directory_table
directory_done rows rvas old new k count keys all so_far counts was now =
    let whole : take k rows ≡ rows = take_all k rows all in
    now ∙ rw (was, counts, so_far, whole) refl
