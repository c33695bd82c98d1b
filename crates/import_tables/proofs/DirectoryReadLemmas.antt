-- The directory of some imports, read back from a mapped image that holds their tables.
use Rattle.std.proofs.Common.{◌≡◌, ℕ, suc, ◌+◌, ◌*◌, ◌^◌, ◌<◌, ◌≤◌, Bool, true, false, ◌&&◌, ◌||◌, eqb, List, [], ◌∷◌, ◌++◌, length, take, map, filter, slice_index, replicate, fold, All, Option, Some, None, length-append, refl, sym, ap, ◌∙◌, inl, inr, arith, subst}
use Rattle.std.specs.List.{AllByRecursion, list_any, flat_map, before_first, position_or_len}
use Rattle.std.proofs.lemmas.Bool.{cases_Bool, false≢true, ne_eqb}
use Rattle.std.proofs.lemmas.List.{append_assoc, append-nil}
use Rattle.std.proofs.lemmas.List.Concat.{flat_map-append}
use Rattle.std.proofs.lemmas.List.Elements.{recursion_from_All}
use Rattle.std.proofs.lemmas.List.Sums.{sum_by-append}
use Rattle.std.proofs.Math.Numerals.{one-add}
use Rattle.link_base.specs.Bytes.{number_at, number_bytes, u32_at, u64_at, text_at}
use Rattle.link_base.proofs.NameTextLemmas.{same_refl, same_flip}
use Rattle.link_base.proofs.HeldLemmas.{held_part, held_fits, held_number, held_text}
use Rattle.short_import.specs.declared.import.ImportBy.{ImportBy}
use Rattle.import_tables.specs.declared.row.ImportRow.{ImportRow}
use Rattle.import_tables.specs.ImportDirectory.{Walk, Imports, then_walk, entries_of, is_last, descriptor_imports, imports_of}
use Rattle.import_tables.specs.ImportShape.{same_name, is_of, with_dll, dlls_of, count_of, entry_count, table_start, names_size, extent_of, sizes_of}
use Rattle.import_tables.specs.ImportTables.{EndBelow4G, lookups_rva, slots_rva, hints_rva, names_rva, text_bytes, dll_entries, entries_in_order, name_start, descriptor, dll_descriptor, directory_end, directory_table, name_table}
use Rattle.import_tables.specs.ReadBack.{Holds, HoldsTables, StandAboveZero, HasNoNul, IsReadable, AreReadable, found_from, found_of_dll, found_of}
use Rattle.import_tables.proofs.ApartLemmas.{listed}
use Rattle.import_tables.proofs.WalkLemmas.{rest_entries, entries_start, rest_descriptors, descriptors_start, descriptors_last, descriptors_step}
use Rattle.import_tables.proofs.EntryLemmas.{IsDistinct, dlls_distinct, entries_so_far, length_so_far, all_among}
use Rattle.import_tables.proofs.SizeLemmas.{length_dll_descriptor, length_descriptors, length_hints}
use Rattle.import_tables.proofs.DirectoryLemmas.{length_names}
use Rattle.import_tables.proofs.ReadBackLemmas.{EntriesStand, walk_dll}

-- ---- a descriptor

nothing : (n : ℕ) → n + 0 ≡ n
nothing n = omega arith

held_at : (memory : List ℕ) (at offset width number : ℕ) (before after : List ℕ) → Holds memory at (before ++ (number_bytes width number ++ after)) → length before ≡ offset → number < 256 ^ width → number_at width memory (at + offset) ≡ number
held_at memory at offset width number before after held size fits =
    held_number memory (at + offset) width number (subst (λ (n : ℕ). Holds memory (at + n) (number_bytes width number)) size (held_part memory at before (number_bytes width number) after held)) fits

-- the fields of a descriptor that the walk reads
read_lookups : (memory : List ℕ) (at lookups name slots : ℕ) → Holds memory at (descriptor lookups name slots) → lookups < 2 ^ 32 → u32_at memory at ≡ lookups
unfolding descriptor
read_lookups memory at lookups name slots held small =
    let rest = number_bytes 4 0 ++ (number_bytes 4 0 ++ (number_bytes 4 name ++ (number_bytes 4 slots ++ []))) in
    ap (number_at 4 memory) (sym (nothing at)) ∙ held_at memory at 0 4 lookups [] rest held refl (omega (arith, small))

read_name : (memory : List ℕ) (at lookups name slots : ℕ) → Holds memory at (descriptor lookups name slots) → name < 2 ^ 32 → u32_at memory (at + 12) ≡ name
unfolding descriptor number_bytes
read_name memory at lookups name slots held small =
    held_at memory at 12 4 name (number_bytes 4 lookups ++ (number_bytes 4 0 ++ number_bytes 4 0)) (number_bytes 4 slots) held refl (omega (arith, small))

read_slots : (memory : List ℕ) (at lookups name slots : ℕ) → Holds memory at (descriptor lookups name slots) → slots < 2 ^ 32 → u32_at memory (at + 16) ≡ slots
unfolding descriptor number_bytes
read_slots memory at lookups name slots held small =
    held_at memory at 16 4 slots (number_bytes 4 lookups ++ (number_bytes 4 0 ++ (number_bytes 4 0 ++ number_bytes 4 name))) [] held refl (omega (arith, small))

-- one with slots is not the last
not_last : (memory : List ℕ) (at slots : ℕ) → u32_at memory (at + 16) ≡ slots → 0 < slots → is_last memory at ≡ false
unfolding is_last
not_last memory at slots is some =
    let no : eqb (u32_at memory (at + 16)) 0 ≡ false = ne_eqb _ _ (λ zero. omega (arith, is, some, zero)) in
    rw no (both (eqb (u64_at memory at) 0) (eqb (u64_at memory (at + 8)) 0))
  where
    both : (a b : Bool) → (a && (b && false)) ≡ false
    both true true = refl
    both true false = refl
    both false b = refl

-- and zeros are
zeros_last : (memory : List ℕ) (at : ℕ) → Holds memory at (replicate 20 0) → is_last memory at ≡ true
unfolding is_last number_bytes
zeros_last memory at held =
    let first : u64_at memory at ≡ 0 = ap (number_at 8 memory) (sym (nothing at)) ∙ held_at memory at 0 8 0 [] (replicate 12 0) held refl (omega arith) in
    let second : u64_at memory (at + 8) ≡ 0 = held_at memory at 8 8 0 (replicate 8 0) (replicate 4 0) held refl (omega arith) in
    let third : u32_at memory (at + 16) ≡ 0 = held_at memory at 16 4 0 (replicate 16 0) [] held refl (omega arith) in
    rw (first, second, third) refl

-- ---- the DLLs before a DLL

not_first : (name first : List ℕ) (dlls : List (List ℕ)) → list_any (same_name name) (first ∷ dlls) ≡ false → same_name name first ≡ false
not_first name first dlls none =
    elim (cases_Bool (same_name name first)) [
      | inl same ↦ absurd (false≢true (sym none ∙ ap (λ (b : Bool). b || list_any (same_name name) dlls) same))
      | inr other ↦ other
    ]

not_within : (name dll : List ℕ) (done dlls : List (List ℕ)) → list_any (same_name name) (done ++ dll ∷ dlls) ≡ false → same_name name dll ≡ false
not_within name dll [] dlls none = not_first name dll dlls none
not_within name dll (first ∷ done) dlls none =
    not_within name dll done dlls (ap (λ (b : Bool). b || list_any (same_name name) (done ++ dll ∷ dlls)) (sym (not_first name first (done ++ dll ∷ dlls) none)) ∙ none)

before_done : (dll : List ℕ) (done dlls : List (List ℕ)) → IsDistinct (done ++ dll ∷ dlls) → before_first (same_name dll) (done ++ dll ∷ dlls) ≡ done
before_done dll [] dlls distinct = rw (same_refl dll) refl
before_done dll (first ∷ done) dlls distinct =
    let other : same_name dll first ≡ false = sym (same_flip first dll) ∙ not_within first dll done dlls distinct.0 in
    let place : position_or_len (same_name dll) (first ∷ (done ++ dll ∷ dlls)) ≡ suc (position_or_len (same_name dll) (done ++ dll ∷ dlls)) = rw other (one-add (position_or_len (same_name dll) (done ++ dll ∷ dlls))) in
    ap (λ (n : ℕ). take n (first ∷ (done ++ dll ∷ dlls))) place
    ∙ ap (λ (xs : List (List ℕ)). first ∷ xs) (before_done dll done dlls distinct.1)

-- ---- readable imports

texts_push : (dlls : List (List ℕ)) (dll : List ℕ) → AllByRecursion HasNoNul dlls → HasNoNul dll → AllByRecursion HasNoNul (dlls ++ dll ∷ [])
texts_push [] dll all one = (one, tt)
texts_push (first ∷ dlls) dll all one = (all.0, texts_push dlls dll all.1 one)

texts_fold : (dlls : List (List ℕ)) (rows : List ImportRow) → AllByRecursion HasNoNul dlls → AllByRecursion (λ (row : ImportRow). HasNoNul row.dll) rows → AllByRecursion HasNoNul (fold with_dll dlls rows)
texts_fold dlls [] all more = all
texts_fold dlls (row ∷ rows) all more = texts_fold (with_dll dlls row) rows with_one more.1
  where
    with_one : AllByRecursion HasNoNul (with_dll dlls row)
    with_one =
        elim (cases_Bool (list_any (same_name row.dll) dlls)) [
          | inl known ↦ rw known all
          | inr new ↦ rw new (texts_push dlls row.dll all more.0)
        ]

dlls_texts : (rows : List ImportRow) → All (λ (row : ImportRow). HasNoNul row.dll) rows → AllByRecursion HasNoNul (dlls_of rows)
unfolding dlls_of
dlls_texts rows all = texts_fold [] rows tt (recursion_from_All (λ (row : ImportRow). HasNoNul row.dll) rows all)

filtered : (p : ImportRow → Bool) (rows : List ImportRow) → AllByRecursion (λ (row : ImportRow). IsReadable row.by) rows → AllByRecursion (λ (row : ImportRow). IsReadable row.by) (filter p rows)
filtered p [] all = tt
filtered p (row ∷ rows) all =
    elim (cases_Bool (p row)) [
      | inl passes ↦ rw passes (all.0, filtered p rows all.1)
      | inr fails ↦ rw fails (filtered p rows all.1)
    ]

-- ---- an image with the tables

pub record IsImage (memory : List ℕ) (rows : List ImportRow) (rvas : List ℕ) : Type 0 where
  pub held : HoldsTables memory rows rvas
  pub above : StandAboveZero rows rvas
  pub below : EndBelow4G rvas (sizes_of rows)
  pub readable : AreReadable rows

start_is : (rows : List ImportRow) (dll : List ℕ) (done dlls : List (List ℕ)) → dlls_of rows ≡ done ++ dll ∷ dlls → table_start rows dll ≡ entry_count rows done
unfolding table_start
start_is rows dll done dlls e =
    ap (λ (all : List (List ℕ)). entry_count rows (before_first (same_name dll) all)) e
    ∙ ap (entry_count rows) (before_done dll done dlls (subst IsDistinct e (dlls_distinct rows)))

name_is : (rows : List ImportRow) (dll : List ℕ) (done dlls : List (List ℕ)) → dlls_of rows ≡ done ++ dll ∷ dlls → name_start rows dll ≡ names_size done
unfolding name_start
name_is rows dll done dlls e =
    ap (λ (all : List (List ℕ)). names_size (before_first (same_name dll) all)) e
    ∙ ap names_size (before_done dll done dlls (subst IsDistinct e (dlls_distinct rows)))

entries_within : (rows : List ImportRow) (done dlls : List (List ℕ)) → dlls_of rows ≡ done ++ dlls → entry_count rows done ≤ entry_count rows (dlls_of rows)
unfolding entry_count
entries_within rows done dlls e =
    omega (arith, ap (entry_count rows) e, sum_by-append (λ (dll : List ℕ). count_of dll rows + 1) done dlls)

names_within : (rows : List ImportRow) (done dlls : List (List ℕ)) → dlls_of rows ≡ done ++ dlls → names_size done ≤ names_size (dlls_of rows)
unfolding names_size
names_within rows done dlls e =
    omega (arith, ap names_size e, sum_by-append (λ (dll : List ℕ). length dll + 1) done dlls)

-- ---- the imports of a descriptor

length_done : (rows : List ImportRow) (dlls : List (List ℕ)) → length (flat_map (dll_entries rows) dlls) ≡ entry_count rows dlls
unfolding entries_so_far
length_done rows dlls =
    ap length (sym (all_among rows (length rows) dlls (omega arith))) ∙ length_so_far rows (length rows) dlls

entries_split : (rows : List ImportRow) (dll : List ℕ) (done dlls : List (List ℕ)) → dlls_of rows ≡ done ++ dll ∷ dlls → entries_in_order rows ≡ flat_map (dll_entries rows) done ++ (map (λ (row : ImportRow). Some row.by) (filter (is_of dll) rows) ++ None ∷ flat_map (dll_entries rows) dlls)
unfolding entries_in_order
entries_split rows dll done dlls e =
    ap (flat_map (dll_entries rows)) e
    ∙ flat_map-append (dll_entries rows) done (dll ∷ dlls)
    ∙ ap (λ (more : List (Option ImportBy)). flat_map (dll_entries rows) done ++ more) (append_assoc (map (λ (row : ImportRow). Some row.by) (filter (is_of dll) rows)) (None ∷ []) (flat_map (dll_entries rows) dlls))

entries_stand : (memory : List ℕ) (rows : List ImportRow) (rvas : List ℕ) → IsImage memory rows rvas → EntriesStand memory (entries_in_order rows) (lookups_rva rvas) (slots_rva rvas) (hints_rva rvas)
unfolding sizes_of extent_of
entries_stand memory rows rvas image =
    let size = length_hints rows in (
      image.held.lookups,
      image.held.slots,
      image.held.hints,
      λ some. image.above.hints (omega (arith, some, size)),
      omega (arith, size, image.below.hints),
    )

read_dll : (memory dll : List ℕ) (rows : List ImportRow) (rvas : List ℕ) (done dlls : List (List ℕ)) → IsImage memory rows rvas → dlls_of rows ≡ done ++ dll ∷ dlls → entries_of memory dll (lookups_rva rvas + 8 * table_start rows dll) (slots_rva rvas + 8 * table_start rows dll) ≡ Imports (found_of_dll rows rvas dll)
read_dll memory dll rows rvas done dlls image e =
    let before = flat_map (dll_entries rows) done in
    let own = filter (is_of dll) rows in
    let stand = subst (λ (entries : List (Option ImportBy)). EntriesStand memory entries (lookups_rva rvas) (slots_rva rvas) (hints_rva rvas)) (entries_split rows dll done dlls e) (entries_stand memory rows rvas image) in
    let readable = filtered (is_of dll) rows (recursion_from_All (λ (row : ImportRow). IsReadable row.by) rows image.readable.imports) in
    let walk = walk_dll memory dll (lookups_rva rvas) (slots_rva rvas) (hints_rva rvas) own before (flat_map (dll_entries rows) dlls) stand readable in
    let place : length before ≡ table_start rows dll = length_done rows done ∙ sym (start_is rows dll done dlls e) in
    sym (entries_start memory dll (lookups_rva rvas + 8 * table_start rows dll) (slots_rva rvas + 8 * table_start rows dll))
    ∙ subst (λ (n : ℕ). rest_entries memory dll (lookups_rva rvas + 8 * n) (slots_rva rvas + 8 * n) ≡ Imports (found_from dll (slots_rva rvas + 8 * n) own)) place walk

read_text : (memory dll : List ℕ) (rows : List ImportRow) (rvas : List ℕ) (done dlls : List (List ℕ)) → IsImage memory rows rvas → dlls_of rows ≡ done ++ dll ∷ dlls → HasNoNul dll → text_at memory (names_rva rvas + name_start rows dll) ≡ Some dll
unfolding name_table
read_text memory dll rows rvas done dlls image e none =
    let names = subst (Holds memory (names_rva rvas)) (ap (flat_map text_bytes) e ∙ flat_map-append text_bytes done (dll ∷ dlls)) image.held.names in
    let part : Holds memory (names_rva rvas + length (flat_map text_bytes done)) (text_bytes dll) = held_part memory (names_rva rvas) (flat_map text_bytes done) (text_bytes dll) (flat_map text_bytes dlls) names in
    let place : length (flat_map text_bytes done) ≡ name_start rows dll = length_names done ∙ sym (name_is rows dll done dlls e) in
    held_text memory (names_rva rvas + name_start rows dll) dll (subst (λ (n : ℕ). Holds memory (names_rva rvas + n) (text_bytes dll)) place part) none

of_fields : (memory dll : List ℕ) (at lookups name slots : ℕ) → u32_at memory (at + 12) ≡ name → text_at memory name ≡ Some dll → u32_at memory at ≡ lookups → u32_at memory (at + 16) ≡ slots → descriptor_imports memory at ≡ entries_of memory dll lookups slots
unfolding descriptor_imports
of_fields memory dll at lookups name slots named text first second = rw (named, text, first, second) refl

held_descriptor : (memory dll : List ℕ) (rows : List ImportRow) (rvas : List ℕ) (done dlls : List (List ℕ)) → IsImage memory rows rvas → dlls_of rows ≡ done ++ dll ∷ dlls → Holds memory (slice_index rvas 0 + 20 * length done) (dll_descriptor rows rvas dll)
unfolding directory_table
held_descriptor memory dll rows rvas done dlls image e =
    let each = dll_descriptor rows rvas in
    let end = directory_end (length (dlls_of rows)) in
    let split : flat_map each (dlls_of rows) ++ end ≡ flat_map each done ++ (each dll ++ (flat_map each dlls ++ end)) =
    ap (λ (all : List (List ℕ)). flat_map each all ++ end) e
    ∙ ap (λ (xs : List ℕ). xs ++ end) (flat_map-append each done (dll ∷ dlls))
    ∙ append_assoc (flat_map each done) (each dll ++ flat_map each dlls) end
    ∙ ap (λ (xs : List ℕ). flat_map each done ++ xs) (append_assoc (each dll) (flat_map each dlls) end) in
    subst (λ (n : ℕ). Holds memory (slice_index rvas 0 + n) (each dll)) (length_descriptors rows rvas done)
    (held_part memory (slice_index rvas 0) (flat_map each done) (each dll) (flat_map each dlls ++ end) (subst (Holds memory (slice_index rvas 0)) split image.held.directory))

-- ---- the walk over the directory

pub descriptor_read : (memory dll : List ℕ) (rows : List ImportRow) (rvas : List ℕ) (done dlls : List (List ℕ)) → IsImage memory rows rvas → dlls_of rows ≡ done ++ dll ∷ dlls → HasNoNul dll → let at = slice_index rvas 0 + 20 * length done in (is_last memory at ≡ false) × (descriptor_imports memory at ≡ Imports (found_of_dll rows rvas dll))
unfolding dll_descriptor sizes_of extent_of
descriptor_read memory dll rows rvas done dlls image e none =
    let at = slice_index rvas 0 + 20 * length done in
    let start = 8 * table_start rows dll in
    let lookups = lookups_rva rvas + start in
    let name = names_rva rvas + name_start rows dll in
    let slots = slots_rva rvas + start in
    let bytes : Holds memory at (descriptor lookups name slots) = held_descriptor memory dll rows rvas done dlls image e in
    let place = start_is rows dll done dlls e in
    let within = entries_within rows done (dll ∷ dlls) e in
    let first = read_lookups memory at lookups name slots bytes (omega (arith, place, within, image.below.lookups)) in
    let named = read_name memory at lookups name slots bytes (omega (arith, name_is rows dll done dlls e, names_within rows done (dll ∷ dlls) e, image.below.names)) in
    let third = read_slots memory at lookups name slots bytes (omega (arith, place, within, image.below.slots)) in (
      not_last memory at slots third (omega (arith, image.above.slots)),
      of_fields memory dll at lookups name slots named (read_text memory dll rows rvas done dlls image e none) first third
          ∙ read_dll memory dll rows rvas done dlls image e,
    )

end_held : (memory : List ℕ) (rows : List ImportRow) (rvas : List ℕ) → IsImage memory rows rvas → 0 < length (dlls_of rows) → Holds memory (slice_index rvas 0 + 20 * length (dlls_of rows)) (replicate 20 0)
unfolding directory_table
end_held memory rows rvas image some =
    let each = dll_descriptor rows rvas in
    let zeros : directory_end (length (dlls_of rows)) ≡ replicate 20 0 = ends (length (dlls_of rows)) some in
    subst (λ (n : ℕ). Holds memory (slice_index rvas 0 + n) (replicate 20 0)) (length_descriptors rows rvas (dlls_of rows))
    (held_part memory (slice_index rvas 0) (flat_map each (dlls_of rows)) (replicate 20 0) [] (subst (λ (end : List ℕ). Holds memory (slice_index rvas 0) (flat_map each (dlls_of rows) ++ end)) zeros image.held.directory))
  where
    ends : (n : ℕ) → 0 < n → directory_end n ≡ replicate 20 0
    ends n lt = rw (ne_eqb n 0 (λ zero. omega (arith, lt, zero))) refl

walk_dlls : (memory : List ℕ) (rows : List ImportRow) (rvas : List ℕ) (done dlls : List (List ℕ)) → IsImage memory rows rvas → 0 < length (dlls_of rows) → dlls_of rows ≡ done ++ dlls → AllByRecursion HasNoNul dlls → rest_descriptors memory (slice_index rvas 0 + 20 * length done) ≡ Imports (flat_map (found_of_dll rows rvas) dlls)
walk_dlls memory rows rvas done [] image some e texts =
    let all : dlls_of rows ≡ done = e ∙ append-nil done in
    let at = slice_index rvas 0 + 20 * length done in
    let zeros : Holds memory at (replicate 20 0) = subst (λ (listed : List (List ℕ)). Holds memory (slice_index rvas 0 + 20 * length listed) (replicate 20 0)) all (end_held memory rows rvas image some) in
    descriptors_last memory at (held_fits memory at (replicate 20 0) zeros (omega arith)) (zeros_last memory at zeros)
walk_dlls memory rows rvas done (dll ∷ dlls) image some e texts =
    let at = slice_index rvas 0 + 20 * length done in
    let read = descriptor_read memory dll rows rvas done dlls image e texts.0 in
    let size = length_dll_descriptor rows rvas dll in
    let there : at + 20 ≤ length memory = omega (arith, size, held_fits memory at (dll_descriptor rows rvas dll) (held_descriptor memory dll rows rvas done dlls image e) (omega (arith, size))) in
    let later = walk_dlls memory rows rvas (done ++ dll ∷ []) dlls image some (e ∙ sym (append_assoc done (dll ∷ []) dlls)) texts.1 in
    let next_at : at + 20 ≡ slice_index rvas 0 + 20 * length (done ++ dll ∷ []) = omega (arith, length-append done (dll ∷ [])) in
    let next : rest_descriptors memory (at + 20) ≡ Imports (flat_map (found_of_dll rows rvas) dlls) = rw next_at later in
    descriptors_step memory at there read.0
    ∙ ap (λ (walk : Walk). then_walk walk (rest_descriptors memory (at + 20))) read.1
    ∙ ap (then_walk (Imports (found_of_dll rows rvas dll))) next

some_listed : (name : List ℕ) (dlls : List (List ℕ)) → list_any (same_name name) dlls ≡ true → 0 < length dlls
some_listed name [] any = absurd (false≢true any)
some_listed name (dll ∷ dlls) any = omega arith

pub tables_read_back : (rows : List ImportRow) (rvas memory : List ℕ) → 0 < length rows → AreReadable rows → EndBelow4G rvas (sizes_of rows) → StandAboveZero rows rvas → HoldsTables memory rows rvas → imports_of memory (slice_index rvas 0) ≡ Imports (found_of rows rvas)
unfolding found_of
tables_read_back rows rvas memory some readable below above held =
    let image : IsImage memory rows rvas = record { held = held; above = above; below = below; readable = readable } in
    sym (descriptors_start memory (slice_index rvas 0) (λ zero. omega (arith, zero, above.directory)))
    ∙ ap (rest_descriptors memory) (from_start (slice_index rvas 0))
    ∙ walk_dlls memory rows rvas [] (dlls_of rows) image (some_listed _ (dlls_of rows) (listed rows 0 some)) refl (dlls_texts rows readable.dlls)
  where
    from_start : (n : ℕ) → n ≡ n + 20 * 0
    from_start n = omega arith
