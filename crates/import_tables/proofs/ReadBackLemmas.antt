-- The tables of some imports, read back from a mapped image that holds them.
use Rattle.std.proofs.Common.{◌≡◌, ℕ, ◌+◌, ◌*◌, ◌%◌, ◌^◌, ◌<◌, ◌≤◌, Bool, true, false, cond, eqb, leb, List, [], ◌∷◌, ◌++◌, length, take, map, get_or, Option, Some, None, le-leb, length-append, refl, sym, ap, ◌∙◌, arith, subst}
use Rattle.std.specs.List.{AllByRecursion, flat_map}
use Rattle.std.proofs.lemmas.Bool.{ne_eqb, lt-leb}
use Rattle.std.proofs.lemmas.List.{append_assoc, append-nil, take_at, get_or_at}
use Rattle.std.proofs.lemmas.List.Concat.{flat_map-append}
use Rattle.std.proofs.lemmas.List.FromFn.{length-map-range_with_len, get_or-map-range_with_len}
use Rattle.link_base.specs.Bytes.{number_at, number_bytes, u64_at}
use Rattle.link_base.proofs.CallerLemmas.{length-number_bytes}
use Rattle.link_base.proofs.HeldLemmas.{held_part, held_fits, held_number, held_text}
use Rattle.short_import.specs.declared.import.ImportBy.{ImportBy}
use Rattle.short_import.specs.declared.import.ImportBy.TheVariants.{Ordinal, Named}
use Rattle.import_tables.specs.declared.row.ImportRow.{ImportRow}
use Rattle.import_tables.specs.declared.lookup.Entry.{Entry}
use Rattle.import_tables.specs.declared.lookup.Entry.TheVariants.{End, Import}
use Rattle.import_tables.specs.Constants.{ORDINAL_FLAG64}
use Rattle.import_tables.specs.ImportDirectory.{Imports, then_walk, with_entry, hint_and_name, entry_at, import_of}
use Rattle.import_tables.specs.ImportTables.{hint_bytes, entry_hint, hint_table, entry_number, number_at_place, entry_numbers, number_table}
use Rattle.import_tables.specs.ReadBack.{Holds, IsReadable, found_from}
use Rattle.import_tables.proofs.WalkLemmas.{rest_entries, entries_step}
use Rattle.import_tables.proofs.HeldLemmas.{held_entry}

-- ---- an entry at its place

number_here : (before after : List (Option ImportBy)) (entry : Option ImportBy) (rva : ℕ) → number_at_place (before ++ entry ∷ after) rva (length before) ≡ entry_number (rva + length (hint_table before)) entry
unfolding number_at_place
number_here before after entry rva =
    let front : take (length before) (before ++ entry ∷ after) ≡ before = take_at before (entry ∷ after) (length before) refl in
    let here : get_or (before ++ entry ∷ after) (length before) None ≡ entry = get_or_at before entry after None (length before) refl in
    rw (front, here) refl

inside : (before after : List (Option ImportBy)) (entry : Option ImportBy) → length before < length (before ++ entry ∷ after)
inside before after entry = omega (arith, length-append before (entry ∷ after))

-- the eight bytes of an entry are held where its table is
held_place : (memory : List ℕ) (table rva : ℕ) (before after : List (Option ImportBy)) (entry : Option ImportBy) → Holds memory table (number_table (entry_numbers (before ++ entry ∷ after) rva)) → Holds memory (table + 8 * length before) (number_bytes 8 (entry_number (rva + length (hint_table before)) entry))
unfolding entry_numbers
held_place memory table rva before after entry held =
    let entries = before ++ entry ∷ after in
    let lt = inside before after entry in
    let long = length-map-range_with_len (number_at_place entries rva) 0 (length entries) in
    let number = get_or-map-range_with_len (number_at_place entries rva) 0 (length entries) (length before) (length before) 0 lt (omega arith) ∙ number_here before after entry rva in
    subst (λ (n : ℕ). Holds memory (table + 8 * length before) (number_bytes 8 n)) number (held_entry memory table (entry_numbers entries rva) (length before) held (omega (arith, lt, long)))

fits_place : (memory : List ℕ) (at number : ℕ) → Holds memory at (number_bytes 8 number) → at + 8 ≤ length memory
fits_place memory at number held =
    let size = length-number_bytes 8 number in
    omega (arith, size, held_fits memory at (number_bytes 8 number) held (omega (arith, size)))

-- a hint and a name where they are held
held_hint : (memory : List ℕ) (rva : ℕ) (before after : List (Option ImportBy)) (how : ImportBy) → Holds memory rva (hint_table (before ++ Some how ∷ after)) → Holds memory (rva + length (hint_table before)) (hint_bytes how)
unfolding hint_table
held_hint memory rva before after how held =
    held_part memory rva (hint_table before) (hint_bytes how) (hint_table after) (subst (Holds memory rva) (flat_map-append entry_hint before (Some how ∷ after)) held)

read_hint : (memory : List ℕ) (place hint : ℕ) (name : List ℕ) → Holds memory place (hint_bytes (Named hint name)) → IsReadable (Named hint name) → hint_and_name memory place ≡ Some (Named hint name)
unfolding hint_and_name
read_hint memory place hint name held readable =
    let nuls : List ℕ = cond (eqb (length name % 2) 0) (0 ∷ 0 ∷ []) (0 ∷ []) in
    let size = length-number_bytes 2 hint in
    let front : Holds memory (place + 0) (number_bytes 2 hint) = held_part memory place [] (number_bytes 2 hint) (name ++ nuls) held in
    let first : Holds memory place (number_bytes 2 hint) = subst (λ (n : ℕ). Holds memory n (number_bytes 2 hint)) (nothing place) front in
    let number : number_at 2 memory place ≡ hint = held_number memory place 2 hint first (omega (arith, readable.0)) in
    let there : place + 2 ≤ length memory = omega (arith, size, held_fits memory place (number_bytes 2 hint) first (omega (arith, size))) in
    let text : Holds memory (place + 2) (name ++ 0 ∷ []) =
    subst (λ (n : ℕ). Holds memory (place + n) (name ++ 0 ∷ [])) size (held_part memory place (number_bytes 2 hint) (name ++ 0 ∷ []) (more (eqb (length name % 2) 0)) (subst (λ (xs : List ℕ). Holds memory place (number_bytes 2 hint ++ xs)) (ended (eqb (length name % 2) 0)) held)) in
    let read = held_text memory (place + 2) name text readable.1 in
    rw (number, le-leb _ _ there, read) refl
  where
    nothing : (n : ℕ) → n + 0 ≡ n
    nothing n = omega arith

    more : Bool → List ℕ
    more b = cond b (0 ∷ []) []

    ended : (b : Bool) → name ++ cond b (0 ∷ 0 ∷ []) (0 ∷ []) ≡ (name ++ 0 ∷ []) ++ more b
    ended true = sym (append_assoc name (0 ∷ []) (0 ∷ []))
    ended false = sym (append-nil (name ++ 0 ∷ []))

-- ---- an entry that is read

read_end : (memory : List ℕ) (at slot : ℕ) → u64_at memory at ≡ 0 → entry_at memory at slot ≡ End
unfolding entry_at
read_end memory at slot zero = rw zero refl

read_ordinal : (memory : List ℕ) (at slot number : ℕ) → u64_at memory at ≡ ORDINAL_FLAG64 + number → slot + 8 ≤ length memory → number < 2 ^ 16 → entry_at memory at slot ≡ Import (Ordinal number)
unfolding entry_at
read_ordinal memory at slot number is there small =
    let some : eqb (ORDINAL_FLAG64 + number) 0 ≡ false = ne_eqb _ _ (λ zero. omega arith) in
    let flagged : leb ORDINAL_FLAG64 (ORDINAL_FLAG64 + number) ≡ true = le-leb _ _ (omega arith) in
    let bits : (ORDINAL_FLAG64 + number) % 2 ^ 16 ≡ number = omega (arith, small) in
    rw (is, some, le-leb _ _ there, flagged, bits) refl

read_named : (memory : List ℕ) (at slot place : ℕ) (how : ImportBy) → u64_at memory at ≡ place → slot + 8 ≤ length memory → 0 < place → place < 2 ^ 32 → hint_and_name memory place ≡ Some how → entry_at memory at slot ≡ Import how
unfolding entry_at
read_named memory at slot place how is there positive small read =
    let some : eqb place 0 ≡ false = ne_eqb _ _ (λ zero. omega arith) in
    let plain : leb ORDINAL_FLAG64 place ≡ false = lt-leb _ _ (omega (arith, small)) in
    rw (is, some, le-leb _ _ there, plain, read) refl

has_hint : (before after : List (Option ImportBy)) (hint : ℕ) (name : List ℕ) → 0 < length (hint_table (before ++ Some (Named hint name) ∷ after))
unfolding hint_table
has_hint before after hint name =
    let nuls : List ℕ = cond (eqb (length name % 2) 0) (0 ∷ 0 ∷ []) (0 ∷ []) in
    omega (
      arith,
      ap length (flat_map-append entry_hint before (Some (Named hint name) ∷ after)),
      length-append (flat_map entry_hint before) (hint_bytes (Named hint name) ++ flat_map entry_hint after),
      length-append (hint_bytes (Named hint name)) (flat_map entry_hint after),
      length-append (number_bytes 2 hint) (name ++ nuls),
      length-number_bytes 2 hint,
    )

read_place : (memory : List ℕ) (lookups hints slot : ℕ) (before after : List (Option ImportBy)) (how : ImportBy) → Holds memory lookups (number_table (entry_numbers (before ++ Some how ∷ after) hints)) → slot + 8 ≤ length memory → Holds memory hints (hint_table (before ++ Some how ∷ after)) → (0 < length (hint_table (before ++ Some how ∷ after)) → 0 < hints) → hints + length (hint_table before) < 2 ^ 32 → IsReadable how → entry_at memory (lookups + 8 * length before) slot ≡ Import how
read_place memory lookups hints slot before after (Ordinal number) held there texts positive small readable =
    let bytes = held_place memory lookups hints before after (Some (Ordinal number)) held in
    let is = held_number memory (lookups + 8 * length before) 8 (ORDINAL_FLAG64 + number) bytes (omega (arith, readable)) in
    read_ordinal memory (lookups + 8 * length before) slot number is there readable
read_place memory lookups hints slot before after (Named hint name) held there texts positive small readable =
    let place = hints + length (hint_table before) in
    let bytes = held_place memory lookups hints before after (Some (Named hint name)) held in
    let is = held_number memory (lookups + 8 * length before) 8 place bytes (omega (arith, small)) in
    let read = read_hint memory place hint name (held_hint memory hints before after (Named hint name) texts) readable in
    read_named memory (lookups + 8 * length before) slot place (Named hint name) is there (omega (arith, positive (has_hint before after hint name))) small read

-- ---- the imports of a DLL

abbrev pub EntriesStand : List ℕ → List (Option ImportBy) → ℕ → ℕ → ℕ → Type 0
EntriesStand memory entries lookups slots hints =
    (Holds memory lookups (number_table (entry_numbers entries hints))) × (Holds memory slots (number_table (entry_numbers entries hints))) × (Holds memory hints (hint_table entries)) × (0 < length (hint_table entries) → 0 < hints) × (hints + length (hint_table entries) < 2 ^ 32)

hints_before : (before after : List (Option ImportBy)) (hints : ℕ) → hints + length (hint_table (before ++ after)) < 2 ^ 32 → hints + length (hint_table before) < 2 ^ 32
unfolding hint_table
hints_before before after hints small =
    omega (arith, small, ap length (flat_map-append entry_hint before after), length-append (flat_map entry_hint before) (flat_map entry_hint after))

pub walk_dll : (memory dll : List ℕ) (lookups slots hints : ℕ) (rows : List ImportRow) (before after : List (Option ImportBy)) → EntriesStand memory (before ++ (map (λ (row : ImportRow). Some row.by) rows ++ None ∷ after)) lookups slots hints → AllByRecursion (λ (row : ImportRow). IsReadable row.by) rows → rest_entries memory dll (lookups + 8 * length before) (slots + 8 * length before) ≡ Imports (found_from dll (slots + 8 * length before) rows)
walk_dll memory dll lookups slots hints [] before after stand readable =
    let at = lookups + 8 * length before in
    let slot = slots + 8 * length before in
    let bytes = held_place memory lookups hints before after None stand.0 in
    let zero = held_number memory at 8 0 bytes (omega arith) in
    entries_step memory dll at slot (fits_place memory at 0 bytes)
    ∙ ap (λ (entry : Entry). with_entry dll slot entry (rest_entries memory dll (at + 8) (slot + 8))) (read_end memory at slot zero)
walk_dll memory dll lookups slots hints (row ∷ rows) before after stand readable =
    let at = lookups + 8 * length before in
    let slot = slots + 8 * length before in
    let rest = map (λ (r : ImportRow). Some r.by) rows ++ None ∷ after in
    let bytes = held_place memory lookups hints before rest (Some row.by) stand.0 in
    let slot_bytes = held_place memory slots hints before rest (Some row.by) stand.1 in
    let there = fits_place memory slot _ slot_bytes in
    let small = hints_before before (Some row.by ∷ rest) hints stand.4 in
    let read = read_place memory lookups hints slot before rest row.by stand.0 there stand.2 stand.3 small readable.0 in
    let seam : before ++ (Some row.by ∷ rest) ≡ (before ++ Some row.by ∷ []) ++ rest = sym (append_assoc before (Some row.by ∷ []) rest) in
    let later = walk_dll memory dll lookups slots hints rows (before ++ Some row.by ∷ []) after (subst (λ (entries : List (Option ImportBy)). EntriesStand memory entries lookups slots hints) seam stand) readable.1 in
    let long : 8 * length before + 8 ≡ 8 * length (before ++ Some row.by ∷ []) = omega (arith, length-append before (Some row.by ∷ [])) in
    let next_at : at + 8 ≡ lookups + 8 * length (before ++ Some row.by ∷ []) = omega (arith, long) in
    let next_slot : slot + 8 ≡ slots + 8 * length (before ++ Some row.by ∷ []) = omega (arith, long) in
    let next : rest_entries memory dll (at + 8) (slot + 8) ≡ Imports (found_from dll (slot + 8) rows) = rw (next_at, next_slot) later in
    entries_step memory dll at slot (fits_place memory at _ bytes)
    ∙ ap (λ (entry : Entry). with_entry dll slot entry (rest_entries memory dll (at + 8) (slot + 8))) read
    ∙ ap (then_walk (Imports (import_of dll row.by slot ∷ []))) next
