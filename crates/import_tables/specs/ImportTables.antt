-- The bytes of the import tables of some imports (PE Format, "The .idata Section"): the directory, the lookup tables, the
-- slots, the hints with names, and the names of DLLs, in this order, each at an RVA. Whatever has an order stands DLL by
-- DLL, in the order of their first imports, and for each DLL in the order of its imports (own).
use Rattle.std.specs.Prelude.{ℕ, ◌+◌, ◌*◌, ◌%◌, ◌^◌, ◌<◌, ◌==◌, if◌then◌else◌, List, [], ◌∷◌, ◌++◌, length, take, map, filter, replicate, slice_index, slice_index_or, Option, Some, None}
use Rattle.std.specs.List.{flat_map, before_first, range_with_len}
use Rattle.link_base.specs.Bytes.{number_bytes}
use Rattle.link_base.specs.Fields.{fields}
use Rattle.link_base.specs.declared.numbers.LeNumber.TheVariants.{U32}
use Rattle.short_import.specs.declared.import.ImportBy.{ImportBy}
use Rattle.short_import.specs.declared.import.ImportBy.TheVariants.{Ordinal, Named}
use Rattle.import_tables.specs.declared.row.ImportRow.{ImportRow}
use Rattle.import_tables.specs.Constants.{SIZEOF_IMPORT_DESCRIPTOR, SIZEOF_LOOKUP_ENTRY, ORDINAL_FLAG64}
use Rattle.import_tables.specs.ImportShape.{same_name, is_of, dlls_of, table_start, names_size}

-- ---- where the tables stand

abbrev pub lookups_rva : List ℕ → ℕ
lookups_rva rvas = slice_index rvas 1

abbrev pub slots_rva : List ℕ → ℕ
slots_rva rvas = slice_index rvas 2

abbrev pub hints_rva : List ℕ → ℕ
hints_rva rvas = slice_index rvas 3

abbrev pub names_rva : List ℕ → ℕ
names_rva rvas = slice_index rvas 4

-- each table ends below 2^32
pub record EndBelow4G (rvas sizes : List ℕ) : Type 0 where
  pub directory : slice_index rvas 0 + slice_index sizes 0 < 2 ^ 32
  pub lookups : lookups_rva rvas + slice_index sizes 1 < 2 ^ 32
  pub slots : slots_rva rvas + slice_index sizes 2 < 2 ^ 32
  pub hints : hints_rva rvas + slice_index sizes 3 < 2 ^ 32
  pub names : names_rva rvas + slice_index sizes 4 < 2 ^ 32

-- ---- texts

-- a text with its NUL
abbrev pub text_bytes : List ℕ → List ℕ
text_bytes text = text ++ 0 ∷ []

-- a hint of two bytes and a name with its NUL, to an even size; an import by ordinal has none ("Hint/Name Table")
abbrev pub hint_bytes : ImportBy → List ℕ
hint_bytes (Ordinal number) = []
hint_bytes (Named hint name) = number_bytes 2 hint ++ (name ++ (if length name % 2 == 0 then 0 ∷ 0 ∷ [] else 0 ∷ []))

-- ---- the lookup tables and the slots ("Import Lookup Table", "Import Address Table")

-- the entries of a DLL: one for each of its imports, and one of none, which ends the table
abbrev pub dll_entries : List ImportRow → List ℕ → List (Option ImportBy)
dll_entries rows dll = map (λ row. Some row.by) (filter (is_of dll) rows) ++ None ∷ []

-- those of all DLLs
unfoldable pub entries_in_order : List ImportRow → List (Option ImportBy)
entries_in_order rows = flat_map (dll_entries rows) (dlls_of rows)

-- the hints and names, in the order of the entries
abbrev pub entry_hint : Option ImportBy → List ℕ
entry_hint None = []
entry_hint (Some how) = hint_bytes how

unfoldable pub hint_table : List (Option ImportBy) → List ℕ
hint_table entries = flat_map entry_hint entries

-- an entry whose hint and name stand at an RVA: bit 63 and the ordinal, or this RVA; of zeros where a table ends
abbrev pub entry_number : ℕ → Option ImportBy → ℕ
entry_number rva None = 0
entry_number rva (Some (Ordinal number)) = ORDINAL_FLAG64 + number
entry_number rva (Some (Named hint name)) = rva

-- the entry at a place: its hint and name stand behind those of the entries before it
unfoldable pub number_at_place : List (Option ImportBy) → ℕ → ℕ → ℕ
number_at_place entries rva place =
    entry_number (rva + length (hint_table (take place entries))) (slice_index_or entries place None)

unfoldable pub entry_numbers : List (Option ImportBy) → ℕ → List ℕ
entry_numbers entries rva = map (number_at_place entries rva) (range_with_len 0 (length entries))

-- until the image is loaded the slots hold what the lookup tables do
unfoldable pub number_table : List ℕ → List ℕ
number_table numbers = flat_map (number_bytes SIZEOF_LOOKUP_ENTRY) numbers

-- ---- the directory ("Import Directory Table")

-- the offset of a DLL's name in the table of names
unfoldable pub name_start : List ImportRow → List ℕ → ℕ
name_start rows dll = names_size (before_first (same_name dll) (dlls_of rows))

-- a descriptor: the RVAs of the lookup table, of the name and of the slots, with neither a time stamp nor a forwarder chain
unfoldable pub descriptor : ℕ → ℕ → ℕ → List ℕ
descriptor lookups name slots = fields (U32 lookups ∷ U32 0 ∷ U32 0 ∷ U32 name ∷ U32 slots ∷ [])

unfoldable pub dll_descriptor : List ImportRow → List ℕ → List ℕ → List ℕ
dll_descriptor rows rvas dll =
    let start = SIZEOF_LOOKUP_ENTRY * table_start rows dll in
    descriptor (lookups_rva rvas + start) (names_rva rvas + name_start rows dll) (slots_rva rvas + start)

-- a descriptor of zeros ends the directory; without a DLL there is none
abbrev pub directory_end : ℕ → List ℕ
directory_end dlls = if dlls == 0 then [] else replicate SIZEOF_IMPORT_DESCRIPTOR 0

unfoldable pub directory_table : List ImportRow → List ℕ → List ℕ
directory_table rows rvas =
    flat_map (dll_descriptor rows rvas) (dlls_of rows) ++ directory_end (length (dlls_of rows))

-- ---- all

unfoldable pub name_table : List (List ℕ) → List ℕ
name_table dlls = flat_map text_bytes dlls

-- the five tables of some imports, which stand at these RVAs
unfoldable pub tables_of : List ImportRow → List ℕ → List (List ℕ)
tables_of rows rvas =
    let entries = entries_in_order rows in
    let numbers = number_table (entry_numbers entries (hints_rva rvas)) in
    directory_table rows rvas ∷ numbers ∷ numbers ∷ hint_table entries ∷ name_table (dlls_of rows) ∷ []
