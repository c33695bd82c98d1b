-- What is found in a mapped image that holds the tables of some imports. Own.
use Rattle.std.specs.Prelude.{◌≡◌, ℕ, ◌+◌, ◌*◌, ◌^◌, ◌<◌, false, List, [], ◌∷◌, length, filter, slice_index, All}
use Rattle.std.specs.List.{flat_map, list_any}
use Rattle.link_base.specs.Bytes.{bytes_at, is_nul}
use Rattle.short_import.specs.declared.import.ImportBy.{ImportBy}
use Rattle.short_import.specs.declared.import.ImportBy.TheVariants.{Ordinal, Named}
use Rattle.import_tables.specs.declared.row.ImportRow.{ImportRow}
use Rattle.import_tables.specs.declared.found.ImportFound.{ImportFound}
use Rattle.import_tables.specs.Constants.{SIZEOF_LOOKUP_ENTRY}
use Rattle.import_tables.specs.ImportDirectory.{import_of}
use Rattle.import_tables.specs.ImportShape.{is_of, dlls_of, table_start, hints_size}
use Rattle.import_tables.specs.ImportTables.{lookups_rva, slots_rva, hints_rva, names_rva, entries_in_order, hint_table, entry_numbers, number_table, directory_table, name_table}

-- ---- a mapped image with the tables

abbrev pub Holds : List ℕ → ℕ → List ℕ → Type 0
Holds memory rva bytes = bytes_at memory rva (length bytes) ≡ bytes

-- each table stands at its RVA
pub record HoldsTables (memory : List ℕ) (rows : List ImportRow) (rvas : List ℕ) : Type 0 where
  pub directory : Holds memory (slice_index rvas 0) (directory_table rows rvas)
  pub lookups : Holds memory (lookups_rva rvas) (number_table (entry_numbers (entries_in_order rows) (hints_rva rvas)))
  pub slots : Holds memory (slots_rva rvas) (number_table (entry_numbers (entries_in_order rows) (hints_rva rvas)))
  pub hints : Holds memory (hints_rva rvas) (hint_table (entries_in_order rows))
  pub names : Holds memory (names_rva rvas) (name_table (dlls_of rows))

-- no table that has bytes stands at RVA 0, which stands for none
pub record StandAboveZero (rows : List ImportRow) (rvas : List ℕ) : Type 0 where
  pub directory : 0 < slice_index rvas 0
  pub slots : 0 < slots_rva rvas
  pub hints : 0 < hints_size rows → 0 < hints_rva rvas

-- ---- imports that can be read

abbrev pub HasNoNul : List ℕ → Type 0
HasNoNul text = list_any is_nul text ≡ false

-- an ordinal or a hint fits its field, and no NUL cuts a name short
abbrev pub IsReadable : ImportBy → Type 0
IsReadable (Ordinal number) = number < 2 ^ 16
IsReadable (Named hint name) = (hint < 2 ^ 16) × HasNoNul name

pub record AreReadable (rows : List ImportRow) : Type 0 where
  pub dlls : All (λ row. HasNoNul row.dll) rows
  pub imports : All (λ row. IsReadable row.by) rows

-- ---- what is found

-- the imports of a DLL, whose slots follow one another
abbrev pub found_from : List ℕ → ℕ → List ImportRow → List ImportFound
found_from dll slot [] = []
found_from dll slot (row ∷ rows) = import_of dll row.by slot ∷ found_from dll (slot + SIZEOF_LOOKUP_ENTRY) rows

abbrev pub found_of_dll : List ImportRow → List ℕ → List ℕ → List ImportFound
found_of_dll rows rvas dll =
    found_from dll (slots_rva rvas + SIZEOF_LOOKUP_ENTRY * table_start rows dll) (filter (is_of dll) rows)

-- those of all DLLs, in the order of their first imports
unfoldable pub found_of : List ImportRow → List ℕ → List ImportFound
found_of rows rvas = flat_map (found_of_dll rows rvas) (dlls_of rows)
