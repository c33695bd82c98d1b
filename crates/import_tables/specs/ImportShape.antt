-- The sizes of the import tables of some imports, and where the slot of each stands (PE Format, "The .idata Section"): a
-- directory of descriptors, lookup tables, slots, hints with names, and the names of DLLs. The imports of one DLL stand
-- together, in their order, and the DLLs in the order of their first imports (own).
use Rattle.std.specs.Prelude.{ℕ, ◌+◌, ◌*◌, ◌%◌, ◌≤◌, Bool, ◌==◌, nat_eq, if◌then◌else◌, List, [], ◌∷◌, ◌++◌, length, take, map, fold, slice_index_or, All}
use Rattle.std.specs.List.{list_any, sum_by, count_by, before_first, range_with_len}
use lib.Pointwise.{pointwise}
use Rattle.short_import.specs.declared.import.ImportBy.{ImportBy}
use Rattle.short_import.specs.declared.import.ImportBy.TheVariants.{Ordinal, Named}
use Rattle.link_base.specs.Limits.{MODULE_LIMIT, NAME_LIMIT}
use Rattle.import_tables.specs.declared.row.ImportRow.{ImportRow}
use Rattle.import_tables.specs.declared.extent.Extent.{Extent}
use Rattle.import_tables.specs.Constants.{SIZEOF_IMPORT_DESCRIPTOR, SIZEOF_LOOKUP_ENTRY}

-- ---- DLLs

-- names are compared by bytes
abbrev pub same_name : List ℕ → List ℕ → Bool
same_name = pointwise nat_eq

abbrev pub is_of : List ℕ → ImportRow → Bool
is_of dll row = same_name dll row.dll

abbrev pub with_dll : List (List ℕ) → ImportRow → List (List ℕ)
with_dll dlls row = if list_any (same_name row.dll) dlls then dlls else dlls ++ row.dll ∷ []

-- the DLLs of some imports, each once, in the order of their first imports
unfoldable pub dlls_of : List ImportRow → List (List ℕ)
dlls_of rows = fold with_dll [] rows

-- how many imports a DLL has
unfoldable pub count_of : List ℕ → List ImportRow → ℕ
count_of dll rows = count_by (is_of dll) rows

-- ---- slots

-- how many entries the lookup tables of some DLLs have: one for each import, and one of zeros that ends each table
unfoldable pub entry_count : List ImportRow → List (List ℕ) → ℕ
entry_count rows dlls = sum_by (λ dll. count_of dll rows + 1) dlls

-- how many stand before the table of a DLL
unfoldable pub table_start : List ImportRow → List ℕ → ℕ
table_start rows dll = entry_count rows (before_first (same_name dll) (dlls_of rows))

-- the place of a DLL's next entry, behind those of some of its imports
abbrev pub entry_behind : List ImportRow → List ImportRow → List ℕ → ℕ
entry_behind rows earlier dll = table_start rows dll + count_of dll earlier

-- in place of an import that is not there
abbrev pub no_row : ImportRow
no_row = record { dll = []; by = Ordinal 0 }

abbrev pub dll_at : List ImportRow → ℕ → List ℕ
dll_at rows index = (slice_index_or rows index no_row).dll

abbrev pub by_at : List ImportRow → ℕ → ImportBy
by_at rows index = (slice_index_or rows index no_row).by

-- the offset of an import's slot, by its index
unfoldable pub slot_offset : List ImportRow → ℕ → ℕ
slot_offset rows index = SIZEOF_LOOKUP_ENTRY * entry_behind rows (take index rows) (dll_at rows index)

unfoldable pub slots_of : List ImportRow → List ℕ
slots_of rows = map (slot_offset rows) (range_with_len 0 (length rows))

-- ---- sizes

-- the names of DLLs, each with its NUL
unfoldable pub names_size : List (List ℕ) → ℕ
names_size dlls = sum_by (λ dll. length dll + 1) dlls

-- how many DLLs there are, how many entries their lookup tables have, and how many bytes their names
unfoldable pub extent_of : List ImportRow → List (List ℕ) → Extent
extent_of rows dlls = record { dlls = length dlls; entries = entry_count rows dlls; names = names_size dlls }

-- a hint of two bytes and a name with its NUL, to an even size; an import by ordinal has none
abbrev pub hint_size : ImportBy → ℕ
hint_size (Ordinal number) = 0
hint_size (Named hint name) = let size = 2 + length name + 1 in size + size % 2

unfoldable pub hints_size : List ImportRow → ℕ
hints_size rows = sum_by (λ row. hint_size row.by) rows

-- a descriptor for each DLL and one of zeros; without a DLL there is no directory
abbrev pub directory_size : ℕ → ℕ
directory_size dlls = if dlls == 0 then 0 else SIZEOF_IMPORT_DESCRIPTOR * (dlls + 1)

-- the directory, the lookup tables, the slots, the hints with names, and the names of DLLs
abbrev pub sizes_by : Extent → ℕ → List ℕ
sizes_by extent hints =
    directory_size extent.dlls
    ∷ SIZEOF_LOOKUP_ENTRY * extent.entries ∷ SIZEOF_LOOKUP_ENTRY * extent.entries ∷ hints ∷ extent.names ∷ []

unfoldable pub sizes_of : List ImportRow → List ℕ
sizes_of rows = sizes_by (extent_of rows (dlls_of rows)) (hints_size rows)

-- ---- limits

abbrev pub name_len : ImportBy → ℕ
name_len (Ordinal number) = 0
name_len (Named hint name) = length name

-- as many imports as there can be modules, and no longer names than a link can have
pub record AreWithinLimits (rows : List ImportRow) : Type 0 where
  pub few : length rows ≤ MODULE_LIMIT
  pub dlls : All (λ row. length row.dll ≤ NAME_LIMIT) rows
  pub names : All (λ row. name_len row.by ≤ NAME_LIMIT) rows
