-- The tables of two imports from `k.dll`, by the ordinal 7 and of `f` by the hint 3, in a section at RVA 0x2000.
use Rattle.std.proofs.Common.{◌≡◌, ℕ, List, [], ◌∷◌, ◌++◌, replicate, refl}
use Rattle.std.specs.Prelude.{codes}
use Rattle.link_base.specs.Bytes.{number_bytes}
use Rattle.short_import.specs.declared.import.ImportBy.TheVariants as by
use Rattle.import_tables.specs.declared.row.ImportRow.{ImportRow}
use Rattle.import_tables.specs.ImportDirectory.{import_of}
use Rattle.import_tables.specs.ImportShape.{dlls_of, count_of, entry_count, table_start, slot_offset, slots_of, names_size, extent_of, hints_size, sizes_of}
use Rattle.import_tables.specs.ImportTables.{entries_in_order, hint_table, number_at_place, entry_numbers, number_table, name_start, descriptor, dll_descriptor, directory_table, name_table, tables_of}
use Rattle.import_tables.specs.ReadBack.{found_of}

imports : List ImportRow
imports =
    record { dll = codes "k.dll"; by = by.Ordinal 7 } ∷ record { dll = codes "k.dll"; by = by.Named 3 (codes "f") } ∷ []

zeros : List ℕ
zeros = 0 ∷ 0 ∷ 0 ∷ 0 ∷ []

-- the ordinal with bit 63, the RVA of the hint and name, and zeros
numbers : List ℕ
numbers =
    (7 ∷ 0 ∷ 0 ∷ 0 ∷ 0 ∷ 0 ∷ 0 ∷ 0x80 ∷ []) ++ ((0x58 ∷ 0x20 ∷ 0 ∷ 0 ∷ 0 ∷ 0 ∷ 0 ∷ 0 ∷ []) ++ (zeros ++ zeros))

directory : List ℕ
directory =
    (0x28 ∷ 0x20 ∷ 0 ∷ 0 ∷ []) ++ (zeros ++ (zeros ++ ((0x5c ∷ 0x20 ∷ 0 ∷ 0 ∷ []) ++ ((0x40 ∷ 0x20 ∷ 0 ∷ 0 ∷ []) ++ (zeros ++ (zeros ++ (zeros ++ (zeros ++ zeros))))))))

imports-tables : tables_of imports (0x2000 ∷ 0x2028 ∷ 0x2040 ∷ 0x2058 ∷ 0x205c ∷ []) ≡ directory ∷ numbers ∷ numbers ∷ (3 ∷ 0 ∷ 0x66 ∷ 0 ∷ []) ∷ (codes "k.dll" ++ 0 ∷ []) ∷ []
unfolding imports zeros numbers directory number_bytes dlls_of count_of entry_count table_start names_size entries_in_order hint_table number_at_place entry_numbers number_table name_start descriptor dll_descriptor directory_table name_table tables_of
imports-tables = refl

-- their slots are found at 0x2040 and 0x2048
imports-found : found_of imports (0x2000 ∷ 0x2028 ∷ 0x2040 ∷ 0x2058 ∷ 0x205c ∷ []) ≡ import_of (codes "k.dll") (by.Ordinal 7) 0x2040 ∷ import_of (codes "k.dll") (by.Named 3 (codes "f")) 0x2048 ∷ []
unfolding imports dlls_of count_of entry_count table_start found_of
imports-found = refl

imports-slots : slots_of imports ≡ 0 ∷ 8 ∷ []
unfolding imports dlls_of count_of entry_count table_start slot_offset slots_of
imports-slots = refl

imports-sizes : sizes_of imports ≡ 40 ∷ 24 ∷ 24 ∷ 4 ∷ 6 ∷ []
unfolding imports dlls_of count_of entry_count names_size extent_of hints_size sizes_of
imports-sizes = refl

-- no import has no bytes
none-tables : tables_of [] (replicate 5 0) ≡ [] ∷ [] ∷ [] ∷ [] ∷ [] ∷ []
unfolding dlls_of entries_in_order hint_table entry_numbers number_table directory_table name_table tables_of
none-tables = refl
