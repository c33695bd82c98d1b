-- The definitions on imports of two DLLs: `f` from `a`, an ordinal from `k`, and `gg` from `a` again.
use Rattle.std.proofs.Common.{◌≡◌, List, [], ◌∷◌, refl}
use Rattle.std.specs.Prelude.{codes}
use Rattle.short_import.specs.declared.import.ImportBy.TheVariants as by
use Rattle.import_tables.specs.declared.row.ImportRow.{ImportRow}
use Rattle.import_tables.specs.ImportShape.{dlls_of, count_of, entry_count, table_start, slot_offset, slots_of, names_size, extent_of, hints_size, sizes_of}

imports : List ImportRow
imports =
    record { dll = codes "a"; by = by.Named 3 (codes "f") }
    ∷ record { dll = codes "k"; by = by.Ordinal 7 } ∷ record { dll = codes "a"; by = by.Named 0 (codes "gg") } ∷ []

imports-dlls : dlls_of imports ≡ codes "a" ∷ codes "k" ∷ []
unfolding imports dlls_of
imports-dlls = refl

-- the table of `k` stands behind two entries and one of zeros
imports-slots : slots_of imports ≡ 0 ∷ 24 ∷ 8 ∷ []
unfolding imports dlls_of count_of entry_count table_start slot_offset slots_of
imports-slots = refl

imports-sizes : sizes_of imports ≡ 60 ∷ 40 ∷ 40 ∷ 10 ∷ 4 ∷ []
unfolding imports dlls_of count_of entry_count names_size extent_of hints_size sizes_of
imports-sizes = refl

-- no import has no tables
none-sizes : sizes_of [] ≡ 0 ∷ 0 ∷ 0 ∷ 0 ∷ 0 ∷ []
unfolding dlls_of entry_count names_size extent_of hints_size sizes_of
none-sizes = refl
