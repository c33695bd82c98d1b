-- The definitions on three modules: an object, an import of code by the ordinal 7, and one of data by a name, of one DLL. All
-- imports are kept, or the second alone.
use Rattle.std.proofs.Common.{◌≡◌, List, [], ◌∷◌, Bool, true, false, map, None, Some, refl, codes}
use Rattle.short_import.specs.declared.import.Import.{Import}
use Rattle.short_import.specs.declared.import.ImportKind.TheVariants as kind
use Rattle.short_import.specs.declared.import.ImportBy.TheVariants as by
use Rattle.module_view.specs.Module.{ModuleView}
use Rattle.import_tables.specs.ImportShape.{dlls_of, count_of, entry_count, table_start, slot_offset as row_offset, slots_of, names_size, extent_of, hints_size, sizes_of}
use Rattle.link_imports.specs.Imports.{import_rows, import_sizes, slot_offset}
use Rattle.link_imports.specs.ImportPieces.{code_imports, thunk_pieces}

code : Import
code = record { symbol = codes "g"; dll = codes "k.dll"; kind = kind.Code; by = by.Ordinal 7 }

datum : Import
datum = record { symbol = codes "f"; dll = codes "k.dll"; kind = kind.Data; by = by.Named 3 (codes "f") }

modules : List ModuleView
modules =
    record { file = codes "a.obj"; member = None; bytes = []; imported = None }
    ∷ record { file = codes "g.imp"; member = None; bytes = []; imported = Some code }
    ∷ record { file = codes "f.imp"; member = None; bytes = []; imported = Some datum }
    ∷ []

all : List Bool
all = false ∷ true ∷ true ∷ []

second : List Bool
second = false ∷ false ∷ true ∷ []

-- two descriptors, tables of two entries and the end, a hint with a name, and the name of the DLL
sizes : import_sizes modules all ≡ 40 ∷ 24 ∷ 24 ∷ 4 ∷ 6 ∷ []
unfolding modules code datum all dlls_of count_of entry_count extent_of hints_size names_size sizes_of
sizes = refl

-- the second slot stands eight bytes behind the first
offsets : slot_offset modules all 1 ∷ slot_offset modules all 2 ∷ [] ≡ 0 ∷ 8 ∷ []
unfolding modules code datum all dlls_of count_of entry_count table_start row_offset slots_of
offsets = refl

-- where the first import is not kept, its slot is the second's
first_not_kept : import_sizes modules second ≡ 40 ∷ 16 ∷ 16 ∷ 4 ∷ 6 ∷ []
unfolding modules code datum second dlls_of count_of entry_count extent_of hints_size names_size sizes_of
first_not_kept = refl

second_first : slot_offset modules second 2 ≡ 0
unfolding modules code datum second dlls_of count_of entry_count table_start row_offset slots_of
second_first = refl

-- beyond the list none is kept
none_kept : import_rows modules (false ∷ []) ≡ []
unfolding modules code datum
none_kept = refl

-- the import of code alone has a jump
jumps : code_imports modules ≡ 1 ∷ []
unfolding modules code datum
jumps = refl

-- its number
numbers : map (λ piece. piece.number) (thunk_pieces modules) ≡ 17 ∷ []
unfolding modules code datum
numbers = refl
