-- The imports of a link that are kept, in the order of its modules, and where their slots stand. Own.
use Rattle.std.specs.Prelude.{◌≡◌, ℕ, Bool, false, if◌then◌else◌, List, length, filter_map, slice_index_or, Option, None, option_map, is_some}
use Rattle.std.specs.List.{range_with_len}
use Rattle.short_import.specs.declared.import.Import.{Import}
use Rattle.module_view.specs.Module.{ModuleView, module_at}
use Rattle.import_tables.specs.declared.row.ImportRow.{ImportRow}
use Rattle.import_tables.specs.ImportShape.{sizes_of, slots_of}
use Rattle.import_tables.specs.ReadBack.{AreReadable}
use Rattle.link_imports.specs.declared.imports.LinkImports.{LinkImports}

-- the module at a position is a short import
abbrev pub is_import : List ModuleView → ℕ → Bool
is_import modules position = is_some (module_at modules position).imported

-- ---- the rows of the import tables

abbrev pub row_of : Import → ImportRow
row_of import = record { dll = import.dll; by = import.by }

abbrev pub row_by : ModuleView → Option ImportRow
row_by view = option_map row_of view.imported

-- an import that is not kept has none
abbrev pub row_if : Bool → ModuleView → Option ImportRow
row_if kept view = if kept then row_by view else None

-- that of the module at a position, by what is said of each position
abbrev pub row_at : List ModuleView → List Bool → ℕ → Option ImportRow
row_at modules kept position = row_if (slice_index_or kept position false) (module_at modules position)

-- those of the first modules
abbrev pub rows_below : List ModuleView → List Bool → ℕ → List ImportRow
rows_below modules kept count = filter_map (row_at modules kept) (range_with_len 0 count)

-- one for each module that is a short import and is kept
abbrev pub import_rows : List ModuleView → List Bool → List ImportRow
import_rows modules kept = rows_below modules kept (length modules)

abbrev pub import_sizes : List ModuleView → List Bool → List ℕ
import_sizes modules kept = sizes_of (import_rows modules kept)

-- ---- slots

abbrev pub import_slots : List ModuleView → List Bool → List ℕ
import_slots modules kept = slots_of (import_rows modules kept)

-- the offset of the slot of the import that is the module at a position, in the table of the slots
abbrev pub slot_offset : List ModuleView → List Bool → ℕ → ℕ
slot_offset modules kept position =
    slice_index_or (import_slots modules kept) (length (rows_below modules kept position)) 0

-- ---- what is known of all of them

pub record AreImports (modules : List ModuleView) (kept : List Bool) (imports : LinkImports) : Type 0 where
  pub rows : imports.rows.items ≡ import_rows modules kept
  pub readable : AreReadable (import_rows modules kept)
  pub lengths : imports.shape.lengths ≡ import_sizes modules kept
  pub slots : imports.shape.slots.items ≡ import_slots modules kept
  pub offsets : (position : ℕ) → slice_index_or imports.offsets.items position 0 ≡ slot_offset modules kept position
