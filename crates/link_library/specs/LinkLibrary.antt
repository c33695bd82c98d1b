-- The import library of a link: which exports it lists, and how the loader finds each (PE Format, "Import Library Format"; MSVC
-- linker reference, "/EXPORT"; the order of the exports and their hints are own).
use Rattle.std.specs.Prelude.{ℕ, Bool, not, nat_lt, if◌then◌else◌, List, [], ◌∷◌, length, map, slice_index, Option, Some, None, is_some}
use Rattle.std.specs.List.{filter}
use Rattle.link_base.specs.Limits.{FILE_LIMIT}
use Rattle.link_base.specs.declared.fault.Fault.{Fault}
use Rattle.link_base.specs.declared.fault.Fault.TheVariants.{ImplibTooLarge}
use Rattle.directives.specs.declared.item.Export.{Export}
use Rattle.directives.specs.declared.item.ExportForm.{ExportForm}
use Rattle.directives.specs.declared.item.ExportForm.TheVariants as form
use Rattle.short_import.specs.declared.import.ImportBy.{ImportBy}
use Rattle.short_import.specs.declared.import.ImportBy.TheVariants.{Ordinal, Named}
use Rattle.short_import.specs.declared.import.ImportKind.{ImportKind}
use Rattle.short_import.specs.declared.import.ImportKind.TheVariants as kind
use Rattle.export_tables.specs.Ordinals.{row_at}
use Rattle.export_tables.specs.Hints.{hint_of}
use Rattle.export_tables.specs.NameOrder.{name_order}
use Rattle.implib.specs.declared.row.LibraryRow.{LibraryRow}
use Rattle.implib.specs.ImportLibrary.{library_of}
use Rattle.link_words.specs.Outcome.{LinkOptions}
use Rattle.link_exports.specs.Exports.{ExportsView}

-- ---- its rows

abbrev pub kind_of : ExportForm → ImportKind
kind_of form.Code = kind.Code
kind_of form.Data = kind.Data
kind_of form.Const = kind.Const

-- what the table does not name is found by its ordinal
abbrev pub by_of : Export → ℕ → ℕ → ImportBy
by_of row ordinal hint = if row.noname then Ordinal ordinal else Named hint row.name

abbrev pub library_row : Export → ℕ → ℕ → LibraryRow
library_row row ordinal hint = record { symbol = row.name; kind = kind_of row.form; by = by_of row ordinal hint }

-- that of the export of an index
abbrev pub row_of : ExportsView → ℕ → LibraryRow
row_of exports index =
    library_row (row_at exports.rows index) (slice_index exports.ordinals index) (hint_of exports.rows (row_at exports.rows index))

abbrev pub is_listed : List Export → ℕ → Bool
is_listed rows index = not (row_at rows index).private

-- the exports that are not private, by the bytes of their names
unfoldable pub library_rows : ExportsView → List LibraryRow
library_rows exports = map (row_of exports) (filter (is_listed exports.rows) (name_order exports.rows))

-- ---- the file

-- without a row there is none
abbrev pub library_if : List LibraryRow → List ℕ → ℕ → Option (List ℕ)
library_if [] dll time = None
library_if (row ∷ rows) dll time = Some (library_of (row ∷ rows) dll time)

abbrev pub library_with : ExportsView → Option (List ℕ)
library_with exports = library_if (library_rows exports) exports.dll exports.time

-- or where none is asked for
unfoldable pub asked_library : LinkOptions → ExportsView → Option (List ℕ)
asked_library options exports = if is_some options.implib then library_with exports else None

abbrev pub size_fault : Option (List ℕ) → Option Fault
size_fault None = None
size_fault (Some bytes) = if nat_lt FILE_LIMIT (length bytes) then Some (ImplibTooLarge (length bytes)) else None

-- one larger than a file that links read is none
unfoldable pub library_fault : LinkOptions → ExportsView → Option Fault
library_fault options exports = size_fault (asked_library options exports)
