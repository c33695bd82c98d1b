-- The exports of a link, with their ordinals, and the size of the table that names them (MSVC linker reference, "/EXPORT"; which
-- exports count once, and the DLL's name, are own).
use Rattle.std.specs.Prelude.{◌≡◌, ◌≤◌, ◌<◌, ℕ, Bool, ◌&&◌, nat_eq, if◌then◌else◌, List, [], ◌∷◌, ◌++◌, length, map, fold, filter_map, Option, Some, None, is_some}
use Rattle.std.specs.List.{All, after_last, list_any}
use Rattle.std.specs.Bool.{beq}
use Rattle.std.specs.Option.{option_eq}
use Rattle.link_base.specs.Limits.{NAME_LIMIT}
use Rattle.link_base.specs.NameText.{same_name}
use Rattle.link_base.specs.declared.fault.Fault.{Fault}
use Rattle.link_base.specs.declared.kinds.export.ExportFault.{ExportFault}
use Rattle.link_base.specs.declared.fault.Fault.TheVariants as faults
use Rattle.directives.specs.Said.{Said}
use Rattle.directives.specs.Said as says
use Rattle.directives.specs.declared.item.Export.{Export}
use Rattle.module_view.specs.Module.{ModuleView}
use Rattle.link_directives.specs.LinkDirectives.{all_directives}
use Rattle.link_words.specs.Outcome.{LinkOptions}
use Rattle.link_words.specs.Extension.{is_slash}
use Rattle.symbol_names.specs.Exports.{forwarder}
use Rattle.export_tables.specs.declared.error.ExportError.{ExportError}
use Rattle.export_tables.specs.declared.error.ExportError.TheVariants as error
use Rattle.export_tables.specs.declared.row.ExportRow.{ExportRow}
use Rattle.export_tables.specs.declared.row.ExportTo.{ExportTo}
use Rattle.export_tables.specs.declared.row.ExportTo.TheVariants.{Rva, Forward}
use Rattle.export_tables.specs.ExportTable.{DLL_LIMIT, AreNumbered, table_size}
use Rattle.export_tables.specs.ReadBack.{HasNoNul}
use Rattle.export_tables.specs.Ordinals.{row_at, ordinals_of, ordinal_fault}

-- ---- what is exported

abbrev pub export_said : Said → Option Export
export_said (says.Exports row) = Some row
export_said (says.AlignComm name log) = None
export_said (says.AlternateName left right) = None
export_said (says.DefaultLib text) = None
export_said (says.FailIfMismatch key value) = None
export_said (says.Include name) = None
export_said (says.Merge left right) = None

-- those that are given, then those of the modules in their order
abbrev pub all_exports : List Export → List ModuleView → List Export
all_exports given modules = given ++ filter_map export_said (all_directives modules)

-- two exports agree in all they say
abbrev pub agrees : Export → Export → Bool
agrees row other =
    ((same_name row.name other.name && option_eq same_name row.internal other.internal) && option_eq nat_eq row.ordinal other.ordinal)
    && beq row.noname other.noname

-- with one more behind the others, unless one of these says the same
abbrev pub with_row : List Export → Export → List Export
with_row rows row = if list_any (agrees row) rows then rows else rows ++ row ∷ []

-- the exports of a link, each once, in the order in which they first stand
unfoldable pub export_rows : LinkOptions → List ModuleView → List Export
export_rows options modules = fold with_row [] (all_exports options.exports modules)

-- ---- their ordinals

-- what is wrong, and with the export of which name
abbrev pub bad_export : ExportFault × List ℕ → Fault
bad_export refused = faults.BadExport refused.0 refused.1

abbrev pub refused_row : List Export → ExportError → Option Fault
refused_row rows (error.Bad row kind) = Some (bad_export (kind, (row_at rows row).name))
refused_row rows error.Memory = None

abbrev pub refused_rows : List Export → Option ExportError → Option Fault
refused_rows rows None = None
refused_rows rows (Some told) = refused_row rows told

-- the first that is wrong with the ordinals of exports
unfoldable pub numbers_fault : List Export → Option Fault
numbers_fault rows = refused_rows rows (ordinal_fault rows)

-- the ordinals; none where something is wrong with them
unfoldable pub numbers_of : List Export → List ℕ
numbers_of rows = if is_some (ordinal_fault rows) then [] else ordinals_of rows

-- ---- the size of their table

-- what is exported: what stands at an RVA, or what another image exports
abbrev pub export_to : Option (List ℕ) → ℕ → ExportTo
export_to None rva = Rva rva
export_to (Some text) rva = Forward text

-- an export as a row of the table
abbrev pub table_row : Export → ℕ → ExportRow
table_row row rva = record { name = row.name; ordinal = row.ordinal; noname = row.noname; what = export_to (forwarder row) rva }

-- without a place
abbrev pub unplaced_row : Export → ExportRow
unplaced_row listed = table_row listed 0

-- the DLL has the name of the image's file, behind the last slash
abbrev pub dll_name : List ℕ → List ℕ
dll_name out = after_last is_slash out

-- without exports there is no table
abbrev pub size_of : List Export → List ℕ → List ℕ → ℕ
size_of [] ordinals dll = 0
size_of (row ∷ rows) ordinals dll = table_size (map unplaced_row (row ∷ rows)) ordinals dll

unfoldable pub size_if : List Export → List ℕ → ℕ
size_if rows dll = if is_some (ordinal_fault rows) then 0 else size_of rows (numbers_of rows) dll

-- ---- all of them

-- the exports of a link, the ordinal of each, what is wrong with these, the DLL's name, the size of the table and its time
pub record ExportsView : Type 0 where
  pub rows : List Export
  pub ordinals : List ℕ
  pub fault : Option Fault
  pub dll : List ℕ
  pub size : ℕ
  pub time : ℕ

abbrev pub exports_from : List Export → List ℕ → ℕ → ExportsView
exports_from rows dll time = record { rows = rows; ordinals = numbers_of rows; fault = numbers_fault rows; dll = dll; size = size_if rows dll; time = time }

abbrev pub exports_of : LinkOptions → List ModuleView → ExportsView
exports_of options modules = exports_from (export_rows options modules) (dll_name options.out) options.time

-- ---- what is known of them

abbrev pub text_of : Option (List ℕ) → List ℕ
text_of None = []
text_of (Some text) = text

-- a name and a forwarder that can stand in a table and be read there
pub record CanBeTold (row : Export) : Type 0 where
  pub some : 0 < length row.name
  pub short_name : length row.name ≤ NAME_LIMIT
  pub short_forwarder : length (text_of (forwarder row)) ≤ NAME_LIMIT
  pub plain_name : HasNoNul row.name
  pub plain_forwarder : HasNoNul (text_of (forwarder row))

-- exports that a table can name
pub record AreTold (exports : ExportsView) : Type 0 where
  pub rows : All CanBeTold exports.rows
  pub dll : length exports.dll ≤ DLL_LIMIT
  pub numbered : exports.fault ≡ None → AreNumbered (map unplaced_row exports.rows) exports.ordinals
