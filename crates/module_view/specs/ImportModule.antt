-- Short imports as modules. One goes as an object of nothing, which has no sections, no symbols and no directives; what it defines
-- goes by its symbol and its kind (PE Format, "Import Library Format" with "Import Type"; the object of nothing is own).
use Rattle.std.specs.Prelude.{ℕ, Bool, if◌then◌else◌, List, [], ◌∷◌, ◌++◌, Option, Some, None}
use Rattle.link_base.specs.NameText.{begins, import_prefix}
use Rattle.short_import.specs.declared.import.Import.{Import}
use Rattle.short_import.specs.declared.import.ImportKind.{ImportKind}
use Rattle.short_import.specs.declared.import.ImportKind.TheVariants as kind
use Rattle.short_import.specs.ShortImport.{symbol_of, dll_of, import_kind, import_by}
use Rattle.module_view.specs.declared.definition.Definition.{Definition}
use Rattle.module_view.specs.declared.definition.Place.TheVariants as place
use Rattle.module_view.specs.Module.{ModuleView}
use Rattle.module_view.specs.SymbolLists.{definitions_of}

-- ---- its bytes

-- no machine, 0xFFFF, and version 0 (PE Format, "Import Header")
abbrev pub short_import_start : List ℕ
short_import_start = 0 ∷ 0 ∷ 0xFF ∷ 0xFF ∷ 0 ∷ 0 ∷ []

abbrev pub is_short_import : List ℕ → Bool
is_short_import bytes = begins bytes short_import_start

-- the machine, and a header that counts no sections and no symbols
unfoldable pub no_object : List ℕ
no_object =
    0x64 ∷ 0x86 ∷ 0 ∷ 0 ∷ 0 ∷ 0 ∷ 0 ∷ 0 ∷ 0 ∷ 0 ∷ 0 ∷ 0 ∷ 0 ∷ 0 ∷ 0 ∷ 0 ∷ 0 ∷ 0 ∷ 0 ∷ 0 ∷ []

-- the object that a file or a member holds
abbrev pub object_bytes : List ℕ → List ℕ
object_bytes bytes = if is_short_import bytes then no_object else bytes

-- the fields of a short import
abbrev pub import_in : List ℕ → Import
import_in bytes =
    record { symbol = symbol_of bytes; dll = dll_of bytes; kind = import_kind bytes; by = import_by bytes }

-- those of the short import that a file or a member holds, where it holds one
abbrev pub imported_in : List ℕ → Option Import
imported_in bytes = if is_short_import bytes then Some (import_in bytes) else None

-- a file, or a member of one, as a module
abbrev pub file_view : List ℕ → Option (List ℕ) → List ℕ → ModuleView
file_view file member bytes =
    record { file = file; member = member; bytes = object_bytes bytes; imported = imported_in bytes }

-- ---- what it defines

-- the entry of the import address table, under the symbol after the import prefix
abbrev pub entry_definition : List ℕ → Definition
entry_definition symbol = record { name = import_prefix ++ symbol; symbol = 0; place = place.Slot }

-- the symbol itself: of code a jump through the entry, of a constant the entry, and of data nothing
abbrev pub symbol_definitions : ImportKind → List ℕ → List Definition
symbol_definitions kind.Code symbol = record { name = symbol; symbol = 1; place = place.Thunk } ∷ []
symbol_definitions kind.Data symbol = []
symbol_definitions kind.Const symbol = record { name = symbol; symbol = 1; place = place.Slot } ∷ []

unfoldable pub import_definitions : Import → List Definition
import_definitions import = entry_definition import.symbol ∷ symbol_definitions import.kind import.symbol

-- ---- what a module defines

abbrev pub definitions_with : List ℕ → Option Import → List Definition
definitions_with bytes None = definitions_of bytes
definitions_with bytes (Some import) = import_definitions import

-- those of the symbols of an object, or those of a short import
abbrev pub module_definitions : ModuleView → List Definition
module_definitions view = definitions_with view.bytes view.imported
