-- The names that a link asks for, in their order (PE Format, "COFF Symbol Table" and "Weak Externals"; the order is own).
use Rattle.std.specs.Prelude.{ℕ, Bool, true, ◌++◌, List, map, filter_map, Option, Some, None}
use Rattle.directives.specs.Said.{Said}
use Rattle.directives.specs.Said as says
use Rattle.module_view.specs.ModuleDirectives.{module_directives}
use Rattle.module_view.specs.SymbolLists.{references_of}
use Rattle.module_view.specs.declared.reference.Reference.{Reference}
use Rattle.symbol_names.specs.Exports.{internal_name}
use Rattle.symbol_names.specs.LinkView.{LinkView}
use Rattle.symbol_names.specs.Lists.{of_all}

-- a name that is asked for, and whether libraries are searched for it
pub record Asked : Type 0 where
  pub name : List ℕ
  pub search : Bool

-- ---- what asks

-- a word of the command line, or a directive
abbrev pub asked_by_name : List ℕ → Asked
asked_by_name name = record { name = name; search = true }

abbrev pub asked_by_symbol : Reference → Asked
asked_by_symbol reference = record { name = reference.name; search = reference.search }

-- a directive asks for a name that it includes, or that stands behind an export (MSVC linker reference, "/INCLUDE", "/EXPORT")
abbrev pub name_said : Said → Option (List ℕ)
name_said (says.Include name) = Some name
name_said (says.Exports row) = internal_name row
name_said (says.AlignComm name log) = None
name_said (says.AlternateName left right) = None
name_said (says.DefaultLib text) = None
name_said (says.FailIfMismatch key value) = None
name_said (says.Merge left right) = None

-- the names that the directives of a module ask for
abbrev pub names_by : List ℕ → List (List ℕ)
names_by bytes = filter_map name_said (module_directives bytes)

-- a module asks by its symbols, then by its directives
abbrev pub asked_by : ℕ → List ℕ → List Asked
asked_by position bytes = map asked_by_symbol (references_of bytes) ++ map asked_by_name (names_by bytes)

-- the words come before the modules, and these come in their order
abbrev pub all_asked : LinkView → List Asked
all_asked link = map asked_by_name link.words ++ of_all asked_by link.modules
