-- The libraries that are searched without being inputs: the command line and the directives of modules name them (MSVC linker
-- reference, "/DEFAULTLIB" and "/NODEFAULTLIB"; which of them is passed over is own).
use Rattle.std.specs.Prelude.{ℕ, Bool, ◌||◌, if◌then◌else◌, List, [], ◌++◌, length, map, take, filter_map, slice_index_or, Option, Some, None}
use Rattle.std.specs.List.{list_any, range_with_len}
use Rattle.std.specs.Str.{str_eq_ignore_ascii_case}
use Rattle.directives.specs.Said.{Said}
use Rattle.directives.specs.Said as says
use Rattle.module_view.specs.Module.{ModuleView}
use Rattle.module_view.specs.ModuleDirectives.{module_directives}
use Rattle.symbol_names.specs.Lists.{of_all}
use Rattle.link_words.specs.Outcome.{LinkOptions}
use Rattle.file_search.specs.FileNames.{completed}

abbrev pub default_said : Said → Option (List ℕ)
default_said (says.DefaultLib text) = Some text
default_said (says.AlignComm name log) = None
default_said (says.AlternateName left right) = None
default_said (says.Exports row) = None
default_said (says.FailIfMismatch key value) = None
default_said (says.Include name) = None
default_said (says.Merge left right) = None

abbrev pub defaults_by : ℕ → List ℕ → List (List ℕ)
defaults_by position bytes = filter_map default_said (module_directives bytes)

-- the names of default libraries: those of the command line, then those of the modules in their order
abbrev pub default_names : LinkOptions → List ModuleView → List (List ℕ)
default_names options modules = map completed (options.default_libs ++ of_all defaults_by modules)

-- names for which no default library is searched: the inputs, as they are given, and those that the command line rules out
abbrev pub ruled_out : LinkOptions → List (List ℕ)
ruled_out options = options.inputs ++ map completed options.no_default

-- one of these is the name, in either case of ASCII letters
abbrev pub is_among_names : List (List ℕ) → List ℕ → Bool
is_among_names names name = list_any (str_eq_ignore_ascii_case name) names

-- a name is passed over where it is ruled out, where an earlier one is the same, and where all are ruled out
abbrev pub is_passed_over : LinkOptions → List (List ℕ) → List ℕ → Bool
is_passed_over options earlier name = options.no_default_all || is_among_names (ruled_out options ++ earlier) name

abbrev pub wanted_after : LinkOptions → List (List ℕ) → List ℕ → Option (List ℕ)
wanted_after options earlier name = if is_passed_over options earlier name then None else Some name

abbrev pub wanted_at : LinkOptions → List (List ℕ) → ℕ → Option (List ℕ)
wanted_at options names k = wanted_after options (take k names) (slice_index_or names k [])

-- those of a list of names that are not passed over
abbrev pub wanted_names : LinkOptions → List (List ℕ) → List (List ℕ)
wanted_names options names = filter_map (wanted_at options names) (range_with_len 0 (length names))

-- the default libraries that are searched
abbrev pub default_libraries : LinkOptions → List ModuleView → List (List ℕ)
default_libraries options modules = wanted_names options (default_names options modules)
