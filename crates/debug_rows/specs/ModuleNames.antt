-- The names of the modules of a link, as a PDB lists them (LLVM, "The PDB DBI (Debug Info) Stream", "Module Info Substream").
use Rattle.std.specs.Prelude.{ℕ, List, [], ◌∷◌, ◌++◌, map, Option, Some, None, codes}
use Rattle.module_view.specs.Module.{ModuleView}
use Rattle.pdb_dbi.specs.declared.rows.ModuleName.{ModuleName}

-- a member by its name and that of the library, an object by its name twice
abbrev pub name_in : List ℕ → Option (List ℕ) → ModuleName
name_in file (Some member) = record { name = member; file = file }
name_in file None = record { name = file; file = file }

abbrev pub module_name : ModuleView → ModuleName
module_name view = name_in view.file view.member

-- what the linker makes is in no file
abbrev pub linker_module : ModuleName
linker_module = record { name = codes "* Linker *"; file = [] }

abbrev pub module_names_of : List ModuleView → List ModuleName
module_names_of modules = map module_name modules ++ linker_module ∷ []
