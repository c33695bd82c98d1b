-- Why a file is no library. Own.
use Rattle.std.specs.Prelude.{List, ℕ, Option, None, option_map}
use Rattle.link_base.specs.declared.fault.Fault.{Fault}
use Rattle.link_base.specs.declared.fault.Fault.TheVariants.{BadLibrary}
use Rattle.lib_reader.specs.declared.error.LibError.{LibError}
use Rattle.lib_reader.specs.LibraryWalk.{library_fault}
use Rattle.file_search.specs.FoundFiles.{FoundFile}

-- what is wrong with a library, with its file
abbrev pub bad_library : List ℕ → LibError → Fault
bad_library file error = BadLibrary file None error.kind error.at

-- why a file is no library
abbrev pub no_library : FoundFile → Option Fault
no_library found = option_map (bad_library found.file) (library_fault found.bytes)
