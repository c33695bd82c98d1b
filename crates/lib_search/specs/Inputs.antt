-- The inputs, opened in the order of the words: those that begin as a library are libraries, those that begin as a resource
-- file are resource files, the others are modules. The first that does not open, and the first module that is one too many, is
-- the fault. Own.
use Rattle.std.specs.Prelude.{ℕ, Bool, ◌||◌, not, if◌then◌else◌, List, length, map, filter, take, slice_index_or, Option, None}
use Rattle.std.specs.List.{list_any}
use Rattle.link_base.specs.Refusals.{first_refusal_below}
use Rattle.link_base.specs.declared.fault.Fault.{Fault}
use Rattle.lib_reader.specs.LibraryWalk.{has_magic}
use Rattle.module_view.specs.Module.{ModuleView}
use Rattle.module_view.specs.ImportModule.{file_view}
use Rattle.res_merge.specs.Entries.{Entry}
use Rattle.file_search.specs.FoundFiles.{FoundFile, no_file}
use Rattle.resource_files.specs.Held.{is_resource_file, entries_among, merges_resources, resource_fault}
use Rattle.par_read.specs.Joining.{brings_resources, joining_fault}
use Rattle.lib_search.specs.LibraryFaults.{no_library}

abbrev pub is_library : FoundFile → Bool
is_library found = has_magic found.bytes

abbrev pub is_module : FoundFile → Bool
is_module found = not (is_library found || is_resource_file found)

-- a file as a module
abbrev pub file_module : FoundFile → ModuleView
file_module found = file_view found.file None found.bytes

-- the modules and the libraries among files, in their order
abbrev pub modules_among : List FoundFile → List ModuleView
modules_among files = map file_module (filter is_module files)

abbrev pub libraries_among : List FoundFile → List FoundFile
libraries_among files = filter is_library files

-- why a file does not open, after these modules and these entries, where a resource file was opened before or not
abbrev pub file_fault : FoundFile → List ModuleView → List Entry → Bool → Option Fault
file_fault found modules entries merges =
    if is_library found then no_library found
    else (if is_resource_file found then resource_fault found (list_any brings_resources modules) entries else joining_fault found.file None found.bytes merges modules)

-- after the files before it
abbrev pub fault_after : FoundFile → List FoundFile → Option Fault
fault_after found before = file_fault found (modules_among before) (entries_among before) (merges_resources before)

abbrev pub opening_fault_at : List FoundFile → ℕ → Option Fault
opening_fault_at files k = fault_after (slice_index_or files k no_file) (take k files)

-- why the inputs do not all open
abbrev pub opening_fault : List FoundFile → Option Fault
opening_fault files = first_refusal_below (length files) (opening_fault_at files)
