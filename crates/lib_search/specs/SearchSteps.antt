-- The search of libraries, step by step. A name that is open is looked for in the libraries in their order, and the member that
-- the first one lists for it joins (MSVC linker reference, "LINK input files"; the order of the steps is own).
use Rattle.std.specs.Prelude.{ℕ, ◌+◌, Bool, ◌&&◌, not, ◌==◌, nat_lt, if◌then◌else◌, List, [], ◌∷◌, ◌++◌, length, map, slice_index_or, Option, Some, None, option_map, option_and_then, unwrap_or}
use Rattle.std.specs.List.{list_any}
use Rattle.std.specs.Option.{option_or}
use Rattle.link_base.specs.Refusals.{first_standing, first_refusal_below}
use Rattle.link_base.specs.declared.fault.Fault.{Fault}
use Rattle.link_files.specs.Store.{Store}
use Rattle.lib_reader.specs.ArchiveMember.{name_text, data_of}
use Rattle.lib_reader.specs.MemberName.{member_name}
use Rattle.lib_reader.specs.MemberFault.{member_fault}
use Rattle.lib_reader.specs.Listing.{first_of_name}
use Rattle.lib_reader.specs.LibraryWalk.{listing_of, long_names_of}
use Rattle.module_view.specs.Module.{ModuleView}
use Rattle.module_view.specs.ImportModule.{file_view}
use Rattle.symbol_names.specs.LinkView.{LinkView}
use Rattle.symbol_names.specs.Alternates.{all_alternates}
use Rattle.symbol_names.specs.References.{all_asked}
use Rattle.symbol_table.specs.OpenNames.{asked_at, is_open_at, is_open_name, is_provided}
use Rattle.link_words.specs.Outcome.{LinkOptions}
use Rattle.file_search.specs.FoundFiles.{FoundFile, no_file, read_fault}
use Rattle.file_search.specs.InputFiles.{text_at, input_file}
use Rattle.file_search.specs.DefaultLibraries.{default_libraries}
use Rattle.par_read.specs.Joining.{joining_fault}
use Rattle.lib_search.specs.LibraryFaults.{bad_library, no_library}

-- a member of a library, by the library's place among all of them and the offset of the member's header
abbrev pub MemberPlace : Type 0
MemberPlace = ℕ × ℕ

-- what has joined, and where is searched
pub record Searched : Type 0 where
  -- the names that are asked for, and the modules
  pub link : LinkView
  pub libraries : List FoundFile
  -- a resource file was opened
  pub merges : Bool
  -- the members that have joined
  pub joined : List MemberPlace

-- what has joined and what was read so far
pub record SearchState : Type 0 where
  pub searched : Searched
  -- how many bytes were read
  pub total : ℕ
  -- how many of the default libraries were read
  pub defaults : ℕ

-- ---- listed names

abbrev pub library_at : List FoundFile → ℕ → FoundFile
library_at libraries k = slice_index_or libraries k no_file

abbrev pub place_in : ℕ → ℕ → MemberPlace
place_in k at = (k, at)

abbrev pub listing_at : List FoundFile → List ℕ → ℕ → Option MemberPlace
listing_at libraries name k = option_map (place_in k) (first_of_name name (listing_of (library_at libraries k).bytes))

-- the member that the first library that lists a name lists for it
unfoldable pub first_listing : List FoundFile → List ℕ → Option MemberPlace
first_listing libraries name = first_refusal_below (length libraries) (listing_at libraries name)

abbrev pub is_place : MemberPlace → MemberPlace → Bool
is_place place other = (place.0 == other.0) && (place.1 == other.1)

abbrev pub unless_joined : List MemberPlace → MemberPlace → Option MemberPlace
unless_joined joined place = if list_any (is_place place) joined then None else Some place

-- where it has not joined
abbrev pub listed_member : Searched → List ℕ → Option MemberPlace
listed_member searched name = option_and_then (unless_joined searched.joined) (first_listing searched.libraries name)

-- ---- the member that joins next

abbrev pub asked_member : Searched → ℕ → Option MemberPlace
asked_member searched k =
    if is_open_at searched.link k then listed_member searched (asked_at searched.link k).name else None

-- that of the first open reference whose name is listed
unfoldable pub member_by_reference : Searched → Option MemberPlace
member_by_reference searched = first_refusal_below (length (all_asked searched.link)) (asked_member searched)

-- an alternate stands for an open name, and nothing provides the other name
abbrev pub stands_in : LinkView → List ℕ × List ℕ → Bool
stands_in link pair = is_open_name link pair.0 && not (is_provided link.modules pair.1)

abbrev pub alternate_member : Searched → List ℕ × List ℕ → Option MemberPlace
alternate_member searched pair = if stands_in searched.link pair then listed_member searched pair.1 else None

-- that of the first such alternate whose other name is listed
unfoldable pub member_by_alternate : Searched → Option MemberPlace
member_by_alternate searched = first_standing (map (alternate_member searched) (all_alternates searched.link))

-- references come before alternates
abbrev pub next_member : Searched → Option MemberPlace
next_member searched = option_or (member_by_reference searched) (member_by_alternate searched)

-- ---- a step

pub data Step : Type 0 where
  -- nothing is left to join
  Ends : Step
  -- it has a fault
  Faults : Fault → Step
  -- it leads on
  Goes : SearchState → Step

abbrev pub goes_unless : Option Fault → SearchState → Step
goes_unless (Some fault) state = Faults fault
goes_unless None state = Goes state

-- ---- a member joins

abbrev pub name_of_member : FoundFile → ℕ → List ℕ
name_of_member library at = member_name (long_names_of library.bytes) (name_text library.bytes at)

abbrev pub member_view : FoundFile → ℕ → ModuleView
member_view library at = file_view library.file (Some (name_of_member library at)) (data_of library.bytes at)

-- the library is at fault where the member's header is bad; that the member is not named then is own
abbrev pub header_fault : FoundFile → ℕ → Option Fault
header_fault library at =
    option_map (bad_library library.file) (member_fault (long_names_of library.bytes) library.bytes at)

abbrev pub member_fault_in : FoundFile → ℕ → Bool → List ModuleView → Option Fault
member_fault_in library at merges modules =
    option_or (header_fault library at)
    (joining_fault library.file (Some (name_of_member library at)) (data_of library.bytes at) merges modules)

abbrev pub member_at : Searched → MemberPlace → ModuleView
member_at searched place = member_view (library_at searched.libraries place.0) place.1

abbrev pub join_fault : Searched → MemberPlace → Option Fault
join_fault searched place =
    member_fault_in (library_at searched.libraries place.0) place.1 searched.merges searched.link.modules

abbrev pub with_module : LinkView → ModuleView → LinkView
with_module link view = record link { modules = link.modules ++ view ∷ [] }

abbrev pub with_member : Searched → MemberPlace → Searched
with_member searched place = record searched {
  link = with_module searched.link (member_at searched place);
  joined = searched.joined ++ place ∷ [];
}

abbrev pub join_step : SearchState → Option MemberPlace → Step
join_step state None = Ends
join_step state (Some place) =
    goes_unless (join_fault state.searched place) (record state { searched = with_member state.searched place })

-- ---- a default library is read

abbrev pub with_library : Searched → FoundFile → Searched
with_library searched found = record searched { libraries = searched.libraries ++ found ∷ [] }

abbrev pub after_default : SearchState → FoundFile → SearchState
after_default state found = record {
  searched = with_library state.searched found;
  total = state.total + length found.bytes;
  defaults = state.defaults + 1;
}

-- it is not there or too large, or it is no library
abbrev pub default_fault : List ℕ → ℕ → Option FoundFile → Option Fault
default_fault name total found = option_or (read_fault name total found) (no_library (unwrap_or found no_file))

abbrev pub default_step_as : List ℕ → SearchState → Option FoundFile → Step
default_step_as name state found =
    goes_unless (default_fault name state.total found) (after_default state (unwrap_or found no_file))

abbrev pub default_step : Store → LinkOptions → List ℕ → SearchState → Step
default_step store options name state = default_step_as name state (input_file store options.lib_paths name)

-- ---- the next step

abbrev pub wants_library : LinkOptions → SearchState → Bool
wants_library options state = nat_lt state.defaults (length (default_libraries options state.searched.link.modules))

abbrev pub next_default : LinkOptions → SearchState → List ℕ
next_default options state = text_at (default_libraries options state.searched.link.modules) state.defaults

-- default libraries are read before the search goes on
unfoldable pub next_step : Store → LinkOptions → SearchState → Step
next_step store options state =
    if wants_library options state then default_step store options (next_default options state) state
    else join_step state (next_member state.searched)
