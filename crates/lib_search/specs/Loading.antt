-- What joins in a link: its inputs, and the members that the search of libraries finds; and the entries of its resource files.
-- Own.
use Rattle.std.specs.Prelude.{◌≡◌, ℕ, zero, suc, true, List, [], Option, Some, None}
use Rattle.link_base.specs.declared.fault.Fault.{Fault}
use Rattle.link_files.specs.Store.{Store}
use Rattle.module_view.specs.Module.{ModuleView}
use Rattle.link_words.specs.Outcome.{LinkOptions}
use Rattle.res_merge.specs.Entries.{Entry}
use Rattle.file_search.specs.FileNames.{tried_names}
use Rattle.file_search.specs.FoundFiles.{FoundFile}
use Rattle.file_search.specs.InputFiles.{input_files, input_total, reading_fault}
use Rattle.file_search.specs.Reading.{Tries}
use Rattle.resource_files.specs.Held.{entries_among, merges_resources}
use Rattle.lib_search.specs.LinkOf.{link_of}
use Rattle.lib_search.specs.Inputs.{modules_among, libraries_among, opening_fault}
use Rattle.lib_search.specs.SearchSteps.{SearchState, Step, Ends, Faults, Goes, next_step, wants_library, next_default}

-- ---- the search

-- it begins with what the inputs are
abbrev pub inputs_state : LinkOptions → List FoundFile → ℕ → SearchState
inputs_state options files total = record {
  searched = record {
    link = link_of options (modules_among files);
    libraries = libraries_among files;
    merges = merges_resources files;
    joined = [];
  };
  total = total;
  defaults = 0;
}

abbrev pub first_state : Store → LinkOptions → SearchState
first_state store options = inputs_state options (input_files store options) (input_total store options)

abbrev pub state_in : Step → Option SearchState
state_in Ends = None
state_in (Faults fault) = None
state_in (Goes state) = Some state

abbrev pub state_after_one : Store → LinkOptions → Option SearchState → Option SearchState
state_after_one store options None = None
state_after_one store options (Some state) = state_in (next_step store options state)

-- where it stands after a number of steps, if it has come so far
unfoldable pub state_after : Store → LinkOptions → ℕ → Option SearchState
state_after store options zero = Some (first_state store options)
state_after store options (suc steps) = state_after_one store options (state_after store options steps)

-- it comes to a state
pub record Reaches (store : Store) (options : LinkOptions) (state : SearchState) : Type 0 where
  pub read : reading_fault store options ≡ None
  pub opened : opening_fault (input_files store options) ≡ None
  pub steps : ℕ
  pub is : state_after store options steps ≡ Some state

-- a step has a fault there
pub record FaultsAt (store : Store) (options : LinkOptions) (state : SearchState) (fault : Fault) : Type 0 where
  pub reached : Reaches store options state
  pub next : next_step store options state ≡ Faults fault

-- it ends there
pub record EndsAt (store : Store) (options : LinkOptions) (state : SearchState) : Type 0 where
  pub reached : Reaches store options state
  pub next : next_step store options state ≡ Ends

-- ---- the whole

-- why it does not come to its end: an input that is not read, one that does not open, or a step with a fault
pub data HasLoadingFault (store : Store) (options : LinkOptions) (fault : Fault) : Type 0 where
  AtRead : reading_fault store options ≡ Some fault → HasLoadingFault store options fault
  AtOpening : reading_fault store options ≡ None → opening_fault (input_files store options) ≡ Some fault → HasLoadingFault store options fault
  AtStep : (state : SearchState) → FaultsAt store options state fault → HasLoadingFault store options fault

-- these modules join, in this order, and these are the entries of the resource files
pub record Loads (store : Store) (options : LinkOptions) (modules : List ModuleView) (entries : List Entry) : Type 0 where
  pub state : SearchState
  pub ends : EndsAt store options state
  pub modules_are : modules ≡ state.searched.link.modules
  pub entries_are : entries ≡ entries_among (input_files store options)

-- ---- the names that are tried

-- a file is looked for under a name for the next default library of a state that the search comes to
pub record TriesDefault (store : Store) (options : LinkOptions) (name : List ℕ) : Type 0 where
  pub state : SearchState
  pub reached : Reaches store options state
  pub wants : wants_library options state ≡ true
  pub tries : Tries store (tried_names options.lib_paths (next_default options state)) name
