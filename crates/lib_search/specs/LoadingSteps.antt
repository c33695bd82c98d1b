-- What the steps of a loading promise to one another.
use Rattle.std.specs.Prelude.{◌≡◌, ◌+◌, ◌≤◌, ℕ, List, length, Result, Ok, Err}
use Rattle.std.specs.Option.{ForSome}
use Rattle.link_base.specs.Limits.{MODULE_LIMIT}
use Rattle.link_base.specs.declared.fault.Fault.{Fault}
use Rattle.link_base.specs.declared.stop.Stop.{Stop}
use Rattle.link_base.specs.declared.stop.Stop.TheVariants as stop
use Rattle.link_files.specs.Outside.{FilesView, AreUntouched, ReadFailed}
use Rattle.module_view.specs.Module.{ModuleView}
use Rattle.link_words.specs.Outcome.{LinkOptions}
use Rattle.res_merge.specs.declared.resource.Resource.{Resource}
use Rattle.file_search.specs.FileNames.{tried_names}
use Rattle.file_search.specs.InputFiles.{input_files}
use Rattle.file_search.specs.DefaultLibraries.{default_names}
use Rattle.file_search.specs.DefaultSteps.{KeepsDefaults}
use Rattle.file_search.specs.Reading.{LeavesFiles, Tries}
use Rattle.resource_files.specs.Held.{entries_among}
use Rattle.lib_search.specs.declared.link_list.LinkList.{LinkList}
use Rattle.lib_search.specs.declared.loading.Loading.{Loading}
use Rattle.lib_search.specs.LinkOf.{link_of}
use Rattle.lib_search.specs.SearchSteps.{SearchState, Faults, Goes, next_step, next_default}
use Rattle.lib_search.specs.AlternateParts.{KeepsSearch}
use Rattle.lib_search.specs.Loading.{Reaches, HasLoadingFault, Loads, TriesDefault}

-- where a loading stands, after as many bytes
abbrev pub state_now : Loading → ℕ → SearchState
state_now loading total = record { searched = loading.search.searched; total = total; defaults = loading.read }

abbrev pub modules_now : Loading → List ModuleView
modules_now loading = loading.search.searched.link.modules

-- it has the names of its modules, and the default libraries that these name
pub record KeepsLoading (options : LinkOptions) (loading : Loading) : Type 0 where
  pub search : KeepsSearch loading.search
  pub link_is : loading.search.searched.link ≡ link_of options (modules_now loading)
  pub few : length (modules_now loading) ≤ MODULE_LIMIT
  pub defaults : KeepsDefaults options (default_names options (modules_now loading)) loading.defaults

-- ---- a default library is read

-- the next step leads on
pub record ReadsNext (options : LinkOptions) (state : SearchState) (after_total : ℕ) (before after : FilesView) (loading : Loading) : Type 0 where
  pub files : AreUntouched before after
  pub kept : KeepsLoading options loading
  pub link_kept : loading.search.searched.link ≡ state.searched.link
  pub one_more : loading.read ≡ state.defaults + 1
  pub told : ForSome before.store (λ store. next_step store options state ≡ Goes (state_now loading after_total))

pub record FaultsNext (options : LinkOptions) (state : SearchState) (before after : FilesView) (fault : Fault) : Type 0 where
  pub files : AreUntouched before after
  pub told : ForSome before.store (λ store. next_step store options state ≡ Faults fault)

pub record FailsNext (options : LinkOptions) (state : SearchState) (before after : FilesView) (name : List ℕ) : Type 0 where
  pub files : ReadFailed before after
  pub told : ForSome before.store (λ store. Tries store (tried_names options.lib_paths (next_default options state)) name)

abbrev pub ReadsDefault : LinkOptions → SearchState → ℕ → FilesView → FilesView → Result Loading Stop → Type 0
ReadsDefault options state after_total before after (Ok loading) = ReadsNext options state after_total before after loading
ReadsDefault options state after_total before after (Err (stop.Fault fault)) = FaultsNext options state before after fault
ReadsDefault options state after_total before after (Err (stop.Read name)) = FailsNext options state before after name
ReadsDefault options state after_total before after (Err stop.Memory) = LeavesFiles before after

-- ---- from a state that is reached on

pub record FaultsFrom (options : LinkOptions) (state : SearchState) (before after : FilesView) (fault : Fault) : Type 0 where
  pub files : AreUntouched before after
  pub told : ForSome before.store (λ store. Reaches store options state → HasLoadingFault store options fault)

pub record FailsFrom (options : LinkOptions) (state : SearchState) (before after : FilesView) (name : List ℕ) : Type 0 where
  pub files : ReadFailed before after
  pub told : ForSome before.store (λ store. Reaches store options state → TriesDefault store options name)

-- the modules that join, beside these resources
pub record GivesFrom (options : LinkOptions) (state : SearchState) (resources : List Resource) (before after : FilesView) (list : LinkList) : Type 0 where
  pub files : AreUntouched before after
  pub few : length list.modules.items ≤ MODULE_LIMIT
  pub names_are : list.table ≡ link_of options list.modules.items
  pub resources_are : list.resources.items ≡ resources
  pub told : ForSome before.store (λ store. Reaches store options state → Loads store options list.modules.items (entries_among (input_files store options)))

abbrev pub CompletesFrom : LinkOptions → SearchState → List Resource → FilesView → FilesView → Result LinkList Stop → Type 0
CompletesFrom options state resources before after (Ok list) = GivesFrom options state resources before after list
CompletesFrom options state resources before after (Err (stop.Fault fault)) = FaultsFrom options state before after fault
CompletesFrom options state resources before after (Err (stop.Read name)) = FailsFrom options state before after name
CompletesFrom options state resources before after (Err stop.Memory) = LeavesFiles before after
