-- What the search of libraries promises, by the result. Own.
use Rattle.std.specs.Prelude.{◌≡◌, ◌≤◌, ◌⊎◌, ℕ, List, length, map, Result, Ok, Err}
use Rattle.std.specs.Option.{ForSome}
use Rattle.link_base.specs.Limits.{MODULE_LIMIT}
use Rattle.link_base.specs.declared.fault.Fault.{Fault}
use Rattle.link_base.specs.declared.stop.Stop.{Stop}
use Rattle.link_base.specs.declared.stop.Stop.TheVariants as stop
use Rattle.link_files.specs.Outside.{FilesView, AreUntouched, ReadFailed}
use Rattle.link_words.specs.Outcome.{LinkOptions}
use Rattle.file_search.specs.Reading.{LeavesFiles, TriesInput}
use Rattle.res_merge.specs.Entries.{entry_of}
use Rattle.res_merge.specs.Order.{AreMergeable}
use Rattle.res_merge.specs.Found.{AreNumbered}
use Rattle.resource_files.specs.SaidFaults.{fault_said}
use Rattle.lib_search.specs.declared.link_list.LinkList.{LinkList}
use Rattle.lib_search.specs.LinkOf.{link_of}
use Rattle.lib_search.specs.Loading.{HasLoadingFault, Loads, TriesDefault}

-- the modules and their names, and resources that a tree can hold; where the store is told, these modules join, and these are
-- the entries of the resource files
pub record GivesList (options : LinkOptions) (before after : FilesView) (list : LinkList) : Type 0 where
  pub files : AreUntouched before after
  pub few : length list.modules.items ≤ MODULE_LIMIT
  pub names_are : list.table ≡ link_of options list.modules.items
  pub mergeable : AreMergeable (map entry_of list.resources.items)
  pub numbered : AreNumbered (map entry_of list.resources.items)
  pub told : ForSome before.store (λ store. Loads store options list.modules.items (map entry_of list.resources.items))

-- the loading has the fault, by what it says
pub record FaultsLoading (options : LinkOptions) (before after : FilesView) (fault : Fault) : Type 0 where
  pub files : AreUntouched before after
  pub told : ForSome before.store (λ store. HasLoadingFault store options (fault_said fault))

-- the read of a file that is looked for failed
pub record FailsLoading (options : LinkOptions) (before after : FilesView) (name : List ℕ) : Type 0 where
  pub files : ReadFailed before after
  pub told : ForSome before.store (λ store. TriesInput store options name ⊎ TriesDefault store options name)

abbrev pub Completes : LinkOptions → FilesView → FilesView → Result LinkList Stop → Type 0
Completes options before after (Ok list) = GivesList options before after list
Completes options before after (Err (stop.Fault fault)) = FaultsLoading options before after fault
Completes options before after (Err (stop.Read name)) = FailsLoading options before after name
Completes options before after (Err stop.Memory) = LeavesFiles before after
