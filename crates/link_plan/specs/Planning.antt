-- What planning a link promises, by the result. Own.
use Rattle.std.specs.Prelude.{◌≡◌, ◌⊎◌, List, Result, Ok, Err, Some}
use Rattle.std.specs.Option.{ForSome}
use Rattle.link_base.specs.declared.fault.Fault.{Fault}
use Rattle.link_base.specs.declared.stop.Stop.{Stop}
use Rattle.link_base.specs.declared.stop.Stop.TheVariants as stop
use Rattle.link_files.specs.Store.{Store}
use Rattle.link_files.specs.Outside.{FilesView, AreUntouched}
use Rattle.module_view.specs.Module.{ModuleView}
use Rattle.link_words.specs.Outcome.{LinkOptions}
use Rattle.res_merge.specs.Entries.{Entry}
use Rattle.file_search.specs.Reading.{LeavesFiles}
use Rattle.lib_search.specs.Loading.{HasLoadingFault, Loads}
use Rattle.resource_files.specs.SaidFaults.{fault_said}
use Rattle.lib_search.specs.Completion.{FailsLoading}
use Rattle.link_plan.specs.declared.planning.LinkPlan.{LinkPlan}
use Rattle.link_plan.specs.PlanFaults.{plan_fault}
use Rattle.link_plan.specs.Plan.{link_parts, plan_resources, IsPlanOf}

-- the plan of its modules and resources; where the store is told, these are what loads
pub record GivesPlan (options : LinkOptions) (before after : FilesView) (plan : LinkPlan) : Type 0 where
  pub files : AreUntouched before after
  pub planned : IsPlanOf options plan.modules.items plan
  pub told : ForSome before.store (λ store. Loads store options plan.modules.items (plan_resources plan))

-- modules that join, and that have a fault of the stages from mismatch to fields
pub record JoinsBadly (store : Store) (options : LinkOptions) (fault : Fault) : Type 0 where
  pub modules : List ModuleView
  pub resources : List Entry
  pub joined : Loads store options modules resources
  pub is : plan_fault options (link_parts options modules resources) ≡ Some fault

-- the loading has the fault, by what it says, or the modules have that join
pub record FaultsPlan (options : LinkOptions) (before after : FilesView) (fault : Fault) : Type 0 where
  pub files : AreUntouched before after
  pub told : ForSome before.store (λ store. HasLoadingFault store options (fault_said fault) ⊎ JoinsBadly store options fault)

abbrev pub Plans : LinkOptions → FilesView → FilesView → Result LinkPlan Stop → Type 0
Plans options before after (Ok plan) = GivesPlan options before after plan
Plans options before after (Err (stop.Fault fault)) = FaultsPlan options before after fault
Plans options before after (Err (stop.Read name)) = FailsLoading options before after name
Plans options before after (Err stop.Memory) = LeavesFiles before after
