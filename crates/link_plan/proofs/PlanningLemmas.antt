-- From what the search of libraries says, and what the modules say, to what planning says.
use Rattle.std.proofs.Common.{◌≡◌, List, map, Err, sym, ap, ◌∙◌, subst, inl, inr}
use Rattle.link_base.specs.Refusals.{RefusesFor, stop_of}
use Rattle.link_base.specs.declared.stop.Refusal.{Refusal}
use Rattle.link_base.specs.declared.stop.Refusal.TheVariants as refusal
use Rattle.link_base.specs.declared.stop.Stop.{Stop}
use Rattle.link_base.specs.declared.stop.Stop.TheVariants as stop
use Rattle.link_files.specs.Outside.{FilesView}
use Rattle.module_view.specs.Module.{ModuleView}
use Rattle.link_words.specs.Outcome.{LinkOptions}
use Rattle.symbol_names.specs.LinkView.{LinkView}
use Rattle.lib_search.specs.LinkOf.{link_of}
use Rattle.link_exports.specs.Exports.{ExportsView, exports_of}
use Rattle.link_debug.specs.LinkDebug.{DebugView, debug_of}
use Rattle.link_resources.specs.LinkResources.{ResourcesView, resources_with}
use Rattle.res_merge.specs.Entries.{Entry, entry_of}
use Rattle.link_pieces.specs.LinkParts.{LinkParts, parts_of}
use Rattle.lib_search.specs.declared.link_list.LinkList.{LinkList}
use Rattle.lib_search.specs.Loading.{Loads}
use Rattle.lib_search.specs.Completion.{GivesList, Completes}
use Rattle.link_plan.specs.declared.planning.LinkPlan.{LinkPlan}
use Rattle.link_plan.specs.PlanFaults.{plan_fault}
use Rattle.link_plan.specs.Plan.{link_parts, plan_resources, IsPlanOf}
use Rattle.link_plan.specs.Planning.{GivesPlan, Plans}

-- what names mean, with the exports, the PDB and the resources, is what takes part in the link
pub names_so : (options : LinkOptions) (modules own : List ModuleView) (entries : List Entry) (table : LinkView) (exports : ExportsView) (debug : DebugView) (resources : ResourcesView) (names : LinkParts) → names ≡ parts_of table exports debug resources → table ≡ link_of options modules → exports ≡ exports_of options own → debug ≡ debug_of options → resources ≡ resources_with options entries → own ≡ modules → names ≡ link_parts options modules entries
names_so options modules own entries table exports debug resources names is tables exported debugged merged same =
    is
    ∙ ap (λ (l : LinkView). parts_of l exports debug resources) tables
    ∙ ap (λ (e : ExportsView). parts_of (link_of options modules) e debug resources) (exported ∙ ap (exports_of options) same)
    ∙ ap (λ (d : DebugView). parts_of (link_of options modules) (exports_of options modules) d resources) debugged
    ∙ ap (parts_of (link_of options modules) (exports_of options modules) (debug_of options)) merged

-- and its resources are those that were read
pub resources_so : (options : LinkOptions) (modules : List ModuleView) (entries : List Entry) (names : LinkParts) → names ≡ link_parts options modules entries → names.resources.entries ≡ entries
resources_so options modules entries names is = ap (λ (l : LinkParts). l.resources.entries) is

-- what takes part in the link, told by its own resources
pub own_parts : (options : LinkOptions) (modules : List ModuleView) (entries : List Entry) (names : LinkParts) → names ≡ link_parts options modules entries → names ≡ link_parts options modules names.resources.entries
own_parts options modules entries names is =
    is ∙ ap (link_parts options modules) (sym (resources_so options modules entries names is))

-- the modules that join have a plan
pub gives_plan : (options : LinkOptions) (before after : FilesView) (list : LinkList) (plan : LinkPlan) → GivesList options before after list → IsPlanOf options list.modules.items plan → plan.modules.items ≡ list.modules.items → plan_resources plan ≡ map entry_of list.resources.items → GivesPlan options before after plan
gives_plan options before after list plan gives planned same merged = record {
  files = gives.files;
  planned = subst (λ (modules : List ModuleView). IsPlanOf options modules plan) (sym same) planned;
  told = λ store is.
      subst (λ (modules : List ModuleView). Loads store options modules (plan_resources plan)) (sym same)
      (subst (Loads store options list.modules.items) (sym merged) (gives.told store is));
}

-- they have a fault
pub refuses_plan : (options : LinkOptions) (before after : FilesView) (list : LinkList) (refused : Refusal) → GivesList options before after list → RefusesFor (plan_fault options (link_parts options list.modules.items (map entry_of list.resources.items))) refused → Plans options before after (Err (stop_of refused))
refuses_plan options before after list (refusal.Fault fault) gives is = record {
  files = gives.files;
  told = λ store told. inr (record { modules = list.modules.items; resources = map entry_of list.resources.items; joined = gives.told store told; is = is });
}
refuses_plan options before after list refusal.Memory gives is = record { store = gives.files.store; writes = gives.files.writes }

-- they do not come together
pub stops_plan : (options : LinkOptions) (before after : FilesView) (stopped : Stop) → Completes options before after (Err stopped) → Plans options before after (Err stopped)
stops_plan options before after (stop.Fault fault) stops = record {
  files = stops.files;
  told = λ store told. inl (stops.told store told);
}
stops_plan options before after (stop.Read name) stops = stops
stops_plan options before after stop.Memory stops = stops
