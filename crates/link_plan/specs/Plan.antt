-- What a plan says of the modules that it was made for.
use Rattle.std.specs.Prelude.{◌≡◌, ◌<◌, ◌≤◌, ℕ, ◌^◌, true, false, List, length, map, slice_index_or, None}
use Rattle.std.specs.List.{All}
use Rattle.std.specs.Option.{ForSome}
use Rattle.link_base.specs.Limits.{MODULE_LIMIT}
use Rattle.section_group.specs.SectionOrder.{no_piece}
use Rattle.section_group.specs.BarePieces.{bare}
use Rattle.address_layout.specs.Layout.{IsAlignment}
use Rattle.section_group.specs.PieceContents.{piece_contents, HasItsBytes}
use Rattle.module_view.specs.Module.{ModuleView}
use Rattle.lib_search.specs.LinkOf.{link_of}
use Rattle.link_exports.specs.Exports.{exports_of, AreTold}
use Rattle.link_debug.specs.LinkDebug.{debug_of}
use Rattle.link_resources.specs.LinkResources.{resources_with}
use Rattle.res_merge.specs.Entries.{Entry}
use Rattle.res_merge.specs.Order.{AreMergeable}
use Rattle.res_merge.specs.Found.{AreNumbered}
use Rattle.link_pieces.specs.LinkParts.{LinkParts, parts_of}
use Rattle.module_view.specs.Opening.{IsOpened}
use Rattle.link_directives.specs.LinkDirectives.{link_merges}
use Rattle.link_imports.specs.Imports.{AreImports}
use Rattle.link_pieces.specs.TablePieces.{KeptParts, kept_imports, whole_contents, is_table}
use Rattle.link_words.specs.Outcome.{LinkOptions}
use Rattle.link_keeping.specs.Standing.{AreStanding}
use Rattle.link_plan.specs.declared.planning.LinkPlan.{LinkPlan}
use Rattle.link_fields.specs.LoaderPlaces.{TLS_NAME, LOAD_CONFIG_NAME}
use Rattle.link_plan.specs.Planned.{plan_pieces, planned_targets, planned_entry, planned_loader, HaveFields}
use Rattle.link_plan.specs.PlanFaults.{plan_fault}
use Rattle.link_plan.specs.Laid.{StandsNamed}
use Rattle.link_plan.specs.LinkPublics.{lists_publics, link_publics}

-- what takes part in a link of these modules and resources
abbrev pub link_parts : LinkOptions → List ModuleView → List Entry → LinkParts
link_parts options modules resources =
    parts_of (link_of options modules) (exports_of options modules) (debug_of options) (resources_with options resources)

-- with what is kept of it
pub record IsLinkOf (options : LinkOptions) (modules : List ModuleView) (resources : List Entry) (link : KeptParts) : Type 0 where
  pub parts_are : link.parts ≡ link_parts options modules resources
  pub kept_are : AreStanding options link

-- the merges of a link: those of the options, then those of the directives
abbrev pub merges_of : LinkOptions → LinkParts → List (List ℕ × List ℕ)
merges_of options link = link_merges options.merges link.modules

-- the resources of a plan
abbrev pub plan_resources : LinkPlan → List Entry
plan_resources plan = plan.names.resources.entries

-- what a plan keeps
abbrev pub kept_parts : LinkPlan → KeptParts
kept_parts plan = record { parts = plan.names; kept = plan.kept.items; places = plan.place_of.items }

-- a plan holds what the definitions give for its modules, its resources and the options, which have no fault up to it
pub record IsPlanOf (options : LinkOptions) (modules : List ModuleView) (plan : LinkPlan) : Type 0 where
  pub opened : All IsOpened modules
  pub few_modules : length modules ≤ MODULE_LIMIT
  pub modules_are : plan.modules.items ≡ modules
  pub link_is : IsLinkOf options modules (plan_resources plan) (kept_parts plan)
  pub pieces_are : map bare plan.pieces.items ≡ plan_pieces options (kept_parts plan)
  pub contents_are : map piece_contents plan.pieces.items ≡ whole_contents (kept_parts plan)
  pub aligned : All (λ piece. IsAlignment piece.align) plan.pieces.items
  pub bodies : (k : ℕ) → k < length plan.pieces.items → is_table (length modules) (slice_index_or plan.pieces.items k no_piece) ≡ false → HasItsBytes plan.pieces.items k
  pub few : length plan.pieces.items < 2 ^ 31
  pub fields : HaveFields (kept_parts plan) (length plan.pieces.items) plan.fixes.items
  pub imports : AreImports modules (kept_imports (kept_parts plan)) plan.imports
  pub told : AreTold plan.names.exports
  pub mergeable : AreMergeable (plan_resources plan)
  pub numbered : AreNumbered (plan_resources plan)
  pub merges_are : plan.merges.items ≡ merges_of options plan.names
  pub entry_is : plan.entry ≡ planned_entry options (kept_parts plan)
  pub stands : ForSome plan.entry (StandsNamed plan.pieces.items)
  pub tls_is : plan.loader.tls ≡ planned_loader (kept_parts plan) TLS_NAME
  pub tls_stands : ForSome plan.loader.tls (StandsNamed plan.pieces.items)
  pub load_config_is : plan.loader.load_config ≡ planned_loader (kept_parts plan) LOAD_CONFIG_NAME
  pub load_config_stands : ForSome plan.loader.load_config (StandsNamed plan.pieces.items)
  pub exported_are : plan.exported.items ≡ planned_targets (kept_parts plan)
  pub publics_are : lists_publics options ≡ true → plan.publics.items ≡ link_publics (kept_parts plan)
  pub no_fault : plan_fault options plan.names ≡ None
