-- The expected outcome of a run: what its words and files decide, stage by stage. The first stage that has a fault ends it,
-- and where none has, the plan is linked. The order of the stages is own.
use Rattle.std.specs.Prelude.{◌≡◌, ℕ, List, Option, Some, None, Result, Ok, Err}
use Rattle.link_base.specs.declared.fault.Fault.{Fault}
use Rattle.link_files.specs.Store.{Store}
use Rattle.module_view.specs.Module.{ModuleView}
use Rattle.link_words.specs.Outcome.{Refused as RefusedWord}
use Rattle.link_words.specs.Outcome.{LinkOptions, CommandSaid, Link, At, Show, Gen}
use Rattle.link_words.specs.Commands.{words_say}
use Rattle.link_words.specs.UsageWord.{usage_word}
use Rattle.res_merge.specs.Entries.{Entry}
use Rattle.link_pieces.specs.TablePieces.{KeptParts}
use Rattle.link_plan.specs.Plan.{link_parts, IsLinkOf}
use Rattle.lib_search.specs.Loading.{HasLoadingFault, Loads}
use Rattle.link_plan.specs.PlanFaults.{plan_fault}
use Rattle.link_image.specs.LinkedImage.{IsImageOf}
use Rattle.image_writer.specs.ExpectedImage.{image_file}
use Rattle.pdb_msf.specs.WrittenFile.{msf_of}
use Rattle.link_library.specs.LinkLibrary.{library_with, library_fault}
use Rattle.link_image.specs.LinkMap.{link_map}
use Rattle.link_image.specs.LinkPdb.{link_streams, Fits}
use Rattle.link_image.specs.BuildFaults.{IsBuildFault}
use Rattle.generated_world.specs.GeneratedWorld.{generated_files, generated_words}
use Rattle.linker_program.specs.Ending.{Plan, Outcome, Usage, Refused, Linked, Shown}
use Rattle.linker_program.specs.Shown.{AtOutcome, ShowOutcome}
use Rattle.linker_program.specs.Generated.{generated_shown}

-- ---- the modules of a link

-- the plan of modules and resources, with what is kept of the link
pub record IsPlan (options : LinkOptions) (modules : List ModuleView) (resources : List Entry) (link : KeptParts) (plan : Plan) : Type 0 where
  pub options_are : plan.options ≡ options
  pub modules_are : plan.modules ≡ modules
  pub resources_are : plan.resources ≡ resources
  pub image_is : IsImageOf options link plan.image
  pub map_is : plan.map ≡ link_map options link image_is.rows image_is.layout
  pub pdb_is : plan.pdb ≡ msf_of (link_streams options link image_is.rows image_is.layout image_is.tables (image_file plan.image))
  pub pdb_fits : Fits options (link_streams options link image_is.rows image_is.layout image_is.tables (image_file plan.image))
  pub library_is : plan.library ≡ library_with link.parts.exports
  pub library_fits : library_fault options link.parts.exports ≡ None

-- modules that come to the tables have a fault there or later, or a plan
abbrev pub KeptOutcome : LinkOptions → List ModuleView → List Entry → KeptParts → Outcome → Type 0
KeptOutcome options modules resources link (Usage index kind) = ⊥
KeptOutcome options modules resources link (Refused fault) = IsBuildFault options link fault
KeptOutcome options modules resources link (Linked plan) = IsPlan options modules resources link plan
KeptOutcome options modules resources link (Shown line) = ⊥

-- with what is kept of their link
pub record BuildOutcome (options : LinkOptions) (modules : List ModuleView) (resources : List Entry) (outcome : Outcome) : Type 0 where
  pub link : KeptParts
  pub link_is : IsLinkOf options modules resources link
  pub is : KeptOutcome options modules resources link outcome

-- a fault that stands is the outcome
abbrev pub OutcomeAfter : Option Fault → (Outcome → Type 0) → Outcome → Type 0
OutcomeAfter (Some fault) later outcome = outcome ≡ Refused fault
OutcomeAfter None later outcome = later outcome

-- the outcome of modules and resources: the first fault of the stages from mismatch to fields, else what they come to
abbrev pub ModulesOutcome : LinkOptions → List ModuleView → List Entry → Outcome → Type 0
ModulesOutcome options modules resources outcome =
    OutcomeAfter (plan_fault options (link_parts options modules resources)) (BuildOutcome options modules resources) outcome

-- ---- the whole

-- the outcome of a link with these options: the fault of its loading, or the outcome of what loads
pub data LinkOutcome (options : LinkOptions) (store : Store) (outcome : Outcome) : Type 0 where
  AtLoading : (fault : Fault) → HasLoadingFault store options fault → outcome ≡ Refused fault → LinkOutcome options store outcome
  AtModules : (modules : List ModuleView) (resources : List Entry) → Loads store options modules resources → ModulesOutcome options modules resources outcome → LinkOutcome options store outcome

-- what a link of the files of a generated program comes to, as it is shown
pub record LinkShown (options : LinkOptions) (count : ℕ) (outcome : Outcome) : Type 0 where
  pub link : Outcome
  pub linked : LinkOutcome options (generated_files count) link
  pub is : outcome ≡ generated_shown count link

-- by what its words say, which is a link
abbrev pub GenSaid : Result CommandSaid RefusedWord → ℕ → Outcome → Type 0
GenSaid (Err refused) count outcome = outcome ≡ Usage refused.index (usage_word refused.kind)
GenSaid (Ok (Link options)) count outcome = LinkShown options count outcome
GenSaid (Ok other) count outcome = ⊥

-- the outcome of `gen N`, in which the files of the outside have no part
abbrev pub GenOutcome : ℕ → Outcome → Type 0
GenOutcome count outcome = GenSaid (words_say (generated_words count)) count outcome

-- the outcome of a command
abbrev pub CommandOutcome : CommandSaid → Store → Outcome → Type 0
CommandOutcome (Link options) store outcome = LinkOutcome options store outcome
CommandOutcome (At image base rva len) store outcome = AtOutcome image base rva len store outcome
CommandOutcome (Show image pdb base symbol len) store outcome = ShowOutcome image pdb base symbol len store outcome
CommandOutcome (Gen count) store outcome = GenOutcome count outcome

abbrev pub WordsOutcome : Result CommandSaid RefusedWord → Store → Outcome → Type 0
WordsOutcome (Err refused) store outcome = outcome ≡ Usage refused.index (usage_word refused.kind)
WordsOutcome (Ok command) store outcome = CommandOutcome command store outcome

-- the outcome that words and files have
pub record HasOutcome (words : List (List ℕ)) (store : Store) (outcome : Outcome) : Type 0 where
  pub is : WordsOutcome (words_say words) store outcome
