-- What `gen` shows, from what linking and loading promise.
use Rattle.std.proofs.Common.{◌≡◌, ℕ, Bool, cond, ◌&&◌, List, Option, Some, None, option_map, Result, Ok, Err, refl, sym, ap, subst, ◌∙◌}
use Rattle.std.specs.Prelude.{IfOk, is_none}
use Rattle.link_library.specs.LinkLibrary.{library_with}
use Rattle.link_base.specs.declared.fault.Fault.{Fault}
use Rattle.link_base.specs.declared.kinds.image.ImageKind.{ImageKind}
use Rattle.link_base.specs.declared.memory.Memory.{Memory}
use Rattle.link_files.specs.Store.{Store}
use Rattle.link_files.specs.Outside.{FilesView}
use Rattle.address_layout.specs.PermittedBase.{is_permitted}
use Rattle.module_view.specs.Module.{ModuleView}
use Rattle.res_merge.specs.Entries.{Entry}
use Rattle.link_words.specs.Outcome.{LinkOptions, CommandSaid, Link, Gen, Refused as RefusedWord, refuse}
use Rattle.link_words.specs.declared.errors.UsageKind.{UsageKind}
use Rattle.link_words.specs.UsageWord.{usage_word}
use Rattle.link_words.specs.Commands.{words_say}
use Rattle.pe_loader.specs.LoadedImage.{image_fault, base_rule, size_of_image, loaded}
use Rattle.pe_loader.specs.Extents.{numbered_section}
use Rattle.link_pieces.specs.TablePieces.{KeptParts}
use Rattle.lib_search.specs.Loading.{Loads}
use Rattle.link_plan.specs.Plan.{link_parts, IsLinkOf}
use Rattle.link_plan.specs.PlanFaults.{plan_fault}
use Rattle.link_image.specs.declared.make.Built.{Built}
use Rattle.link_image.specs.BuiltImage.{IsBuilt}
use Rattle.image_writer.specs.ExpectedImage.{image_file}
use Rattle.pdb_msf.specs.WrittenFile.{msf_of}
use Rattle.link_image.specs.LinkMap.{link_map}
use Rattle.link_image.specs.LinkPdb.{link_streams}
use Rattle.generated_world.specs.GeneratedWorld.{generated_files, generated_words}
use Rattle.linker_program.specs.declared.answer.Answer.{Answer}
use Rattle.linker_program.specs.declared.status.Status.{Status}
use Rattle.linker_program.specs.declared.status.Status.TheVariants as status
use Rattle.linker_program.specs.Ending.{Outcome, Usage, Refused, Linked, Shown, Plan}
use Rattle.linker_program.specs.Outcome.{IsPlan, BuildOutcome, ModulesOutcome, LinkOutcome, AtModules, LinkShown, GenSaid, GenOutcome, HasOutcome}
use Rattle.linker_program.specs.Generated.{extent_sum, sum_at, image_told, generated_shown}
use Rattle.linker_program.specs.GeneratedSteps.{Says, TellsLink, SaysAny, TellsGenerated}
use Rattle.linker_program.specs.LinkRun.{Answers}
use Rattle.linker_program.specs.Steps.{Refuses, RefusesWords}
use Rattle.linker_program.proofs.StepLemmas.{untouched, commanded, usage_answers}

-- ---- sums

none_by : (fault : Option ImageKind) (allowed : Bool) (whole : List ℕ) (kind : ImageKind) → fault ≡ Some kind → cond (is_none fault && allowed) (Some whole) None ≡ None
none_by None allowed whole kind is = absurd cc
none_by (Some other) allowed whole kind is = refl

-- what is no image is not loaded
pub faulty_not_loaded : (image : List ℕ) (base : ℕ) (kind : ImageKind) → image_fault image ≡ Some kind → loaded image base ≡ None
unfolding loaded
faulty_not_loaded image base kind is = none_by (image_fault image) (is_permitted (base_rule image) (size_of_image image) base) _ kind is

pub no_sum : (image : List ℕ) (base : ℕ) → loaded image base ≡ None → None ≡ sum_at image base
unfolding sum_at
no_sum image base e = sym (ap (option_map (λ memory. extent_sum memory (numbered_section image 1))) e)

-- ---- a link

-- files of which no read fails
abbrev pub unfailed : Store → FilesView
unfailed files = record { store = Some files; read_faults = 0; write_faults = 0 }

-- what ends it is told
pub refusal_tells : (r : Result Answer Memory) (has : Outcome → Type 0) (count : ℕ) (fault : Fault) → has (Refused fault) → IfOk r (λ answer. Refuses answer fault) → IfOk r (TellsLink has count)
refusal_tells (Ok answer) has count fault is refuses = record { link = Refused fault; linked = is; says = refuses }
refusal_tells (Err error) has count fault is refuses = tt

-- its image is told
pub image_tells : (r : Result Answer Memory) (options : LinkOptions) (modules : List ModuleView) (resources : List Entry) (link : KeptParts) (built : Built) (count : ℕ)
    → IsLinkOf options modules resources link → plan_fault options (link_parts options modules resources) ≡ None → IsBuilt options link built
    → IfOk r (λ answer. Says answer (image_told count built.image.items)) → IfOk r (TellsLink (ModulesOutcome options modules resources) count)
image_tells (Ok answer) options modules resources link built count link_is planned is says =
    let plan : Plan = record { options = options; modules = modules; resources = resources; image = is.image; map = link_map options link is.is_image.rows is.is_image.layout; pdb = msf_of (link_streams options link is.is_image.rows is.is_image.layout is.is_image.tables (image_file is.image)); library = library_with link.parts.exports } in
    let made : IsPlan options modules resources link plan = record { options_are = refl; modules_are = refl; resources_are = refl; image_is = is.is_image; map_is = refl; pdb_is = refl; pdb_fits = is.pdb_fits; library_is = refl; library_fits = is.library_fits } in
    let outcome : BuildOutcome options modules resources (Linked plan) = record { link = link; link_is = link_is; is = made } in
    record { link = Linked plan; linked = rw planned outcome; says = subst (λ (file : List ℕ). Says answer (image_told count file)) is.file says }
image_tells (Err error) options modules resources link built count link_is planned is says = tt

-- the outcome of modules that join is that of the link
pub planned_tells : (r : Result Answer Memory) (options : LinkOptions) (store : Store) (modules : List ModuleView) (resources : List Entry) (count : ℕ) → Loads store options modules resources
    → IfOk r (TellsLink (ModulesOutcome options modules resources) count) → IfOk r (TellsLink (LinkOutcome options store) count)
planned_tells (Ok answer) options store modules resources count loads tells = record { link = tells.link; linked = AtModules modules resources loads tells.linked; says = tells.says }
planned_tells (Err error) options store modules resources count loads tells = tt

-- ---- a generated program

says_any : (answer : Answer) (outcome : Outcome) → Says answer outcome → SaysAny answer outcome
says_any answer (Shown line) says = says
says_any answer (Refused fault) says = says
says_any answer (Usage index kind) says = absurd says
says_any answer (Linked plan) says = absurd says

pub link_tells : (r : Result Answer Memory) (count : ℕ) (options : LinkOptions) (words : List (List ℕ)) (files : Store) → words ≡ generated_words count → files ≡ generated_files count → words_say words ≡ Ok (Link options)
    → IfOk r (TellsLink (LinkOutcome options files) count) → IfOk r (TellsGenerated count)
link_tells (Ok answer) count options words files words_are files_are said tells =
    let shown : LinkShown options count (generated_shown count tells.link) = record { link = tells.link; linked = subst (λ (store : Store). LinkOutcome options store tells.link) files_are tells.linked; is = refl } in
    let own : words_say (generated_words count) ≡ Ok (Link options) = ap words_say (sym words_are) ∙ said in
    record {
      outcome = generated_shown count tells.link;
      is = subst (λ (s : Result CommandSaid RefusedWord). GenSaid s count (generated_shown count tells.link)) (sym own) shown;
      says = says_any answer (generated_shown count tells.link) tells.says;
    }
link_tells (Err error) count options words files words_are files_are said tells = tt

pub words_tell : (r : Result Answer Memory) (count : ℕ) (words : List (List ℕ)) (index : ℕ) (kind : UsageKind) → words ≡ generated_words count → words_say words ≡ Err (refuse index kind)
    → IfOk r (λ answer. RefusesWords answer index (usage_word kind)) → IfOk r (TellsGenerated count)
words_tell (Ok answer) count words index kind words_are said refuses =
    let own : words_say (generated_words count) ≡ Err (refuse index kind) = ap words_say (sym words_are) ∙ said in
    record {
      outcome = Usage index (usage_word kind);
      is = subst (λ (s : Result CommandSaid RefusedWord). GenSaid s count (Usage index (usage_word kind))) (sym own) refl;
      says = refuses;
    }
words_tell (Err error) count words index kind words_are said refuses = tt

-- ---- the words

gen_has : (words : List (List ℕ)) (count : ℕ) (store : Store) (outcome : Outcome) → words_say words ≡ Ok (Gen count) → GenOutcome count outcome → HasOutcome words store outcome
gen_has words count store outcome said is = record { is = rw said is }

gen_answers : (words : List (List ℕ)) (count : ℕ) (files : FilesView) (answer : Answer) (outcome : Outcome) → words_say words ≡ Ok (Gen count) → GenOutcome count outcome → SaysAny answer outcome → Answers words files files answer.status answer.line.items
gen_answers words count files answer (Shown line) said is says =
    let own : GenOutcome count (Shown answer.line.items) = subst (λ (l : List ℕ). GenOutcome count (Shown l)) (sym says.1) is in
    subst (λ (s : Status). Answers words files files s answer.line.items) (sym says.0)
    (commanded words (Gen count) files files status.Done answer.line.items said
    (record { outcome = record { told = λ store told. gen_has words count store (Shown answer.line.items) said own }; files = untouched files }))
gen_answers words count files answer (Refused fault) said is says =
    subst (λ (s : Status). Answers words files files s answer.line.items) (sym says.status)
    (commanded words (Gen count) files files status.Refused answer.line.items said
    (fault, record { outcome = record { told = λ store told. gen_has words count store (Refused fault) said is }; files = untouched files; says = says.line }))
gen_answers words count files answer (Usage index kind) said is says =
    usage_answers words files index kind answer (λ store. gen_has words count store (Usage index kind) said is) says
gen_answers words count files answer (Linked plan) said is says = absurd says

pub if_generated : (r : Result Answer Memory) (words : List (List ℕ)) (count : ℕ) (files : FilesView) → words_say words ≡ Ok (Gen count) → IfOk r (TellsGenerated count) → IfOk r (λ answer. Answers words files files answer.status answer.line.items)
if_generated (Ok answer) words count files said tells = gen_answers words count files answer tells.outcome said tells.is tells.says
if_generated (Err error) words count files said tells = tt
