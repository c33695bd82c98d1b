-- From what the steps of a run promise to what the run promises.
use Rattle.std.proofs.Common.{◌≡◌, ◌<◌, ℕ, Bool, true, cond, List, [], ◌∷◌, ◌++◌, length, Option, option_map, Result, Ok, Err, refl, sym, ap, ◌∙◌, ◌⊎◌, subst, inl, inr}
use Rattle.std.specs.Prelude.{IfOk, OnErr, Some, None, false, is_some}
use Rattle.link_exports.specs.Exports.{ExportsView}
use Rattle.link_library.specs.LinkLibrary.{asked_library, library_with}
use Rattle.std.specs.declared.vec.Vec.{Vec}
use Rattle.link_base.specs.declared.fault.Fault.{Fault}
use Rattle.link_base.specs.declared.memory.Memory.{Memory}
use Rattle.link_base.specs.declared.stop.Refusal.{Refusal}
use Rattle.link_base.specs.declared.stop.Refusal.TheVariants as refusal
use Rattle.link_files.specs.Store.{Store}
use Rattle.link_files.specs.Outside.{FilesView, AreUntouched, ReadFailed}
use Rattle.link_files.specs.Outputs.{NamedBytes, output_at, FirstWritten, NextTorn}
use Rattle.module_view.specs.Module.{ModuleView}
use Rattle.res_merge.specs.Entries.{Entry}
use Rattle.link_pieces.specs.LinkParts.{LinkParts}
use Rattle.link_resources.specs.LinkResources.{size_of}
use Rattle.link_resources.proofs.TreeLemmas.{some_size}
use Rattle.std.specs.Prelude.{codes}
use Rattle.std.specs.Fmt.{decimal}
use Rattle.link_base.specs.declared.fault.Fault.TheVariants.{NotFound, FileTooLarge, InputLimit, BadObject, BadLibrary, BadImport, BadDirective, Unsupported, Mismatch, Duplicate, ComdatConflict, Undefined, WeakCycle, BadTarget, BadReloc, BadPdata, BadExport, BadMerge, TooManySections, ImageTooLarge, BaseRange, RelocRange, PdbTooLarge, BadResource, DuplicateResource, TooManyResources, ImplibTooLarge, BadImage, BadPdb, BasePermit, NoSymbol, LengthRange}
use Rattle.link_base.specs.declared.kinds.resource.ResName.{ResName}
use Rattle.link_base.specs.declared.kinds.resource.ResName.TheVariants as kind_of
use Rattle.diagnostics.specs.FaultLine.{fault_line_text}
use Rattle.diagnostics.specs.LineText.{operand, file_text, resource_text}
use Rattle.res_merge.specs.Entries.{key_of}
use Rattle.resource_files.specs.SaidFaults.{name_of, fault_said}
use Rattle.link_words.specs.Outcome.{LinkOptions, CommandSaid, Link, Refused as RefusedWord, refuse}
use Rattle.link_words.specs.declared.errors.UsageKind.{UsageKind}
use Rattle.link_words.specs.UsageWord.{usage_word}
use Rattle.link_words.specs.Commands.{words_say}
use Rattle.link_plan.specs.PlanFaults.{plan_fault}
use Rattle.link_pieces.specs.TablePieces.{KeptParts}
use Rattle.link_plan.specs.Plan.{link_parts, plan_resources, IsLinkOf}
use Rattle.lib_search.specs.Loading.{HasLoadingFault}
use Rattle.lib_search.specs.Completion.{FailsLoading}
use Rattle.link_plan.specs.declared.planning.LinkPlan.{LinkPlan}
use Rattle.link_plan.specs.Planning.{GivesPlan, JoinsBadly, FaultsPlan}
use Rattle.link_image.specs.declared.make.Built.{Built}
use Rattle.link_image.specs.LinkedImage.{IsImageOf, HoldsImports, HoldsExports, HoldsEntries}
use Rattle.link_image.specs.BuiltImage.{IsBuilt}
use Rattle.image_writer.specs.ExpectedImage.{image_file}
use Rattle.pdb_msf.specs.WrittenFile.{msf_of}
use Rattle.link_image.specs.LinkMap.{link_map}
use Rattle.link_image.specs.LinkPdb.{link_streams}
use Rattle.link_image.proofs.PlaceLemmas.{imports_by_places, exports_by_places}
use Rattle.link_image.proofs.OnePlacement.{one_placement}
use Rattle.link_image.specs.BuildFaults.{RefusesBuild}
use Rattle.linker_program.specs.declared.answer.Answer.{Answer}
use Rattle.linker_program.specs.declared.linked.Linked.{Linked as LinkedBytes}
use Rattle.linker_program.specs.declared.status.Status.{Status}
use Rattle.linker_program.specs.declared.status.Status.TheVariants as status
use Rattle.linker_program.specs.Ending.{Outcome, Usage, Refused, Linked, Plan}
use Rattle.linker_program.proofs.OutcomeLemmas.{one_link, same_map, same_streams}
use Rattle.linker_program.specs.Outcome.{IsPlan, BuildOutcome, LinkOutcome, AtLoading, AtModules, HasOutcome}
use Rattle.linker_program.specs.RunLines.{write_failure_line}
use Rattle.linker_program.specs.LinkRun.{asked_output, pdb_name, Expects, IsMade, LinkTries, LinkAnswers, CommandAnswers, LeftByMemory, Answers}
use Rattle.linker_program.specs.Steps.{Refuses, RefusesWords, TellsReadFailure, ModulesHave, IsLinked, RefusesModules, AnswersWrite, LeftByWrites}
use Rattle.linker_program.specs.WriteSteps.{linked_outputs, linked_summary}

pub untouched : (files : FilesView) → AreUntouched files files
untouched files = record { store = refl; reads = refl; writes = refl }

files_from : Option Store → ℕ → ℕ → FilesView
files_from store reads writes = record { store = store; read_faults = reads; write_faults = writes }

same_files : (before after : FilesView) → AreUntouched before after → after ≡ before
unfolding files_from
same_files before after kept =
    let start : after ≡ files_from after.store after.read_faults after.write_faults = refl in
    let end : before ≡ files_from before.store before.read_faults before.write_faults = refl in
    start
    ∙ ap (λ (s : Option Store). files_from s after.read_faults after.write_faults) kept.store
    ∙ ap (λ (n : ℕ). files_from before.store n after.write_faults) kept.reads
    ∙ ap (λ (n : ℕ). files_from before.store before.read_faults n) kept.writes
    ∙ sym end

-- ---- what is said of one outcome is said of another that follows

-- where the files are told, one outcome follows from the other
abbrev pub Follows : (Store → Outcome → Type 0) → (Store → Outcome → Type 0) → FilesView → Type 0
Follows has later files = (store : Store) → files.store ≡ Some store → (outcome : Outcome) → has store outcome → later store outcome

pub expects_later : (has later : Store → Outcome → Type 0) (files : FilesView) (outcome : Outcome) → Follows has later files → Expects has files outcome → Expects later files outcome
expects_later has later files outcome follows expects = record { told = λ store is. follows store is outcome (expects.told store is) }

made_later : (has later : Store → Outcome → Type 0) (files : FilesView) (plan : Plan) (image : List ℕ) → Follows has later files → IsMade has files plan image → IsMade later files plan image
made_later has later files plan image follows made = record {
  outcome = expects_later has later files (Linked plan) follows made.outcome;
  means = made.means;
  imports = made.imports;
  exports = made.exports;
  resources = made.resources;
  map = made.map;
  pdb = made.pdb;
  library = made.library;
}

answers_later : (has later : Store → Outcome → Type 0) (tries : Option Store → List ℕ → Type 0) (before after : FilesView) (answer : Status) (line : List ℕ) → Follows has later before → LinkAnswers has tries before after answer line → LinkAnswers later tries before after answer line
answers_later has later tries before after status.Done line follows h = (
  h.0,
  (h.1.0, record { made = made_later has later before h.0 h.1.0 follows h.1.1.made; files = h.1.1.files; says = h.1.1.says }),
)
answers_later has later tries before after status.Refused line follows h =
    (h.0, record { outcome = expects_later has later before (Refused h.0) follows h.1.outcome; files = h.1.files; says = h.1.says })
answers_later has later tries before after status.ReadFailed line follows h = h
answers_later has later tries before after status.WriteFailed line follows h = (
  h.0,
  (
    h.1.0,
    (h.1.1.0, record { made = made_later has later before h.0 h.1.0 follows h.1.1.1.made; files = h.1.1.1.files; says = h.1.1.1.says }),
  ),
)
answers_later has later tries before after status.Usage line follows h = absurd h
answers_later has later tries before after status.OutOfMemory line follows h = absurd h
answers_later has later tries before after status.PutFailed line follows h = absurd h

left_later : (has later : Store → Outcome → Type 0) (before after : FilesView) → Follows has later before → LeftByMemory has before after → LeftByMemory later before after
left_later has later before after follows left = elim left [
  | inl nothing ↦ inl nothing
  | inr some ↦ inr (
    some.0,
    (some.1.0, record { made = made_later has later before some.0 some.1.0 follows some.1.1.made; count = some.1.1.count; files = some.1.1.files }),
  )
]

-- ---- an input that is refused

refused_answer : (has : Store → Outcome → Type 0) (tries : Option Store → List ℕ → Type 0) (before after : FilesView) (fault : Fault) (answer : Answer) → AreUntouched before after → Refuses answer fault → Expects has before (Refused fault) → LinkAnswers has tries before after answer.status answer.line.items
refused_answer has tries before after fault answer kept refuses expects =
    subst (λ (s : Status). LinkAnswers has tries before after s answer.line.items) (sym refuses.status) (fault, record { outcome = expects; files = kept; says = refuses.line })

pub if_refused : (r : Result Answer Memory) (has : Store → Outcome → Type 0) (tries : Option Store → List ℕ → Type 0) (before after : FilesView) (fault : Fault) → AreUntouched before after → Expects has before (Refused fault) → IfOk r (λ answer. Refuses answer fault) → IfOk r (λ answer. LinkAnswers has tries before after answer.status answer.line.items)
if_refused (Ok answer) has tries before after fault kept expects refuses = refused_answer has tries before after fault answer kept refuses expects
if_refused (Err error) has tries before after fault kept expects refuses = tt

-- ---- outputs that are written

written_answers : (options : LinkOptions) (modules : List ModuleView) (resources : List Entry) (tries : Option Store → List ℕ → Type 0) (before after : FilesView) (linked : LinkedBytes) (answer : Status) (line : List ℕ) → IsLinked options modules resources linked → AnswersWrite before after (linked_outputs options linked) (linked_summary options.out linked) answer line → LinkAnswers (ModulesHave options modules resources) tries before after answer line
written_answers options modules resources tries before after linked status.Done line is wrote = (
  is.plan,
  (
    linked.image.items,
    record {
      made = record { outcome = record { told = λ store told. is.outcome }; means = is.means; imports = is.imports; exports = is.exports; resources = is.tree; map = is.map; pdb = is.pdb; library = is.library };
      files = subst (λ (outputs : List NamedBytes). FirstWritten before after outputs (length outputs)) is.outputs wrote.files;
      says = rw (is.asked, ← is.modules_are, ← is.sections_are) wrote.says;
    },
  ),
)
written_answers options modules resources tries before after linked status.WriteFailed line is wrote = (
  is.plan,
  (
    linked.image.items,
    (
      wrote.0,
      record {
        made = record { outcome = record { told = λ store told. is.outcome }; means = is.means; imports = is.imports; exports = is.exports; resources = is.tree; map = is.map; pdb = is.pdb; library = is.library };
        files = subst (λ (outputs : List NamedBytes). NextTorn before after outputs wrote.0) is.outputs wrote.1.files;
        says = subst (λ (outputs : List NamedBytes). line ≡ write_failure_line (output_at outputs wrote.0).name) is.outputs wrote.1.says;
      },
    ),
  ),
)
written_answers options modules resources tries before after linked status.Refused line is none = absurd none
written_answers options modules resources tries before after linked status.Usage line is none = absurd none
written_answers options modules resources tries before after linked status.OutOfMemory line is none = absurd none
written_answers options modules resources tries before after linked status.ReadFailed line is none = absurd none
written_answers options modules resources tries before after linked status.PutFailed line is none = absurd none

pub if_written : (r : Result Answer Memory) (options : LinkOptions) (modules : List ModuleView) (resources : List Entry) (tries : Option Store → List ℕ → Type 0) (before after : FilesView) (linked : LinkedBytes) → IsLinked options modules resources linked
    → IfOk r (λ answer. AnswersWrite before after (linked_outputs options linked) (linked_summary options.out linked) answer.status answer.line.items)
    → IfOk r (λ answer. LinkAnswers (ModulesHave options modules resources) tries before after answer.status answer.line.items)
if_written (Ok answer) options modules resources tries before after linked is wrote = written_answers options modules resources tries before after linked answer.status answer.line.items is wrote
if_written (Err error) options modules resources tries before after linked is wrote = tt

pub on_left : (r : Result Answer Memory) (options : LinkOptions) (modules : List ModuleView) (resources : List Entry) (before after : FilesView) (linked : LinkedBytes) → IsLinked options modules resources linked
    → OnErr r (LeftByWrites before after (linked_outputs options linked))
    → OnErr r (LeftByMemory (ModulesHave options modules resources) before after)
on_left (Ok answer) options modules resources before after linked is left = tt
on_left (Err error) options modules resources before after linked is left = elim left [
  | inl nothing ↦ inl nothing
  | inr some ↦ inr (
    is.plan,
    (
      linked.image.items,
      record {
        made = record { outcome = record { told = λ store told. is.outcome }; means = is.means; imports = is.imports; exports = is.exports; resources = is.tree; map = is.map; pdb = is.pdb; library = is.library };
        count = some.0;
        files = subst (λ (outputs : List NamedBytes). FirstWritten before after outputs some.0 ⊎ NextTorn before after outputs some.0) is.outputs some.1;
      },
    ),
  )
]

-- ---- modules that join

-- where these modules join, the outcome of a link is theirs
plan_follows : (options : LinkOptions) (before later : FilesView) (plan : LinkPlan) → GivesPlan options before later plan → Follows (ModulesHave options plan.modules.items (plan_resources plan)) (LinkOutcome options) before
plan_follows options before later plan given = λ store told outcome has. AtModules plan.modules.items (plan_resources plan) (given.told store told) has

pub if_planned : (r : Result Answer Memory) (options : LinkOptions) (before later after : FilesView) (plan : LinkPlan) → GivesPlan options before later plan
    → IfOk r (λ answer. LinkAnswers (ModulesHave options plan.modules.items (plan_resources plan)) (LinkTries options) later after answer.status answer.line.items)
    → IfOk r (λ answer. LinkAnswers (LinkOutcome options) (LinkTries options) before after answer.status answer.line.items)
if_planned (Ok answer) options before later after plan given goes_on =
    answers_later (ModulesHave options plan.modules.items (plan_resources plan)) (LinkOutcome options) (LinkTries options) before after answer.status answer.line.items (plan_follows options before later plan given)
    (subst (λ (view : FilesView). LinkAnswers (ModulesHave options plan.modules.items (plan_resources plan)) (LinkTries options) view after answer.status answer.line.items) (same_files before later given.files) goes_on)
if_planned (Err error) options before later after plan given goes_on = tt

pub on_left_planned : (r : Result Answer Memory) (options : LinkOptions) (before later after : FilesView) (plan : LinkPlan) → GivesPlan options before later plan
    → OnErr r (LeftByMemory (ModulesHave options plan.modules.items (plan_resources plan)) later after)
    → OnErr r (LeftByMemory (LinkOutcome options) before after)
on_left_planned (Ok answer) options before later after plan given left = tt
on_left_planned (Err error) options before later after plan given left =
    left_later (ModulesHave options plan.modules.items (plan_resources plan)) (LinkOutcome options) before after (plan_follows options before later plan given)
    (subst (λ (view : FilesView). LeftByMemory (ModulesHave options plan.modules.items (plan_resources plan)) view after) (same_files before later given.files) left)

-- ---- a fault by what it says

same_text : (name : ResName) → resource_text (name_of (key_of name)) ≡ resource_text name
same_text (kind_of.Number number) = refl
same_text (kind_of.Text units) = refl

fault_line_of : List ℕ → List ℕ → List ℕ
fault_line_of head operands = (head ++ operands) ++ (10 ∷ [])

-- its line does not tell where the texts stand
said_line : (fault : Fault) → fault_line_text (fault_said fault) ≡ fault_line_text fault
unfolding fault_line_of
said_line (NotFound file member) = refl
said_line (FileTooLarge file member) = refl
said_line (InputLimit total) = refl
said_line (BadObject file member kind index) = refl
said_line (BadLibrary file member kind offset) = refl
said_line (BadImport file member fault) = refl
said_line (BadDirective file member offset) = refl
said_line (Unsupported file member kind) = refl
said_line (Mismatch key first second) = refl
said_line (Duplicate name first second) = refl
said_line (ComdatConflict name first second) = refl
said_line (Undefined name position) = refl
said_line (WeakCycle name position) = refl
said_line (BadTarget kind position section relocation) = refl
said_line (BadReloc fault position section relocation) = refl
said_line (BadPdata position section) = refl
said_line (BadExport kind name) = refl
said_line (BadMerge name) = refl
said_line (TooManySections count) = refl
said_line (ImageTooLarge size) = refl
said_line (BaseRange base) = refl
said_line (RelocRange position section relocation value) = refl
said_line (PdbTooLarge size) = refl
said_line (BadResource file member kind offset) = refl
said_line (DuplicateResource file member kind name language) =
    ap (λ (text : List ℕ). fault_line_of (codes "fault 26 DuplicateResource") (operand (file_text file member) ++ (operand text ++ (operand (resource_text (name_of (key_of name))) ++ operand (decimal language))))) (same_text kind)
    ∙ ap (λ (text : List ℕ). fault_line_of (codes "fault 26 DuplicateResource") (operand (file_text file member) ++ (operand (resource_text kind) ++ (operand text ++ operand (decimal language))))) (same_text name)
said_line (TooManyResources count) = refl
said_line (ImplibTooLarge size) = refl
said_line (BadImage kind) = refl
said_line (BadPdb kind) = refl
said_line (BasePermit base) = refl
said_line (NoSymbol name) = refl
said_line (LengthRange end) = refl

refuses_as : (r : Result Answer Memory) (fault shown : Fault) → fault_line_text shown ≡ fault_line_text fault → IfOk r (λ answer. Refuses answer fault) → IfOk r (λ answer. Refuses answer shown)
refuses_as (Ok answer) fault shown same refuses = record { status = refuses.status; line = refuses.line ∙ sym same }
refuses_as (Err error) fault shown same refuses = tt

-- what the outcome is where a fault is told: the fault, or what it says
pub record ShownFault (options : LinkOptions) (store : Store) (fault : Fault) : Type 0 where
  pub shown : Fault
  pub outcome : LinkOutcome options store (Refused shown)
  pub line : fault_line_text shown ≡ fault_line_text fault

-- what does not load, or what loads and has a fault
pub shown_fault : (options : LinkOptions) (store : Store) (fault : Fault) → HasLoadingFault store options (fault_said fault) ⊎ JoinsBadly store options fault → ShownFault options store fault
shown_fault options store fault faults = elim faults [
  | inl loading ↦ record { shown = fault_said fault; outcome = AtLoading (fault_said fault) loading refl; line = said_line fault }
  | inr joins ↦ record { shown = fault; outcome = AtModules joins.modules joins.resources joins.joined (rw joins.is refl); line = refl }
]

pub if_shown : (r : Result Answer Memory) (options : LinkOptions) (store : Store) (fault : Fault) (shown : ShownFault options store fault) → IfOk r (λ answer. Refuses answer fault) → IfOk r (λ answer. Refuses answer shown.shown)
if_shown r options store fault shown refuses = refuses_as r fault shown.shown shown.line refuses

pub if_unplanned : (r : Result Answer Memory) (options : LinkOptions) (before after : FilesView) (fault : Fault) → FaultsPlan options before after fault → IfOk r (λ answer. Refuses answer fault) → IfOk r (λ answer. LinkAnswers (LinkOutcome options) (LinkTries options) before after answer.status answer.line.items)
if_unplanned r options before after fault faults refuses = by before.store refl
  where
    by : (told : Option Store) → before.store ≡ told → IfOk r (λ answer. LinkAnswers (LinkOutcome options) (LinkTries options) before after answer.status answer.line.items)
    by None none =
        if_refused r (LinkOutcome options) (LinkTries options) before after fault faults.files (record { told = λ store is. absurd (let both : None ≡ Some store = sym none ∙ is in cc) }) refuses
    by (Some store) is =
        let shown = shown_fault options store fault (faults.told store is) in
        if_refused r (LinkOutcome options) (LinkTries options) before after shown.shown faults.files
        (record { told = λ other told. subst (λ (s : Store). LinkOutcome options s (Refused shown.shown)) (let both : Some store ≡ Some other = sym is ∙ told in cc) shown.outcome })
        (if_shown r options store fault shown refuses)

-- the read of a file failed
pub if_read_failed : (r : Result Answer Memory) (options : LinkOptions) (before after : FilesView) (name : List ℕ) → FailsLoading options before after name → IfOk r (λ answer. TellsReadFailure answer name) → IfOk r (λ answer. LinkAnswers (LinkOutcome options) (LinkTries options) before after answer.status answer.line.items)
if_read_failed (Ok answer) options before after name fails tells =
    subst (λ (s : Status). LinkAnswers (LinkOutcome options) (LinkTries options) before after s answer.line.items) (sym tells.status)
    (name, record { tried = fails.told; files = fails.files; says = tells.line })
if_read_failed (Err error) options before after name fails tells = tt

pub nothing_written : (has : Store → Outcome → Type 0) (before after : FilesView) → AreUntouched before after → LeftByMemory has before after
nothing_written has before after kept = inl (record { store = kept.store; writes = kept.writes })

pub on_nothing : (r : Result Answer Memory) (has : Store → Outcome → Type 0) (before after : FilesView) → AreUntouched before after → OnErr r (LeftByMemory has before after)
on_nothing (Ok answer) has before after kept = tt
on_nothing (Err error) has before after kept = nothing_written has before after kept

pub on_unread : (r : Result Answer Memory) (has : Store → Outcome → Type 0) (before after : FilesView) → ReadFailed before after → OnErr r (LeftByMemory has before after)
on_unread (Ok answer) has before after failed = tt
on_unread (Err error) has before after failed = inl (record { store = failed.store; writes = failed.writes })

-- ---- the image of a plan

-- pieces that make no image
pub refused_build : (options : LinkOptions) (modules : List ModuleView) (resources : List Entry) (link : KeptParts) (r : Refusal) → IsLinkOf options modules resources link → plan_fault options (link_parts options modules resources) ≡ None → RefusesBuild options link r → RefusesModules options modules resources r
refused_build options modules resources link (refusal.Fault fault) link_is planned is =
    let outcome : BuildOutcome options modules resources (Refused fault) = record { link = link; link_is = link_is; is = is } in
    rw planned outcome
refused_build options modules resources link refusal.Memory link_is planned is = tt

-- bytes that are there where they are asked for
written_map : (file : Option (List ℕ)) (text : List ℕ) → asked_output file (option_map (λ name. text) file) ≡ asked_output file (Some text)
written_map None text = refl
written_map (Some name) text = refl

written_pdb : (asked : Bool) (name bytes : List ℕ) → asked_output (cond asked (Some name) None) (cond asked (Some bytes) None) ≡ asked_output (cond asked (Some name) None) (Some bytes)
written_pdb true name bytes = refl
written_pdb false name bytes = refl

written_if : (name library : Option (List ℕ)) → asked_output name (cond (is_some name) library None) ≡ asked_output name library
written_if None library = refl
written_if (Some name) library = refl

written_library : (options : LinkOptions) (exports : ExportsView) → asked_output options.implib (asked_library options exports) ≡ asked_output options.implib (library_with exports)
unfolding asked_library
written_library options exports = written_if options.implib (library_with exports)

-- an image that is made
pub linked : (options : LinkOptions) (modules : List ModuleView) (resources : List Entry) (link : KeptParts) (built : Built) (made : LinkedBytes) → IsLinkOf options modules resources link → plan_fault options (link_parts options modules resources) ≡ None → IsBuilt options link built → made.image ≡ built.image → made.map ≡ built.map → made.pdb ≡ built.pdb → made.library ≡ built.library → made.sections ≡ built.sections → made.modules ≡ length modules → IsLinked options modules resources made
linked options modules resources link built made link_is planned is image map_same pdb_same library_same sections count =
    let plan : Plan = record { options = options; modules = modules; resources = resources; image = is.image; map = text; pdb = database; library = library_with link.parts.exports } in
    let made_plan : IsPlan options modules resources link plan = record { options_are = refl; modules_are = refl; resources_are = refl; image_is = is.is_image; map_is = refl; pdb_is = refl; pdb_fits = is.pdb_fits; library_is = refl; library_fits = is.library_fits } in
    let outcome : BuildOutcome options modules resources (Linked plan) = record { link = link; link_is = link_is; is = made_plan } in
    record {
      plan = plan;
      asked = refl;
      outcome = rw planned outcome;
      means = rw image is.means;
      imports = λ other other_is. by_imports other (one_link options modules resources link other link_is other_is);
      exports = λ other other_is. by_exports other (one_link options modules resources link other link_is other_is);
      tree = own_resources;
      map = λ other other_is. by_map other (one_link options modules resources link other link_is other_is);
      pdb = λ other other_is. by_pdb other (one_link options modules resources link other link_is other_is);
      library = λ other other_is. ap (λ (l : KeptParts). library_with l.parts.exports) (one_link options modules resources link other link_is other_is);
      outputs =
          ap (λ (pdbs : List NamedBytes). pdbs ++ (asked_output options.map_file (option_map (λ t. t.items) made.map) ++ (asked_output options.implib (option_map (λ t. t.items) made.library) ++ record { name = options.out; bytes = made.image.items } ∷ [])))
          (ap (λ (it : Option (Vec ℕ _)). asked_output (pdb_name options) (option_map (λ t. t.items) it)) pdb_same
          ∙ ap (asked_output (pdb_name options)) is.pdb_is
          ∙ written_pdb options.debug options.pdb database)
          ∙ ap (λ (maps : List NamedBytes). asked_output (pdb_name options) (Some database) ++ (maps ++ (asked_output options.implib (option_map (λ t. t.items) made.library) ++ record { name = options.out; bytes = made.image.items } ∷ [])))
          (ap (λ (it : Option (Vec ℕ _)). asked_output options.map_file (option_map (λ t. t.items) it)) map_same
          ∙ ap (asked_output options.map_file) is.map_is
          ∙ written_map options.map_file text)
          ∙ ap (λ (libraries : List NamedBytes). asked_output (pdb_name options) (Some database) ++ (asked_output options.map_file (Some text) ++ (libraries ++ record { name = options.out; bytes = made.image.items } ∷ [])))
          (ap (λ (it : Option (Vec ℕ _)). asked_output options.implib (option_map (λ t. t.items) it)) library_same
          ∙ ap (asked_output options.implib) is.library_is
          ∙ written_library options link.parts.exports);
      modules_are = count;
      sections_are = sections ∙ is.count;
    }
  where
    -- the tree has a size where there are resources
    own_resources : 0 < length resources → HoldsEntries resources made.image.items
    own_resources some =
        rw image
        (subst (λ (entries : List Entry). HoldsEntries entries built.image.items) entries
        (is.resources (subst (λ (size : ℕ). 0 < size) (sym sized) (some_size resources some))))
      where
        entries : link.parts.resources.entries ≡ resources
        entries = ap (λ (parts : LinkParts). parts.resources.entries) link_is.parts_are

        sized : link.parts.resources.size ≡ size_of resources
        sized = ap (λ (parts : LinkParts). parts.resources.size) link_is.parts_are

    text : List ℕ
    text = link_map options link is.is_image.rows is.is_image.layout

    database : List ℕ
    database = msf_of (link_streams options link is.is_image.rows is.is_image.layout is.is_image.tables (image_file is.image))

    own_pdb : (other : IsImageOf options link is.image) → database ≡ msf_of (link_streams options link other.rows other.layout other.tables (image_file is.image))
    own_pdb other = ap msf_of (same_streams options link is.image is.image is.is_image other)

    by_pdb : (other : KeptParts) → link ≡ other → (it : IsImageOf options other is.image) → database ≡ msf_of (link_streams options other it.rows it.layout it.tables (image_file is.image))
    by_pdb other same = subst (λ (l : KeptParts). (it : IsImageOf options l is.image) → database ≡ msf_of (link_streams options l it.rows it.layout it.tables (image_file is.image))) same own_pdb

    own_map : (other : IsImageOf options link is.image) → text ≡ link_map options link other.rows other.layout
    own_map other =
        let same = one_placement options link is.is_image.rows other.rows is.is_image.layout other.layout is.is_image.tables other.tables is.is_image.placement other.placement in
        same_map options link is.is_image.rows other.rows is.is_image.layout other.layout same.rows_same same.layouts

    by_map : (other : KeptParts) → link ≡ other → (it : IsImageOf options other is.image) → text ≡ link_map options other it.rows it.layout
    by_map other same = subst (λ (l : KeptParts). (it : IsImageOf options l is.image) → text ≡ link_map options l it.rows it.layout) same own_map

    own_imports : (other : IsImageOf options link is.image) → HoldsImports link other.layout made.image.items
    own_imports other =
        let same = one_placement options link is.is_image.rows other.rows is.is_image.layout other.layout is.is_image.tables other.tables is.is_image.placement other.placement in
        rw image (imports_by_places link is.is_image.layout other.layout built.image.items (sym same.layouts.pieces) is.imports)

    own_exports : (other : IsImageOf options link is.image) → HoldsExports link other.layout made.image.items
    own_exports other =
        let same = one_placement options link is.is_image.rows other.rows is.is_image.layout other.layout is.is_image.tables other.tables is.is_image.placement other.placement in
        rw image (exports_by_places link is.is_image.layout other.layout built.image.items (sym same.layouts.pieces) is.exports)

    by_imports : (other : KeptParts) → link ≡ other → (it : IsImageOf options other is.image) → HoldsImports other it.layout made.image.items
    by_imports other same = subst (λ (l : KeptParts). (it : IsImageOf options l is.image) → HoldsImports l it.layout made.image.items) same own_imports

    by_exports : (other : KeptParts) → link ≡ other → (it : IsImageOf options other is.image) → HoldsExports other it.layout made.image.items
    by_exports other same = subst (λ (l : KeptParts). (it : IsImageOf options l is.image) → HoldsExports l it.layout made.image.items) same own_exports

-- ---- the words

-- an answer of the command that the words say
pub commanded : (words : List (List ℕ)) (command : CommandSaid) (before after : FilesView) (answer : Status) (line : List ℕ) → words_say words ≡ Ok command → CommandAnswers (Ok command) (HasOutcome words) before after answer line → CommandAnswers (words_say words) (HasOutcome words) before after answer line
commanded words command before after answer line said h =
    subst (λ (r : Result CommandSaid RefusedWord). CommandAnswers r (HasOutcome words) before after answer line) (sym said) h

-- an answer of the link that the words ask for
link_answers : (words : List (List ℕ)) (options : LinkOptions) (before after : FilesView) (answer : Status) (line : List ℕ) → words_say words ≡ Ok (Link options) → LinkAnswers (HasOutcome words) (LinkTries options) before after answer line → Answers words before after answer line
link_answers words options before after status.Done line said h = commanded words (Link options) before after status.Done line said h
link_answers words options before after status.Refused line said h = commanded words (Link options) before after status.Refused line said h
link_answers words options before after status.ReadFailed line said h = commanded words (Link options) before after status.ReadFailed line said h
link_answers words options before after status.WriteFailed line said h = commanded words (Link options) before after status.WriteFailed line said h
link_answers words options before after status.Usage line said h = absurd h
link_answers words options before after status.OutOfMemory line said h = absurd h
link_answers words options before after status.PutFailed line said h = absurd h

pub usage_answers : (words : List (List ℕ)) (files : FilesView) (index : ℕ) (kind : List ℕ) (answer : Answer) → ((store : Store) → HasOutcome words store (Usage index kind)) → RefusesWords answer index kind → Answers words files files answer.status answer.line.items
usage_answers words files index kind answer has refuses =
    subst (λ (s : Status). Answers words files files s answer.line.items) (sym refuses.status)
    (index, (kind, record { outcome = has; files = untouched files; says = refuses.line }))

-- words that are refused
pub if_words_refused : (r : Result Answer Memory) (words : List (List ℕ)) (files : FilesView) (index : ℕ) (kind : UsageKind) → words_say words ≡ Err (refuse index kind) → IfOk r (λ answer. RefusesWords answer index (usage_word kind)) → IfOk r (λ answer. Answers words files files answer.status answer.line.items)
if_words_refused (Ok answer) words files index kind said refuses =
    usage_answers words files index (usage_word kind) answer (λ store. record { is = rw said refl }) refuses
if_words_refused (Err error) words files index kind said refuses = tt

-- the link that the words ask for
asked_follows : (words : List (List ℕ)) (files : FilesView) (options : LinkOptions) → words_say words ≡ Ok (Link options) → Follows (LinkOutcome options) (HasOutcome words) files
asked_follows words files options said = λ store told outcome has. record { is = rw said has }

pub if_linked : (r : Result Answer Memory) (words : List (List ℕ)) (before after : FilesView) (options : LinkOptions) → words_say words ≡ Ok (Link options)
    → IfOk r (λ answer. LinkAnswers (LinkOutcome options) (LinkTries options) before after answer.status answer.line.items)
    → IfOk r (λ answer. Answers words before after answer.status answer.line.items)
if_linked (Ok answer) words before after options said h =
    link_answers words options before after answer.status answer.line.items said
    (answers_later (LinkOutcome options) (HasOutcome words) (LinkTries options) before after answer.status answer.line.items (asked_follows words before options said) h)
if_linked (Err error) words before after options said h = tt

pub on_linked : (r : Result Answer Memory) (words : List (List ℕ)) (before after : FilesView) (options : LinkOptions) → words_say words ≡ Ok (Link options)
    → OnErr r (LeftByMemory (LinkOutcome options) before after)
    → OnErr r (LeftByMemory (HasOutcome words) before after)
on_linked (Ok answer) words before after options said h = tt
on_linked (Err error) words before after options said h =
    left_later (LinkOutcome options) (HasOutcome words) before after (asked_follows words before options said) h
