-- What the steps of a run promise to one another.
use Rattle.std.specs.Prelude.{◌≡◌, ℕ, List, length, ◌⊎◌}
use Rattle.link_base.specs.declared.fault.Fault.{Fault}
use Rattle.link_base.specs.declared.stop.Refusal.{Refusal}
use Rattle.link_base.specs.declared.stop.Refusal.TheVariants as refusal
use Rattle.diagnostics.specs.FaultLine.{fault_line_text}
use Rattle.link_files.specs.Store.{Store}
use Rattle.link_files.specs.Outside.{FilesView}
use Rattle.link_files.specs.Outputs.{NamedBytes, output_at, FirstWritten, NextTorn}
use Rattle.image_writer.specs.ExpectedImage.{MeansPlan}
use Rattle.res_merge.specs.Entries.{Entry}
use Rattle.module_view.specs.Module.{ModuleView}
use Rattle.link_words.specs.Outcome.{LinkOptions}
use Rattle.linker_program.specs.declared.answer.Answer.{Answer}
use Rattle.linker_program.specs.declared.linked.Linked.{Linked as LinkedBytes}
use Rattle.linker_program.specs.declared.status.Status.{Status}
use Rattle.linker_program.specs.declared.status.Status.TheVariants as status
use Rattle.linker_program.specs.Ending.{Outcome, Refused, Linked, Plan}
use Rattle.linker_program.specs.Outcome.{ModulesOutcome}
use Rattle.linker_program.specs.RunLines.{usage_line, read_failure_line, write_failure_line}
use Rattle.linker_program.specs.LinkRun.{NothingWritten, HasImports, HasExports, HasResources, HasMap, HasPdb, HasLibrary, outputs_of}
use Rattle.linker_program.specs.WriteSteps.{linked_outputs}

-- ---- answers

-- an answer that refuses the input
pub record Refuses (answer : Answer) (fault : Fault) : Type 0 where
  pub status : answer.status ≡ status.Refused
  pub line : answer.line.items ≡ fault_line_text fault

-- an answer that refuses the words
pub record RefusesWords (answer : Answer) (index : ℕ) (kind : List ℕ) : Type 0 where
  pub status : answer.status ≡ status.Usage
  pub line : answer.line.items ≡ usage_line index kind

-- an answer for a read that failed
pub record TellsReadFailure (answer : Answer) (name : List ℕ) : Type 0 where
  pub status : answer.status ≡ status.ReadFailed
  pub line : answer.line.items ≡ read_failure_line name

-- ---- a link of modules that joined

-- the outcome of any files, once the modules have joined
abbrev pub ModulesHave : LinkOptions → List ModuleView → List Entry → Store → Outcome → Type 0
ModulesHave options modules resources store outcome = ModulesOutcome options modules resources outcome

-- what was made is the outcome of the modules
pub record IsLinked (options : LinkOptions) (modules : List ModuleView) (resources : List Entry) (linked : LinkedBytes) : Type 0 where
  pub plan : Plan
  pub asked : plan.options ≡ options
  pub outcome : ModulesOutcome options modules resources (Linked plan)
  pub means : MeansPlan plan.image linked.image.items
  pub imports : HasImports plan linked.image.items
  pub exports : HasExports plan linked.image.items
  pub tree : HasResources plan linked.image.items
  pub map : HasMap plan
  pub pdb : HasPdb plan
  pub library : HasLibrary plan
  pub outputs : linked_outputs options linked ≡ outputs_of plan linked.image.items
  pub modules_are : linked.modules ≡ length plan.modules
  pub sections_are : linked.sections ≡ length plan.image.rows

-- the fault is the outcome of the modules; of want of memory nothing is said
abbrev pub RefusesModules : LinkOptions → List ModuleView → List Entry → Refusal → Type 0
RefusesModules options modules resources (refusal.Fault fault) = ModulesOutcome options modules resources (Refused fault)
RefusesModules options modules resources refusal.Memory = Unit {0}

-- ---- the outputs

-- all outputs were written, and the answer says this line
pub record WroteOutputs (before after : FilesView) (outputs : List NamedBytes) (summary line : List ℕ) : Type 0 where
  pub files : FirstWritten before after outputs (length outputs)
  pub says : line ≡ summary

-- the write of one failed, and the answer names it
pub record FailedToWrite (before after : FilesView) (outputs : List NamedBytes) (index : ℕ) (line : List ℕ) : Type 0 where
  pub files : NextTorn before after outputs index
  pub says : line ≡ write_failure_line (output_at outputs index).name

abbrev pub AnswersWrite : FilesView → FilesView → List NamedBytes → List ℕ → Status → List ℕ → Type 0
AnswersWrite before after outputs summary status.Done line = WroteOutputs before after outputs summary line
AnswersWrite before after outputs summary status.WriteFailed line = (index : ℕ) × FailedToWrite before after outputs index line
AnswersWrite before after outputs summary status.Refused line = ⊥
AnswersWrite before after outputs summary status.Usage line = ⊥
AnswersWrite before after outputs summary status.OutOfMemory line = ⊥
AnswersWrite before after outputs summary status.ReadFailed line = ⊥
AnswersWrite before after outputs summary status.PutFailed line = ⊥

-- memory ran out before the writes, or after some of them
abbrev pub LeftByWrites : FilesView → FilesView → List NamedBytes → Type 0
LeftByWrites before after outputs =
    NothingWritten before after ⊎ ((count : ℕ) × (FirstWritten before after outputs count ⊎ NextTorn before after outputs count))
