-- What the steps of a command that shows something promise to one another.
use Rattle.std.specs.Prelude.{◌≡◌, ℕ, List, Option, Result, Ok, Err, Vec}
use Rattle.std.specs.Option.{ForSome}
use Rattle.link_base.specs.declared.fault.Fault.{Fault}
use Rattle.link_base.specs.declared.stop.Stop.{Stop}
use Rattle.link_base.specs.declared.stop.Stop.TheVariants as stop
use Rattle.link_files.specs.Store.{Store}
use Rattle.link_files.specs.Outside.{FilesView, AreUntouched, ReadFailed}
use Rattle.linker_program.specs.declared.answer.Answer.{Answer}
use Rattle.linker_program.specs.declared.status.Status.TheVariants as status
use Rattle.linker_program.specs.LinkRun.{NothingWritten}
use Rattle.linker_program.specs.Steps.{Refuses, TellsReadFailure}

-- what is expected of the files came of them; every file is as it was
pub record CameOf (expected : Store → Result (List ℕ) Fault) (before after : FilesView) (came : Result (List ℕ) Fault) : Type 0 where
  pub told : ForSome before.store (λ store. expected store ≡ came)
  pub files : AreUntouched before after

-- the read of a file failed
pub record ReadStopped (tries : Option Store → List ℕ → Type 0) (before after : FilesView) (name : List ℕ) : Type 0 where
  pub tried : tries before.store name
  pub files : ReadFailed before after

-- bytes or a fault as expected, a read that failed, or want of memory
abbrev pub GivesBytes : {A : Type 0} → (Store → Result (List ℕ) Fault) → (Option Store → List ℕ → Type 0) → FilesView → FilesView → Result (Vec ℕ A) Stop → Type 0
GivesBytes expected tries before after (Ok bytes) = CameOf expected before after (Ok bytes.items)
GivesBytes expected tries before after (Err (stop.Fault fault)) = CameOf expected before after (Err fault)
GivesBytes expected tries before after (Err (stop.Read name)) = ReadStopped tries before after name
GivesBytes expected tries before after (Err stop.Memory) = NothingWritten before after

-- an answer that says what was made; of want of memory there is none
abbrev pub SaysMade : {A : Type 0} → Answer → Result (Vec ℕ A) Stop → Type 0
SaysMade answer (Ok line) = (answer.status ≡ status.Done) × (answer.line.items ≡ line.items)
SaysMade answer (Err (stop.Fault fault)) = Refuses answer fault
SaysMade answer (Err (stop.Read name)) = TellsReadFailure answer name
SaysMade answer (Err stop.Memory) = ⊥
