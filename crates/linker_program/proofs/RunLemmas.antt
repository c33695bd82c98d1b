-- The status that is owed, from what a run promises.
use Rattle.std.proofs.Common.{◌≡◌, ℕ, List, Option, Some, Result, Ok, Err, refl, ap, ◌∙◌, inl, inr, ◌⊎◌, arith}
use Rattle.link_files.specs.Store.{Store}
use Rattle.link_files.specs.Outside.{FilesView, SinkView}
use Rattle.link_words.specs.Outcome.{CommandSaid, Link, At, Show, Gen, Refused as RefusedWord}
use Rattle.link_words.specs.Commands.{words_say}
use Rattle.linker_program.specs.declared.status.Status.{Status}
use Rattle.linker_program.specs.declared.status.Status.TheVariants as status
use Rattle.linker_program.specs.Ending.{Outcome, Usage, Refused, Linked, Shown}
use Rattle.linker_program.specs.Outcome.{HasOutcome}
use Rattle.linker_program.specs.LinkRun.{status_code, LinkTries, ImageTries, PairTries, NothingTried, LinkAnswers, ShowAnswers, CommandAnswers, RanWith, Ran, outcome_code, IsQuiet, IsOwed}
use Rattle.linker_program.proofs.OutcomeLemmas.{one_outcome}

-- the outcome of an answer is the expected one
code_of_link : (words : List (List ℕ)) (tries : Option Store → List ℕ → Type 0) (before after : FilesView) (store : Store) (outcome : Outcome) (answer : Status) (line : List ℕ)
    → before.store ≡ Some store → after.read_faults ≡ before.read_faults → after.write_faults ≡ before.write_faults → HasOutcome words store outcome
    → LinkAnswers (HasOutcome words) tries before after answer line → status_code answer ≡ outcome_code outcome
code_of_link words tries before after store outcome status.Done line told reads writes has h =
    ap outcome_code (one_outcome words store (Linked h.0) outcome (h.1.1.made.outcome.told store told) has)
code_of_link words tries before after store outcome status.Refused line told reads writes has h =
    ap outcome_code (one_outcome words store (Refused h.0) outcome (h.1.outcome.told store told) has)
code_of_link words tries before after store outcome status.ReadFailed line told reads writes has h = absurd (omega (arith, h.1.files.reads, reads))
code_of_link words tries before after store outcome status.WriteFailed line told reads writes has h = absurd (omega (arith, h.1.1.1.files.writes, writes))
code_of_link words tries before after store outcome status.Usage line told reads writes has h = absurd h
code_of_link words tries before after store outcome status.OutOfMemory line told reads writes has h = absurd h
code_of_link words tries before after store outcome status.PutFailed line told reads writes has h = absurd h

code_of_show : (words : List (List ℕ)) (tries : Option Store → List ℕ → Type 0) (before after : FilesView) (store : Store) (outcome : Outcome) (answer : Status) (line : List ℕ)
    → before.store ≡ Some store → after.read_faults ≡ before.read_faults → HasOutcome words store outcome
    → ShowAnswers (HasOutcome words) tries before after answer line → status_code answer ≡ outcome_code outcome
code_of_show words tries before after store outcome status.Done line told reads has h =
    ap outcome_code (one_outcome words store (Shown line) outcome (h.outcome.told store told) has)
code_of_show words tries before after store outcome status.Refused line told reads has h =
    ap outcome_code (one_outcome words store (Refused h.0) outcome (h.1.outcome.told store told) has)
code_of_show words tries before after store outcome status.ReadFailed line told reads has h = absurd (omega (arith, h.1.files.reads, reads))
code_of_show words tries before after store outcome status.WriteFailed line told reads has h = absurd h
code_of_show words tries before after store outcome status.Usage line told reads has h = absurd h
code_of_show words tries before after store outcome status.OutOfMemory line told reads has h = absurd h
code_of_show words tries before after store outcome status.PutFailed line told reads has h = absurd h

code_of_command : (said : Result CommandSaid RefusedWord) (words : List (List ℕ)) (before after : FilesView) (store : Store) (outcome : Outcome) (answer : Status) (line : List ℕ)
    → before.store ≡ Some store → after.read_faults ≡ before.read_faults → after.write_faults ≡ before.write_faults → HasOutcome words store outcome
    → CommandAnswers said (HasOutcome words) before after answer line → status_code answer ≡ outcome_code outcome
code_of_command (Ok (Link options)) words before after store outcome answer line told reads writes has h =
    code_of_link words (LinkTries options) before after store outcome answer line told reads writes has h
code_of_command (Ok (At image base rva len)) words before after store outcome answer line told reads writes has h =
    code_of_show words (ImageTries image) before after store outcome answer line told reads has h
code_of_command (Ok (Show image pdb base symbol len)) words before after store outcome answer line told reads writes has h =
    code_of_show words (PairTries image pdb) before after store outcome answer line told reads has h
code_of_command (Ok (Gen count)) words before after store outcome answer line told reads writes has h =
    code_of_show words NothingTried before after store outcome answer line told reads has h
code_of_command (Err word) words before after store outcome answer line told reads writes has h = absurd h

code_of_status : (words : List (List ℕ)) (before after : FilesView) (shown shown_after : SinkView) (store : Store) (outcome : Outcome) (answer : Status)
    → before.store ≡ Some store → IsQuiet before after shown shown_after → HasOutcome words store outcome
    → RanWith words before after shown shown_after answer → (status_code answer ≡ outcome_code outcome) ⊎ (status_code answer ≡ 3)
code_of_status words before after shown shown_after store outcome status.Done told quiet has ran =
    inl (code_of_command (words_say words) words before after store outcome status.Done ran.0 told quiet.reads quiet.writes has ran.1.found)
code_of_status words before after shown shown_after store outcome status.Refused told quiet has ran =
    inl (code_of_command (words_say words) words before after store outcome status.Refused ran.0 told quiet.reads quiet.writes has ran.1.found)
code_of_status words before after shown shown_after store outcome status.Usage told quiet has ran =
    let found = ran.1.found in
    inl (ap outcome_code (one_outcome words store (Usage found.0 found.1.0) outcome (found.1.1.outcome store) has))
code_of_status words before after shown shown_after store outcome status.OutOfMemory told quiet has ran = inr refl
code_of_status words before after shown shown_after store outcome status.ReadFailed told quiet has ran =
    inl (code_of_command (words_say words) words before after store outcome status.ReadFailed ran.0 told quiet.reads quiet.writes has ran.1.found)
code_of_status words before after shown shown_after store outcome status.WriteFailed told quiet has ran =
    inl (code_of_command (words_say words) words before after store outcome status.WriteFailed ran.0 told quiet.reads quiet.writes has ran.1.found)
code_of_status words before after shown shown_after store outcome status.PutFailed told quiet has ran =
    absurd (omega (arith, ran.1.1.printed.faults, quiet.puts))

either_code : (code answer wanted : ℕ) → code ≡ answer → (answer ≡ wanted) ⊎ (answer ≡ 3) → (code ≡ wanted) ⊎ (code ≡ 3)
either_code code answer wanted is h = elim h [
  | inl same ↦ inl (is ∙ same)
  | inr three ↦ inr (is ∙ three)
]

pub owed : (words : List (List ℕ)) (before after : FilesView) (shown shown_after : SinkView) (code : ℕ) → Ran words before after shown shown_after code → IsOwed words before after shown shown_after code
owed words before after shown shown_after code ran = record {
  owed = λ store outcome told quiet has.
      either_code code (status_code ran.status) (outcome_code outcome) ran.code_is
      (code_of_status words before after shown shown_after store outcome ran.status told quiet has ran.ran);
}
