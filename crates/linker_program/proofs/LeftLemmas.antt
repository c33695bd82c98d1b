-- What an answer left, where memory ran out before its line was printed.
use Rattle.std.proofs.Common.{ℕ, List, length, Option, Result, Ok, Err, inl, inr}
use Rattle.link_files.specs.Store.{Store}
use Rattle.link_files.specs.Outside.{FilesView, ReadFailed}
use Rattle.link_words.specs.Outcome.{CommandSaid, Link, At, Show, Gen, Refused as RefusedWord}
use Rattle.link_words.specs.Commands.{words_say}
use Rattle.linker_program.specs.declared.status.Status.{Status}
use Rattle.linker_program.specs.declared.status.Status.TheVariants as status
use Rattle.linker_program.specs.Ending.{Outcome, Usage, Refused}
use Rattle.linker_program.specs.Outcome.{HasOutcome}
use Rattle.linker_program.specs.LinkRun.{outputs_of, LinkTries, ImageTries, PairTries, NothingTried, LinkAnswers, ShowAnswers, CommandAnswers, LeftByMemory, Answers}
use Rattle.linker_program.proofs.StepLemmas.{nothing_written}

left_by_link : (has : Store → Outcome → Type 0) (tries : Option Store → List ℕ → Type 0) (before after : FilesView) (answer : Status) (line : List ℕ) → LinkAnswers has tries before after answer line → LeftByMemory has before after
left_by_link has tries before after status.Done line h =
    inr (h.0, (h.1.0, record { made = h.1.1.made; count = length (outputs_of h.0 h.1.0); files = inl h.1.1.files }))
left_by_link has tries before after status.Refused line h = nothing_written has before after h.1.files
left_by_link has tries before after status.ReadFailed line h = inl (record { store = h.1.files.store; writes = h.1.files.writes })
left_by_link has tries before after status.WriteFailed line h =
    inr (h.0, (h.1.0, record { made = h.1.1.1.made; count = h.1.1.0; files = inr h.1.1.1.files }))
left_by_link has tries before after status.Usage line h = absurd h
left_by_link has tries before after status.OutOfMemory line h = absurd h
left_by_link has tries before after status.PutFailed line h = absurd h

left_by_show : (has : Store → Outcome → Type 0) (tries : Option Store → List ℕ → Type 0) (before after : FilesView) (answer : Status) (line : List ℕ) → ShowAnswers has tries before after answer line → LeftByMemory has before after
left_by_show has tries before after status.Done line h = nothing_written has before after h.files
left_by_show has tries before after status.Refused line h = nothing_written has before after h.1.files
left_by_show has tries before after status.ReadFailed line h = inl (record { store = h.1.files.store; writes = h.1.files.writes })
left_by_show has tries before after status.WriteFailed line h = absurd h
left_by_show has tries before after status.Usage line h = absurd h
left_by_show has tries before after status.OutOfMemory line h = absurd h
left_by_show has tries before after status.PutFailed line h = absurd h

left_by_command : (said : Result CommandSaid RefusedWord) (has : Store → Outcome → Type 0) (before after : FilesView) (answer : Status) (line : List ℕ) → CommandAnswers said has before after answer line → LeftByMemory has before after
left_by_command (Ok (Link options)) has before after answer line h = left_by_link has (LinkTries options) before after answer line h
left_by_command (Ok (At image base rva len)) has before after answer line h = left_by_show has (ImageTries image) before after answer line h
left_by_command (Ok (Show image pdb base symbol len)) has before after answer line h = left_by_show has (PairTries image pdb) before after answer line h
left_by_command (Ok (Gen count)) has before after answer line h = left_by_show has NothingTried before after answer line h
left_by_command (Err word) has before after answer line h = absurd h

pub left_by_answer : (words : List (List ℕ)) (before after : FilesView) (answer : Status) (line : List ℕ) → Answers words before after answer line → LeftByMemory (HasOutcome words) before after
left_by_answer words before after status.Usage line h = nothing_written (HasOutcome words) before after h.1.1.files
left_by_answer words before after status.Done line h = left_by_command (words_say words) (HasOutcome words) before after status.Done line h
left_by_answer words before after status.Refused line h = left_by_command (words_say words) (HasOutcome words) before after status.Refused line h
left_by_answer words before after status.ReadFailed line h = left_by_command (words_say words) (HasOutcome words) before after status.ReadFailed line h
left_by_answer words before after status.WriteFailed line h = left_by_command (words_say words) (HasOutcome words) before after status.WriteFailed line h
left_by_answer words before after status.OutOfMemory line h = left_by_command (words_say words) (HasOutcome words) before after status.OutOfMemory line h
left_by_answer words before after status.PutFailed line h = left_by_command (words_say words) (HasOutcome words) before after status.PutFailed line h
