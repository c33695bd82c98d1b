-- An answer of a command that shows something, as one of the words that say the command.
use Rattle.std.proofs.Common.{◌≡◌, ℕ, List, Option, Result, Ok, Err, inl}
use Rattle.std.specs.Prelude.{IfOk, OnErr}
use Rattle.link_base.specs.declared.memory.Memory.{Memory}
use Rattle.link_files.specs.Store.{Store}
use Rattle.link_files.specs.Outside.{FilesView}
use Rattle.link_words.specs.Outcome.{At, Show}
use Rattle.link_words.specs.Commands.{words_say}
use Rattle.linker_program.specs.declared.answer.Answer.{Answer}
use Rattle.linker_program.specs.declared.status.Status.{Status}
use Rattle.linker_program.specs.declared.status.Status.TheVariants as status
use Rattle.linker_program.specs.Ending.{Outcome, Refused, Shown}
use Rattle.linker_program.specs.Outcome.{HasOutcome}
use Rattle.linker_program.specs.Shown.{AtOutcome, ShowOutcome}
use Rattle.linker_program.specs.LinkRun.{ImageTries, PairTries, CommandAnswers, ShowAnswers, NothingWritten, LeftByMemory, Answers}
use Rattle.linker_program.proofs.StepLemmas.{Follows, expects_later, commanded}

shown_later : (has later : Store → Outcome → Type 0) (tries : Option Store → List ℕ → Type 0) (before after : FilesView) (answer : Status) (line : List ℕ) → Follows has later before → ShowAnswers has tries before after answer line → ShowAnswers later tries before after answer line
shown_later has later tries before after status.Done line follows h =
    record { outcome = expects_later has later before (Shown line) follows h.outcome; files = h.files }
shown_later has later tries before after status.Refused line follows h =
    (h.0, record { outcome = expects_later has later before (Refused h.0) follows h.1.outcome; files = h.1.files; says = h.1.says })
shown_later has later tries before after status.ReadFailed line follows h = h
shown_later has later tries before after status.WriteFailed line follows h = absurd h
shown_later has later tries before after status.Usage line follows h = absurd h
shown_later has later tries before after status.OutOfMemory line follows h = absurd h
shown_later has later tries before after status.PutFailed line follows h = absurd h

-- an answer that is not to the words alone
answers_said : (words : List (List ℕ)) (tries : Option Store → List ℕ → Type 0) (before after : FilesView) (answer : Status) (line : List ℕ) → ShowAnswers (HasOutcome words) tries before after answer line → CommandAnswers (words_say words) (HasOutcome words) before after answer line → Answers words before after answer line
answers_said words tries before after status.Done line h said = said
answers_said words tries before after status.Refused line h said = said
answers_said words tries before after status.ReadFailed line h said = said
answers_said words tries before after status.WriteFailed line h said = absurd h
answers_said words tries before after status.Usage line h said = absurd h
answers_said words tries before after status.OutOfMemory line h said = absurd h
answers_said words tries before after status.PutFailed line h said = absurd h

at_follows : (words : List (List ℕ)) (files : FilesView) (name : List ℕ) (base rva len : ℕ) → words_say words ≡ Ok (At name base rva len) → Follows (AtOutcome name base rva len) (HasOutcome words) files
at_follows words files name base rva len said = λ store told outcome has. record { is = rw said has }

pub if_at : (r : Result Answer Memory) (words : List (List ℕ)) (name : List ℕ) (base rva len : ℕ) (before after : FilesView) → words_say words ≡ Ok (At name base rva len) → IfOk r (λ answer. ShowAnswers (AtOutcome name base rva len) (ImageTries name) before after answer.status answer.line.items) → IfOk r (λ answer. Answers words before after answer.status answer.line.items)
if_at (Ok answer) words name base rva len before after said h =
    let later = shown_later (AtOutcome name base rva len) (HasOutcome words) (ImageTries name) before after answer.status answer.line.items (at_follows words before name base rva len said) h in
    answers_said words (ImageTries name) before after answer.status answer.line.items later
    (commanded words (At name base rva len) before after answer.status answer.line.items said later)
if_at (Err error) words name base rva len before after said h = tt

show_follows : (words : List (List ℕ)) (files : FilesView) (image pdb : List ℕ) (base : ℕ) (symbol : List ℕ) (len : ℕ) → words_say words ≡ Ok (Show image pdb base symbol len) → Follows (ShowOutcome image pdb base symbol len) (HasOutcome words) files
show_follows words files image pdb base symbol len said = λ store told outcome has. record { is = rw said has }

pub if_show : (r : Result Answer Memory) (words : List (List ℕ)) (image pdb : List ℕ) (base : ℕ) (symbol : List ℕ) (len : ℕ) (before after : FilesView) → words_say words ≡ Ok (Show image pdb base symbol len) → IfOk r (λ answer. ShowAnswers (ShowOutcome image pdb base symbol len) (PairTries image pdb) before after answer.status answer.line.items) → IfOk r (λ answer. Answers words before after answer.status answer.line.items)
if_show (Ok answer) words image pdb base symbol len before after said h =
    let later = shown_later (ShowOutcome image pdb base symbol len) (HasOutcome words) (PairTries image pdb) before after answer.status answer.line.items (show_follows words before image pdb base symbol len said) h in
    answers_said words (PairTries image pdb) before after answer.status answer.line.items later
    (commanded words (Show image pdb base symbol len) before after answer.status answer.line.items said later)
if_show (Err error) words image pdb base symbol len before after said h = tt

pub on_show : (r : Result Answer Memory) (words : List (List ℕ)) (before after : FilesView) → OnErr r (NothingWritten before after) → OnErr r (LeftByMemory (HasOutcome words) before after)
on_show (Ok answer) words before after h = tt
on_show (Err error) words before after h = inl h
