-- What the steps of a generated program promise to one another.
use Rattle.std.specs.Prelude.{◌≡◌, ℕ}
use Rattle.linker_program.specs.declared.answer.Answer.{Answer}
use Rattle.linker_program.specs.declared.status.Status.TheVariants as status
use Rattle.linker_program.specs.Ending.{Outcome, Usage, Refused, Linked, Shown}
use Rattle.linker_program.specs.Generated.{generated_shown}
use Rattle.linker_program.specs.Outcome.{GenOutcome}
use Rattle.linker_program.specs.Steps.{Refuses, RefusesWords}

-- an answer that says what is shown
abbrev pub Says : Answer → Outcome → Type 0
Says answer (Shown line) = (answer.status ≡ status.Done) × (answer.line.items ≡ line)
Says answer (Refused fault) = Refuses answer fault
Says answer (Usage index kind) = ⊥
Says answer (Linked plan) = ⊥

-- an answer that shows what comes of a link of so many objects; `has` are the outcomes that the link has
pub record TellsLink (has : Outcome → Type 0) (count : ℕ) (answer : Answer) : Type 0 where
  pub link : Outcome
  pub linked : has link
  pub says : Says answer (generated_shown count link)

-- an answer that says an outcome; words may be refused
abbrev pub SaysAny : Answer → Outcome → Type 0
SaysAny answer (Usage index kind) = RefusesWords answer index kind
SaysAny answer other = Says answer other

-- an answer that says the outcome of a generated program
pub record TellsGenerated (count : ℕ) (answer : Answer) : Type 0 where
  pub outcome : Outcome
  pub is : GenOutcome count outcome
  pub says : SaysAny answer outcome
