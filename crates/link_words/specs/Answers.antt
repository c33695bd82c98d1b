-- What an answer says against what is expected: the value, or a refusal by its index and kind, or nothing for want of memory.
use Rattle.std.specs.Prelude.{◌≡◌, Result, Ok, Err}
use Rattle.link_words.specs.Outcome.{Refused, refuse}
use Rattle.link_words.specs.declared.errors.WordsError.{WordsError}
use Rattle.link_words.specs.declared.errors.WordsError.TheVariants.{Usage, Memory}

abbrev pub Answers : {A B : Type 0} → (A → B) → Result B Refused → Result A WordsError → Type 0
Answers view expected (Ok value) = expected ≡ Ok (view value)
Answers view expected (Err Memory) = Unit {0}
Answers view expected (Err (Usage index kind)) = expected ≡ Err (refuse index kind)
