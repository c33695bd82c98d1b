-- The words of a command line: which command, and with what. Own.
use Rattle.std.specs.Prelude.{ℕ, ◌&&◌, ◌==◌, nat_le, if◌then◌else◌, List, [], ◌∷◌, length, Option, Some, None, option_and_then, Result, Ok, Err, codes}
use Rattle.std.specs.Option.{ok_or}
use Rattle.std.specs.Str.{bytes_eq}
use Rattle.directives.specs.Text.{is_text}
use Rattle.directives.specs.Number.{number_up_to}
use Rattle.link_words.specs.LinkWords.{word_at, link_says}
use Rattle.link_words.specs.Outcome.{CommandSaid, At, Show, Gen, Refused, refuse}
use Rattle.link_words.specs.declared.errors.UsageKind.TheVariants as kind

-- the first refusal ends it
infixl 10 ◌>>=◌
abbrev pub ◌>>=◌ : {A B : Type 0} → Result A Refused → (A → Result B Refused) → Result B Refused
Ok value >>= go_on = go_on value
Err refused >>= go_on = Err refused

-- a number says itself
abbrev pub same : ℕ → ℕ
same number = number

-- a word that is a name
unfoldable pub text_word : List (List ℕ) → ℕ → Result (List ℕ) Refused
text_word words index =
    if is_text (word_at words index) then Ok (word_at words index) else Err (refuse index kind.BadValue)

-- a word that is a number within bounds
abbrev pub at_least : ℕ → ℕ → Option ℕ
at_least low n = if nat_le low n then Some n else None

unfoldable pub number_word : List (List ℕ) → ℕ → ℕ → ℕ → Result ℕ Refused
number_word words index low high =
    ok_or (option_and_then (at_least low) (number_up_to high (word_at words index))) (refuse index kind.BadValue)

-- `at IMAGE BASE RVA LENGTH`
unfoldable pub at_says : List (List ℕ) → Result CommandSaid Refused
at_says words = do
  image ← text_word words 1
  base ← number_word words 2 0 18446744073709551615
  rva ← number_word words 3 0 4294967295
  len ← number_word words 4 0 65536
  Ok (At image base rva len)

-- `show IMAGE PDB BASE SYMBOL LENGTH`
unfoldable pub show_says : List (List ℕ) → Result CommandSaid Refused
show_says words = do
  image ← text_word words 1
  pdb ← text_word words 2
  base ← number_word words 3 0 18446744073709551615
  symbol ← text_word words 4
  len ← number_word words 5 0 65536
  Ok (Show image pdb base symbol len)

-- `gen N`
unfoldable pub gen_says : List (List ℕ) → Result CommandSaid Refused
gen_says words = do
  n ← number_word words 1 1 2000
  Ok (Gen n)

abbrev pub wrong_command : Result CommandSaid Refused
wrong_command = Err (refuse 0 kind.Command)

-- a command, with as many words as it takes
unfoldable pub words_say : List (List ℕ) → Result CommandSaid Refused
words_say [] = wrong_command
words_say (command ∷ words) =
    if bytes_eq command (codes "link") then link_says words else
    (if bytes_eq command (codes "at") && length words == 4 then at_says (command ∷ words) else
    (if bytes_eq command (codes "show") && length words == 5 then show_says (command ∷ words) else
    (if bytes_eq command (codes "gen") && length words == 1 then gen_says (command ∷ words) else wrong_command)))
