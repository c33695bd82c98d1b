-- A text of directives, as words and as what they say (PE Format, "The .drectve Section (Object Only)").
use Rattle.std.specs.Prelude.{ℕ, zero, suc, ◌+◌, ◌%◌, Bool, ◌&&◌, ◌||◌, not, ◌==◌, nat_eq, if◌then◌else◌, List, [], ◌∷◌, length, slice_index, take, drop, count_by, Option, Some, None, option_map, option_and_then, unwrap_or, Result, Ok, Err}
use Rattle.std.specs.List.{before_first, after_first, starts_with}
use Rattle.link_base.specs.Bytes.{first_below}
use Rattle.directives.specs.Said.{Said}
use Rattle.directives.specs.Text.{is_quote, is_colon, begins_option, split_at_first}
use Rattle.directives.specs.Names.{listed}
use Rattle.directives.specs.Value.{listed_said}
use Rattle.directives.specs.declared.item.BadDirective.{BadDirective}

-- blank, tabulator, line feed, carriage return and NUL
abbrev pub is_blank : ℕ → Bool
is_blank b = b == 32 || b == 9 || b == 10 || b == 13 || b == 0

-- an odd number of quotes stands in the text, so the last of them is open
unfoldable pub leaves_open : List ℕ → Bool
leaves_open text = count_by is_quote text % 2 == 1

-- a word ends at a blank that no open quote stands before
unfoldable pub ends_word : List ℕ → ℕ → Bool
ends_word text k = is_blank (slice_index text k) && not (leaves_open (take k text))

-- how long the word is that a text begins with
unfoldable pub word_len : List ℕ → ℕ
word_len text = unwrap_or (first_below (length text) (ends_word text)) (length text)

-- a word, and where it stands
pub record Word : Type 0 where
  pub start : ℕ
  pub text : List ℕ

-- the word that a text begins with, which stands at `start`
abbrev pub word_at : ℕ → List ℕ → Word
word_at start text = record { start = start; text = take (word_len text) text }

-- the words of a text that stands at `start`; n is at least the number of its bytes
unfoldable pub words : ℕ → ℕ → List ℕ → List Word
words zero start text = []
words (suc n) start [] = []
words (suc n) start (b ∷ text) =
    if is_blank b then words n (start + 1) text
    else word_at start (b ∷ text) ∷ words n (start + word_len (b ∷ text)) (drop (word_len (b ∷ text)) (b ∷ text))

-- the last quote among the first n bytes
unfoldable pub last_quote : ℕ → List ℕ → ℕ
last_quote zero text = 0
last_quote (suc n) text = if is_quote (slice_index text n) then n else last_quote n text

-- the quote that stays open in a text, where one does
unfoldable pub open_quote : List ℕ → Option ℕ
open_quote text = if leaves_open text then Some (last_quote (length text) text) else None

-- a word quoted as a whole is what stands between its quotes: the second quote is its last byte
abbrev pub between : List ℕ × List ℕ → Option (List ℕ)
between (inner, []) = Some inner
between (inner, b ∷ after) = None

unfoldable pub quoted_contents : List ℕ → Option (List ℕ)
quoted_contents text =
    if is_quote (slice_index text 0) then option_and_then between (split_at_first is_quote (drop 1 text)) else None

unfoldable pub contents : List ℕ → List ℕ
contents text = unwrap_or (quoted_contents text) text

-- a directive, or a malformed one by where its word begins
abbrev pub directive_or_bad : ℕ → Option Said → Result Said BadDirective
directive_or_bad start None = Err (record { at = start })
directive_or_bad start (Some said) = Ok said

-- what an option says: nothing where its name, which runs to the first colon, is not in the table
unfoldable pub option_says : ℕ → List ℕ → Option (Result Said BadDirective)
option_says start text =
    option_map (λ name. directive_or_bad start (listed_said (after_first is_colon text) name)) (listed (before_first is_colon text))

-- a word that is no option says nothing
unfoldable pub contents_say : ℕ → List ℕ → Option (Result Said BadDirective)
contents_say start text = if begins_option text then option_says start (drop 1 text) else None

-- an open quote is malformed at that quote
abbrev pub open_or_says : Word → Option ℕ → Option (Result Said BadDirective)
open_or_says word None = contents_say word.start (contents word.text)
open_or_says word (Some k) = Some (Err (record { at = word.start + k }))

unfoldable pub word_says : Word → Option (Result Said BadDirective)
word_says word = open_or_says word (open_quote word.text)

-- a list of words ends at the first malformed one
abbrev pub says_before : Option (Result Said BadDirective) → List (Result Said BadDirective) → List (Result Said BadDirective)
says_before None rest = rest
says_before (Some (Ok said)) rest = Ok said ∷ rest
says_before (Some (Err bad)) rest = Err bad ∷ []

unfoldable pub words_say : List Word → List (Result Said BadDirective)
words_say [] = []
words_say (word ∷ rest) = says_before (word_says word) (words_say rest)

-- what a text says that stands at `start`
unfoldable pub text_says : ℕ → List ℕ → List (Result Said BadDirective)
text_says start text = words_say (words (length text) start text)

-- a byte order mark is passed over
abbrev pub byte_order_mark : List ℕ
byte_order_mark = 0xEF ∷ 0xBB ∷ 0xBF ∷ []

-- the directives of a text: those before the first malformed place and that place
unfoldable pub directives_of : List ℕ → List (Result Said BadDirective)
directives_of text = if starts_with nat_eq text byte_order_mark then text_says 3 (drop 3 text) else text_says 0 text
