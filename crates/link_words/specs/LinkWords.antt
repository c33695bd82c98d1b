-- The words of a link: the least that is refused, or the options that all of them give.
use Rattle.std.specs.Prelude.{ℕ, ◌+◌, ◌&&◌, ◌||◌, not, ◌==◌, List, [], ◌∷◌, length, slice_index_or, Option, Some, None, option_map, Result, Ok, Err}
use Rattle.std.specs.Option.{option_or}
use Rattle.std.specs.List.{filter_map}
use Rattle.link_base.specs.Refusals.{shown, first_standing, first_refusal_below}
use Rattle.link_words.specs.Setting.{Setting, word_says, said_in, refusal_in}
use Rattle.link_words.specs.Options.{options_of, outputs_clash, lacks_image_name}
use Rattle.link_words.specs.declared.errors.UsageKind.TheVariants.{NoInput, Conflict}
use Rattle.link_words.specs.Outcome.{LinkOptions, CommandSaid, Link}
pub use Rattle.link_words.specs.Outcome.{Refused, refuse}

abbrev pub word_at : List (List ℕ) → ℕ → List ℕ
word_at words index = slice_index_or words index []

-- the least word that is refused, where the first of these has the index 1
unfoldable pub word_refusal : List (List ℕ) → Option Refused
word_refusal words =
    first_refusal_below (length words) (λ k. option_map (refuse (k + 1)) (refusal_in (word_says (word_at words k))))

-- what the words say
unfoldable pub settings : List (List ℕ) → List Setting
settings words = filter_map (λ word. said_in (word_says word)) words

-- a link has an input; a link without an entry is a DLL, the files that it writes have names of their own, and an image with an
-- import library has a name
unfoldable pub line_refusal : LinkOptions → Option Refused
line_refusal options =
    first_standing (
    shown (length options.inputs == 0) (refuse 0 NoInput)
    ∷ shown ((options.noentry && not options.dll) || (outputs_clash options || lacks_image_name options)) (refuse 0 Conflict) ∷ [])

-- the whole line is judged where no word is refused
unfoldable pub link_refusal : List (List ℕ) → Option Refused
link_refusal words = option_or (word_refusal words) (line_refusal (options_of (settings words)))

abbrev pub unless_refused : {A : Type 0} → Option Refused → A → Result A Refused
unless_refused None value = Ok value
unless_refused (Some refused) value = Err refused

unfoldable pub link_says : List (List ℕ) → Result CommandSaid Refused
link_says words = unless_refused (link_refusal words) (Link (options_of (settings words)))
