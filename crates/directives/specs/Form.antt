-- The form of a value: where its quotes may stand, and how it falls into parts (MSVC linker reference, "Linker options"). Own in its corners.
use Rattle.std.specs.Prelude.{ℕ, Bool, true, ◌&&◌, ◌||◌, not, if◌then◌else◌, List, [], ◌∷◌, slice_index, drop, Option, Some, None, option_and_then}
use Rattle.std.specs.List.{before_first, after_first}
use Rattle.directives.specs.Text.{is_quote, is_comma, is_equals, has, split_at_first}

-- what stands after a quoted first part: nothing, or a comma or `=` and text without quotes
abbrev pub may_follow_quotes : List ℕ → Bool
may_follow_quotes [] = true
may_follow_quotes (b ∷ text) = (is_comma b || is_equals b) && not (has is_quote text)

-- what is left of a value after its quotes, where something is
abbrev pub some_text : List ℕ → Option (List ℕ)
some_text [] = None
some_text (b ∷ text) = Some (b ∷ text)

-- the form of a value, from after the quote that it begins with
unfoldable pub quoted_form : List ℕ → Option (List ℕ × Option (List ℕ))
quoted_form text =
    if has is_quote text && may_follow_quotes (after_first is_quote text)
    then Some (before_first is_quote text, some_text (after_first is_quote text)) else None

-- a value without quotes, or one quoted text, with nothing after it; or a quoted first part and what stands after it
unfoldable pub form : List ℕ → Option (List ℕ × Option (List ℕ))
form value =
    if is_quote (slice_index value 0) then quoted_form (drop 1 value)
    else (if has is_quote value then None else Some (value, None))

-- a value of one part
abbrev pub alone : List ℕ × Option (List ℕ) → Option (List ℕ)
alone (first, None) = Some first
alone (first, Some after) = None

unfoldable pub whole : List ℕ → Option (List ℕ)
whole value = option_and_then alone (form value)

abbrev pub two_after : (ℕ → Bool) → List ℕ → List ℕ → Option (List ℕ × List ℕ)
two_after separates first [] = None
two_after separates first (b ∷ second) = if separates b then Some (first, second) else None

-- a value of two parts, split at the first separator, or right after the quotes of the first part
abbrev pub two : (ℕ → Bool) → List ℕ × Option (List ℕ) → Option (List ℕ × List ℕ)
two separates (text, None) = split_at_first separates text
two separates (first, Some after) = two_after separates first after

unfoldable pub pair : (ℕ → Bool) → List ℕ → Option (List ℕ × List ℕ)
pair separates value = option_and_then (two separates) (form value)
