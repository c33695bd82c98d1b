-- Bytes that part a text, and the parts (MSVC linker reference, "Linker options"; the limits are own).
use Rattle.std.specs.Prelude.{ℕ, Bool, ◌&&◌, ◌||◌, not, ◌==◌, nat_le, nat_lt, if◌then◌else◌, List, length, slice_index, Option, Some, None, position, is_some}
use Rattle.std.specs.List.{before_first, after_first}
use Rattle.std.specs.Str.{byte}
use Rattle.link_base.specs.Bytes.{is_nul}
use Rattle.link_base.specs.Limits.{NAME_LIMIT}

abbrev pub is_quote : ℕ → Bool
is_quote b = b == byte "\""

abbrev pub is_comma : ℕ → Bool
is_comma b = b == byte ","

abbrev pub is_equals : ℕ → Bool
is_equals b = b == byte "="

abbrev pub is_colon : ℕ → Bool
is_colon b = b == byte ":"

abbrev pub is_dot : ℕ → Bool
is_dot b = b == byte "."

-- a word is an option where it begins so
abbrev pub begins_option : List ℕ → Bool
begins_option word = slice_index word 0 == byte "/" || slice_index word 0 == byte "-"

-- a byte of the text passes
abbrev pub has : (ℕ → Bool) → List ℕ → Bool
has test text = is_some (position test text)

-- what stands before the first byte that passes and what stands after it, where there is one
abbrev pub split_at_first : (ℕ → Bool) → List ℕ → Option (List ℕ × List ℕ)
split_at_first test text = if has test text then Some (before_first test text, after_first test text) else None

-- a text that may stand in a word: it is no longer than a name may be, and has no NUL
unfoldable pub is_text : List ℕ → Bool
is_text text = nat_le (length text) NAME_LIMIT && not (has is_nul text)

-- a name is such a text, and not empty
unfoldable pub is_name : List ℕ → Bool
is_name text = nat_lt 0 (length text) && is_text text
