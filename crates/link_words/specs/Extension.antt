-- File names: the extension runs from the last dot after the last slash. Own.
use Rattle.std.specs.Prelude.{ℕ, Bool, ◌||◌, ◌==◌, if◌then◌else◌, List, ◌++◌}
use Rattle.std.specs.List.{before_last, after_last}
use Rattle.std.specs.Str.{byte}
use Rattle.directives.specs.Text.{has, is_dot}

abbrev pub is_slash : ℕ → Bool
is_slash b = b == byte "/" || b == byte "\\"

-- the name without its extension
unfoldable pub stem : List ℕ → List ℕ
stem name = if has is_dot (after_last is_slash name) then before_last is_dot name else name

-- the name with this extension in place of its own
unfoldable pub with_extension : List ℕ → List ℕ → List ℕ
with_extension name extension = stem name ++ extension
