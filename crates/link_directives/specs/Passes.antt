-- What a pass over keys keeps. It decides nothing. Own.
use Rattle.std.specs.Prelude.{◌≡◌, ℕ, List, Option, None, option_map}
use Rattle.std.specs.List.{find}
use Rattle.link_directives.specs.declared.mismatch.Mismatch.{Mismatch}
use Rattle.link_directives.specs.LinkDirectives.{has_key, mismatch_in}

abbrev pub value_of : List ℕ × List ℕ → List ℕ
value_of entry = entry.1

-- the value that the first entry of a key gives it
abbrev pub first_value : List (List ℕ × List ℕ) → List ℕ → Option (List ℕ)
first_value entries key = option_map value_of (find (has_key key) entries)

-- the mismatch that is told is the first of these entries. Where there is none, each key has the value of its first entry
pub record KeepsFirsts (entries : List (List ℕ × List ℕ)) (value_at : List ℕ → Option (List ℕ)) (told : Option Mismatch) : Type 0 where
  pub told_is : told ≡ mismatch_in entries
  pub firsts : told ≡ None → (key : List ℕ) → value_at key ≡ first_value entries key
