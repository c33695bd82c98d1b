-- Names as texts. A name that begins with the import prefix is that of an entry of the import address table
-- (PE Format, "Import Library Format" and "The .idata Section").
use Rattle.std.specs.Prelude.{ℕ, Bool, true, false, List, [], ◌∷◌, ◌++◌, take, drop, nat_eq, codes, if◌then◌else◌}
use Rattle.std.specs.List.{starts_with}
use lib.Pointwise.{pointwise}
use Rattle.std.specs.Hash as fed

-- two names are one text
abbrev pub same_name : List ℕ → List ℕ → Bool
same_name = pointwise nat_eq

-- the bytes begin with these
abbrev pub begins : List ℕ → List ℕ → Bool
begins bytes start = starts_with nat_eq bytes start

-- `__imp_`
abbrev pub import_prefix : List ℕ
import_prefix = codes "__imp_"

abbrev pub begins_import : List ℕ → Bool
begins_import text = pointwise nat_eq (take 6 text) import_prefix

-- the text after the prefix, or the whole text where it does not begin so
abbrev pub behind_import : List ℕ → List ℕ
behind_import text = if begins_import text then drop 6 text else text

-- the prefix of the text, or nothing
abbrev pub import_prefix_of : List ℕ → List ℕ
import_prefix_of text = if begins_import text then import_prefix else []

-- the text of a rest that the prefix stands before, or does not
abbrev pub with_import : Bool → List ℕ → List ℕ
with_import true rest = import_prefix ++ rest
with_import false rest = rest

-- what a name feeds a hash function: a function of its text, so that equal names are fed alike
abbrev pub name_hash_input : List ℕ → fed.HashWrites
name_hash_input text = (behind_import text ∷ []) ++ fed.bool (begins_import text)
