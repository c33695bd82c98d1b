-- Flags of names, by their numbers. Own.
use Rattle.std.specs.Prelude.{◌≡◌, ◌&&◌, ℕ, Bool, false, nat_eq, List, slice_index_or}
use Rattle.symbol_names.specs.declared.noted.NotedAsked.{NotedAsked}
use Rattle.symbol_names.specs.declared.noted.NotedCommon.{NotedCommon}
use Rattle.symbol_names.specs.declared.noted.NotedDefinition.{NotedDefinition}

-- ---- what has the name of a number

abbrev pub names_definition : ℕ → NotedDefinition → Bool
names_definition number noted = nat_eq noted.name number

abbrev pub names_common : ℕ → NotedCommon → Bool
names_common number noted = nat_eq noted.name number

-- with a search
abbrev pub seeks : ℕ → NotedAsked → Bool
seeks number noted = noted.search && nat_eq noted.name number

-- ---- flags

abbrev pub flag_of : List Bool → ℕ → Bool
flag_of flags number = slice_index_or flags number false

abbrev pub SameFlags : List Bool → List Bool → Type 0
SameFlags before after = (number : ℕ) → flag_of after number ≡ flag_of before number
