-- What is found of some resources: the data of the one that has a type, a name and a language. Own.
use Rattle.std.specs.Prelude.{ℕ, ◌<◌, ◌^◌, Bool, false, ◌&&◌, ◌==◌, if◌then◌else◌, List, [], ◌∷◌, take, drop, sum_by, Option, Some, None}
use Rattle.std.specs.List.{All}
use Rattle.link_base.specs.NameText.{same_name}
use Rattle.res_merge.specs.Entries.{Key, Number, Text, Entry}
use Rattle.res_merge.specs.Runs.{Run}

-- a number has two bytes
abbrev pub IsSmallKey : Key → Type 0
IsSmallKey (Number number) = number < 2 ^ 16
IsSmallKey (Text units) = Unit {0}

-- the numbers and the languages of resources have two bytes
pub record AreNumbered (entries : List Entry) : Type 0 where
  pub keys : All (λ entry. IsSmallKey entry.kind × IsSmallKey entry.name) entries
  pub languages : All (λ entry. entry.language < 2 ^ 16) entries

-- one number, or one text
abbrev pub equal_key : Key → Key → Bool
equal_key (Number left) (Number right) = right == left
equal_key (Text left) (Text right) = same_name right left
equal_key left right = false

abbrev pub is_resource : Key → Key → ℕ → Entry → Bool
is_resource kind name language entry = equal_key kind entry.kind && (equal_key name entry.name && entry.language == language)

unfoldable pub data_of : Key → Key → ℕ → List Entry → Option (List ℕ)
data_of kind name language [] = None
data_of kind name language (entry ∷ rest) =
    if is_resource kind name language entry then Some entry.body else data_of kind name language rest

-- ---- the same by the runs of a tree

unfoldable pub body_of : ℕ → List Entry → Option (List ℕ)
body_of language [] = None
body_of language (entry ∷ rest) = if entry.language == language then Some entry.body else body_of language rest

-- the first name that is this one, and the language among its resources
unfoldable pub named_data : Key → ℕ → List Run → List Entry → Option (List ℕ)
named_data name language [] entries = None
named_data name language (run ∷ runs) entries =
    if equal_key name run.head.name then body_of language (take run.count entries)
    else named_data name language runs (drop run.count entries)

-- the first type that is this one, and the name among its names
unfoldable pub kind_data : Key → Key → ℕ → List Run → List Run → List Entry → Option (List ℕ)
kind_data kind name language [] names entries = None
kind_data kind name language (run ∷ runs) names entries =
    if equal_key kind run.head.kind then named_data name language (take run.count names) entries
    else kind_data kind name language runs (drop run.count names) (drop (sum_by (λ r. r.count) (take run.count names)) entries)
