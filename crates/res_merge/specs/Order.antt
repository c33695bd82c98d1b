-- The order of resources in a tree: by type, by name and by language, each text before each number (PE Format, "The .rsrc
-- Section": "Resource Directory Table").
use Rattle.std.specs.Prelude.{◌≡◌, ℕ, ◌+◌, ◌%◌, ◌≤◌, ◌^◌, Bool, if◌then◌else◌, List, [], ◌∷◌, length, sum_by}
use Rattle.std.specs.List.{All, IsDistinct}
use Rattle.std.specs.Ordering.{nat_cmp, then_cmp, on, is_lt, is_eq}
use Rattle.std.specs.declared.cmp.Ordering.{Ordering}
use Rattle.std.specs.Cmp.Lexicographic.{slice_cmp}
use Rattle.res_merge.specs.Entries.{Key, Number, Text, Entry}

-- the bytes of a text's units, the higher byte of each first, so that lists of units compare as these do
abbrev pub high_first : List ℕ → List ℕ
high_first (low ∷ high ∷ rest) = high ∷ low ∷ high_first rest
high_first rest = []

-- a text comes before a number
abbrev pub sort_key : Key → List ℕ
sort_key (Text units) = 0 ∷ high_first units
sort_key (Number number) = 1 ∷ number ∷ []

abbrev pub key_cmp : Key → Key → Ordering
key_cmp = on sort_key (slice_cmp nat_cmp)

abbrev pub entry_cmp : Entry → Entry → Ordering
entry_cmp =
    then_cmp (on (λ entry. entry.kind) key_cmp) (then_cmp (on (λ entry. entry.name) key_cmp) (on (λ entry. entry.language) nat_cmp))

abbrev pub same_key : Key → Key → Bool
same_key left right = is_eq (key_cmp left right)

-- one type, name and language
abbrev pub same_resource : Entry → Entry → Bool
same_resource left right = is_eq (entry_cmp left right)

-- ---- resources in order

unfoldable pub put_in_order : Entry → List Entry → List Entry
put_in_order entry [] = entry ∷ []
put_in_order entry (first ∷ rest) =
    if is_lt (entry_cmp entry first) then entry ∷ first ∷ rest else first ∷ put_in_order entry rest

unfoldable pub in_order : List Entry → List Entry
in_order [] = []
in_order (entry ∷ rest) = put_in_order entry (in_order rest)

-- ---- resources that a tree can hold

abbrev pub RESOURCE_LIMIT : ℕ
RESOURCE_LIMIT = 65535

abbrev pub DATA_LIMIT : ℕ
DATA_LIMIT = 2 ^ 30

-- a text has whole units, and no more than 32,000
abbrev pub IsShort : Key → Type 0
IsShort (Number number) = Unit {0}
IsShort (Text units) = (length units % 2 ≡ 0) × (length units ≤ 64000)

abbrev pub key_size : Key → ℕ
key_size (Number number) = 0
key_size (Text units) = length units

abbrev pub entry_size : Entry → ℕ
entry_size entry = key_size entry.kind + key_size entry.name + length entry.body

-- there are at most 65,535, no two have one type, name and language, no text is too long, and data and texts together have
-- at most 1 GiB
pub record AreMergeable (entries : List Entry) : Type 0 where
  pub few : length entries ≤ RESOURCE_LIMIT
  pub apart : IsDistinct same_resource entries
  pub short : All (λ entry. IsShort entry.kind × IsShort entry.name) entries
  pub small : sum_by entry_size entries ≤ DATA_LIMIT
