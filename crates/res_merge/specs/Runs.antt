-- Resources in order, gathered by type and by name. Own.
use Rattle.std.specs.Prelude.{ℕ, ◌+◌, Bool, ◌&&◌, if◌then◌else◌, List, [], ◌∷◌, map}
use Rattle.res_merge.specs.Entries.{Key, Entry}
use Rattle.res_merge.specs.Order.{same_key}

-- the first of some resources that follow one another, and how many there are
pub record Run : Type 0 where
  pub head : Entry
  pub count : ℕ

abbrev pub same_kind : Entry → Entry → Bool
same_kind left right = same_key left.kind right.kind

abbrev pub same_name : Entry → Entry → Bool
same_name left right = same_kind left right && same_key left.name right.name

-- so many resources like one, before runs
abbrev pub run_before : (Entry → Entry → Bool) → Entry → ℕ → List Run → List Run
run_before same head count [] = record { head = head; count = count } ∷ []
run_before same head count (run ∷ rest) =
    if same head run.head then record { head = head; count = count + run.count } ∷ rest
    else record { head = head; count = count } ∷ run ∷ rest

-- resources that follow one another and are the same in a respect
unfoldable pub runs : (Entry → Entry → Bool) → List Entry → List Run
runs same [] = []
runs same (entry ∷ rest) = run_before same entry 1 (runs same rest)

abbrev pub heads : List Run → List Entry
heads runs = map (λ run. run.head) runs

-- the names, each with how many languages it has
abbrev pub names_of : List Entry → List Run
names_of entries = runs same_name entries

-- the types, each with how many names it has
abbrev pub kinds_of : List Entry → List Run
kinds_of entries = runs same_kind (heads (names_of entries))

abbrev pub kind_of_run : Run → Key
kind_of_run run = run.head.kind

abbrev pub name_of_run : Run → Key
name_of_run run = run.head.name
