-- The parts of a tree as the code holds them.
use Rattle.std.specs.Prelude.{◌≡◌, ℕ, ◌+◌, ◌*◌, ◌<◌, ◌≤◌, ◌^◌, List, length}
use Rattle.std.specs.List.{All}
use Rattle.res_merge.specs.declared.parts.Places.{Places}
use Rattle.res_merge.specs.Entries.{Entry}
use Rattle.res_merge.specs.Order.{RESOURCE_LIMIT, IsShort}
use Rattle.res_merge.specs.Runs.{Run, names_of, kinds_of, kind_of_run, name_of_run}
use Rattle.res_merge.specs.Tree.{LEAF_SIZE, table_size, tables_size, texts_size, tree_size}

-- the names and the types are those of the resources, no text is too long, and the tree is not too large for its offsets
pub record AreParts (entries : List Entry) (names types : List Run) : Type 0 where
  pub names_are : names ≡ names_of entries
  pub types_are : types ≡ kinds_of entries
  pub few : length entries ≤ RESOURCE_LIMIT
  pub short : All (λ entry. IsShort entry.kind × IsShort entry.name) entries
  pub small : tree_size entries < 2 ^ 31

-- where the data stand behind so many types, names and resources
abbrev pub body_place : List Run → List Run → ℕ → ℕ
body_place types names count =
    table_size (length types) + tables_size types + tables_size names + LEAF_SIZE * count + texts_size kind_of_run types
    + texts_size name_of_run names

pub record ArePlaces (types names : List Run) (count : ℕ) (places : Places) : Type 0 where
  pub name_tables : places.names ≡ table_size (length types)
  pub language_tables : places.languages ≡ table_size (length types) + tables_size types
  pub leaves : places.leaves ≡ table_size (length types) + tables_size types + tables_size names
  pub type_texts : places.texts ≡ table_size (length types) + tables_size types + tables_size names + LEAF_SIZE * count
  pub name_texts : places.name_texts ≡ table_size (length types) + tables_size types + tables_size names + LEAF_SIZE * count + texts_size kind_of_run types
  pub body : places.body ≡ body_place types names count
