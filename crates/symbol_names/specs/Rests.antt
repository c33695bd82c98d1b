-- What is left of names behind the import prefix. Own.
use Rattle.std.specs.Prelude.{◌≡◌, ◌⊎◌, ℕ, ◌<◌, ◌≤◌, true, List}
use Rattle.link_base.specs.NameText.{begins_import, behind_import}
use Rattle.symbol_names.specs.Interning.{Numbers}

-- a name has a number
pub record IsNumbered (names : List (List ℕ)) (name : List ℕ) : Type 0 where
  pub number : ℕ
  pub numbered : Numbers names number name

-- the rest of each name that begins with the import prefix has a number too
abbrev pub HasRests : List (List ℕ) → Type 0
HasRests names = (number : ℕ) (name : List ℕ) → Numbers names number name → begins_import name ≡ true → IsNumbered names (behind_import name)

-- so has the rest of each whose number is below a first one, or at or above a second
abbrev pub HasRestsBut : List (List ℕ) → ℕ → ℕ → Type 0
HasRestsBut names first second =
    (number : ℕ) (name : List ℕ) → Numbers names number name → (number < first) ⊎ (second ≤ number) → begins_import name ≡ true → IsNumbered names (behind_import name)
