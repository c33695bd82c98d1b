-- Chains of parents. A list has the parent of each section at its number; what has none has 0 there, and so has the number
-- 0, at which no section stands.
use Rattle.std.specs.Prelude.{◌≡◌, ◌≢◌, ℕ, zero, suc, ◌<◌, Bool, false, not, ◌||◌, ◌==◌, List, length, slice_index, slice_index_or}
use Rattle.std.specs.List.{list_any, range_with_len}

abbrev pub parent_at : List ℕ → ℕ → ℕ
parent_at parents section = slice_index parents section

-- the section that many steps along the chain, 0 after its end
unfoldable pub ancestor : List ℕ → ℕ → ℕ → ℕ
ancestor parents zero section = section
ancestor parents (suc steps) section = parent_at parents (ancestor parents steps section)

-- the chain comes to a section twice: it has not ended after as many steps as the list has numbers
abbrev pub comes_back : List ℕ → ℕ → Bool
comes_back parents section = not (ancestor parents (length parents) section == 0)

-- 0 is its own parent, and every parent is a number of the list
pub record AreParents (parents : List ℕ) : Type 0 where
  pub none : parent_at parents 0 ≡ 0
  pub within : (section : ℕ) → section < length parents → parent_at parents section < length parents

-- the chain comes to a section, goes on, and comes to it again
pub record ComesTwice (parents : List ℕ) (section : ℕ) : Type 0 where
  pub early : ℕ
  pub late : ℕ
  pub apart : early < late
  pub there : ancestor parents early section ≢ 0
  pub again : ancestor parents late section ≡ ancestor parents early section

-- ---- what the walks along chains say of one another: it decides nothing

-- that many steps along, the chain has come to its end, or to a section that is marked
abbrev pub is_met : (parents : List ℕ) (marks : List Bool) (section steps : ℕ) → Bool
is_met parents marks section steps =
    (ancestor parents steps section == 0) || slice_index_or marks (ancestor parents steps section) false

-- a section was marked, or is among the first so many of a chain
abbrev pub is_marked : (parents : List ℕ) (marks : List Bool) (section steps : ℕ) → ℕ → Bool
is_marked parents marks section steps other =
    slice_index_or marks other false || list_any (λ k. ancestor parents k section == other) (range_with_len 0 steps)
