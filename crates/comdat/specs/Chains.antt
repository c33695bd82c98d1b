-- Where chains of parents end: at the first section without a parent.
use Rattle.std.specs.Prelude.{◌≡◌, ℕ, ◌<◌, Bool, false, ◌==◌, List, length, slice_index, slice_index_or, unwrap_or}
use Rattle.link_base.specs.Bytes.{first_below}
use Rattle.coff_aux.specs.Parents.{parent_at, ancestor}

-- a section many steps along the chain has no parent
abbrev pub ends_at : List ℕ → ℕ → ℕ → Bool
ends_at parents section steps = parent_at parents (ancestor parents steps section) == 0

-- the steps to the end; a chain that does not end has none
abbrev pub chain_steps : List ℕ → ℕ → ℕ
chain_steps parents section = unwrap_or (first_below (length parents) (ends_at parents section)) 0

-- the section at the end of the chain
unfoldable pub chain_end : List ℕ → ℕ → ℕ
chain_end parents section = ancestor parents (chain_steps parents section) section

-- what a list says of the end of the chain of a section
abbrev pub at_chain_end : List ℕ → List Bool → ℕ → Bool
at_chain_end parents own section = slice_index_or own (chain_end parents section) false

-- the ends that are known; where one is not, 0 stands
pub record AreEnds (parents known : List ℕ) : Type 0 where
  pub same_length : length known ≡ length parents
  pub right : (section : ℕ) → section < length parents → 0 < slice_index known section → slice_index known section ≡ chain_end parents section
