-- What the search keeps beside its parts. Own.
use Rattle.std.specs.Prelude.{◌≡◌, ◌<◌, ◌≤◌, ℕ, false, length, None}
use Rattle.std.specs.List.{list_any}
use Rattle.symbol_table.specs.References.{all_asked}
use Rattle.lib_search.specs.SearchSteps.{MemberPlace, Searched, is_place, asked_member}

-- no member can join for the references below a number
pub record IsPassed (searched : Searched) (passed : ℕ) : Type 0 where
  pub within : passed ≤ length (all_asked searched.link)
  pub none : (k : ℕ) → k < passed → asked_member searched k ≡ None

-- a member is one of a library that is searched, and has not joined
pub record IsFresh (searched : Searched) (place : MemberPlace) : Type 0 where
  pub within : place.0 < length searched.libraries
  pub fresh : list_any (is_place place) searched.joined ≡ false
