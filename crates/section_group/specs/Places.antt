-- Chains of merges by the places of their names: what the steps of following them say. Own.
use Rattle.std.specs.Prelude.{◌≡◌, ℕ, ◌<◌, ◌≤◌, List, [], length, map, slice_index_or}
use Rattle.std.specs.List.{position_or_len}
use Rattle.std.specs.Map.{keys_of, values_of}
use Rattle.section_group.specs.Merging.{same_name}
use Rattle.section_group.specs.Chains.{Leads}

-- the place of a name among those that are merged, or how many these are
abbrev pub place_among : List (List ℕ × List ℕ) → List ℕ → ℕ
place_among entries name = position_or_len (same_name name) (keys_of entries)

-- for each merge the place of its target
abbrev pub next_places : List (List ℕ × List ℕ) → List ℕ
next_places entries = map (place_among entries) (values_of entries)

-- the target of the merge at a place
abbrev pub target_at : List (List ℕ × List ℕ) → ℕ → List ℕ
target_at entries place = slice_index_or (values_of entries) place []

-- from the target of a last place the way goes on to the last place from there, or ends
abbrev pub later_place : List ℕ → List ℕ → ℕ → ℕ
later_place nexts lasts last = slice_index_or lasts (slice_index_or nexts last 0) last

-- each place itself
pub record AreOwnPlaces (count : ℕ) (places : List ℕ) : Type 0 where
  pub len : length places ≡ count
  pub own : (k : ℕ) → k < count → slice_index_or places k 0 ≡ k

-- the targets at the last places are the names that many steps lead to
pub record LeadsFar (given entries : List (List ℕ × List ℕ)) (least : ℕ) (lasts : List ℕ) : Type 0 where
  pub steps : ℕ
  pub far : least ≤ steps
  pub leads : Leads given steps (keys_of entries) (map (target_at entries) lasts)
