-- What the steps of following merges say of one another.
use Rattle.std.specs.Prelude.{◌≡◌, ℕ, ◌≤◌, List, length, slice_index_or, Option, Bool, false, not, ◌||◌, is_some}
use Rattle.std.specs.List.{position_or_len}
use Rattle.std.specs.Option.{option_map_or}
use Rattle.std.specs.Map.{lookup, keys_of}
use Rattle.section_group.specs.Merging.{all_merges, target, led, same_name, names_reserved}

-- what a name is merged into by some merges alone
abbrev pub target_among : List (List ℕ × List ℕ) → List ℕ → Option (List ℕ)
target_among merges name = lookup (same_name name) merges

-- the name beside a name in two lists, or the name itself where the first does not have it
unfoldable pub led_by : List (List ℕ) → List (List ℕ) → List ℕ → List ℕ
led_by keys ends name = slice_index_or ends (position_or_len (same_name name) keys) name

-- the entries are the targets of the names that have one
abbrev pub AreTargets : List (List ℕ × List ℕ) → List (List ℕ × List ℕ) → Type 0
AreTargets given entries = (name : List ℕ) → lookup (same_name name) entries ≡ target given name

-- the ends are the names that many steps from the keys
abbrev pub Leads : List (List ℕ × List ℕ) → ℕ → List (List ℕ) → List (List ℕ) → Type 0
Leads given steps keys ends = (name : List ℕ) → led_by keys ends name ≡ led given steps name

-- the ends are those of the chains from the keys, where these end
pub record Follows (given entries : List (List ℕ × List ℕ)) (ends : List (List ℕ)) : Type 0 where
  pub steps : ℕ
  pub far : length (all_merges given) ≤ steps
  pub targets : AreTargets given entries
  pub leads : Leads given steps (keys_of entries) ends

-- ---- what is tested of a merge

-- the first merge of its name has another target
abbrev pub leads_elsewhere : List (List ℕ × List ℕ) → List ℕ × List ℕ → Bool
leads_elsewhere given merge = not (option_map_or (same_name merge.1) (target given merge.0) false)

-- its chain has not ended after that many steps
abbrev pub goes_on : List (List ℕ × List ℕ) → ℕ → List ℕ → Bool
goes_on given steps name = is_some (target given (led given steps name))

abbrev pub fails : List (List ℕ × List ℕ) → ℕ → List ℕ × List ℕ → Bool
fails given steps merge = leads_elsewhere given merge || (goes_on given steps merge.0 || names_reserved merge)
