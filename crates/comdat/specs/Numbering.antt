-- What the passes over the groups say of one another. Own.
use Rattle.std.specs.Prelude.{◌≡◌, ℕ, ◌<◌, ◌==◌, Bool, is_none, List, [], length, map, filter, slice_index, slice_index_or, Some}
use Rattle.std.specs.List.{range_with_len}
use Rattle.std.specs.declared.vec.Vec.{Vec}
use Rattle.std.specs.declared.alloc.Global.{Global}
use Rattle.link_base.specs.Bytes.{first_below}
use Rattle.link_base.specs.NameText.{same_name}
use Rattle.comdat.specs.declared.candidate.Candidate.{Candidate}
use Rattle.comdat.specs.Groups.{Named, no_named, name_at, candidate_of, group_of, chosen_of}

-- ---- the first of each name

-- no section before it has its name
abbrev pub is_first : List Named → ℕ → Bool
is_first entries k = is_none (first_below k (λ j. same_name (name_at entries j) (name_at entries k)))

-- ---- the numbers of groups

-- the number of no group
abbrev pub NO_GROUP : ℕ
NO_GROUP = 4294967295

-- the first section of a group, by the numbers of groups
pub record IsFirstOf (numbers : List ℕ) (number first : ℕ) : Type 0 where
  pub within : first < length numbers
  pub has : slice_index numbers first ≡ number
  pub before : (k : ℕ) → k < first → slice_index numbers k < number

-- sections have one number where they have one name, and numbers are given in the order of the first sections
pub record AreNumbers (entries : List Named) (numbers firsts : List ℕ) : Type 0 where
  pub same_length : length numbers ≡ length entries
  pub within : (k : ℕ) → k < length entries → slice_index numbers k < length firsts
  pub alike :
      (j k : ℕ) → j < length entries → k < length entries → (slice_index numbers j == slice_index numbers k) ≡ same_name (name_at entries j) (name_at entries k)
  pub first : (number : ℕ) → number < length firsts → IsFirstOf numbers number (slice_index firsts number)

-- so many lists, each empty
pub record AreEmpty (count : ℕ) (lists : List (Vec ℕ Global)) : Type 0 where
  pub same_length : length lists ≡ count
  pub each : (number : ℕ) (d : Vec ℕ Global) → number < count → (slice_index_or lists number d).items ≡ []

-- the places of those of the first sections that have a number, in their order
abbrev pub places_of : List ℕ → ℕ → ℕ → List ℕ
places_of numbers done number = filter (λ k. slice_index numbers k == number) (range_with_len 0 done)

-- those of each number
pub record AreLists (numbers : List ℕ) (done count : ℕ) (lists : List (Vec ℕ Global)) : Type 0 where
  pub same_length : length lists ≡ count
  pub each :
      (number : ℕ) (d : Vec ℕ Global) → number < count → (slice_index_or lists number d).items ≡ places_of numbers done number

-- ---- the choices

abbrev pub candidate_at : List Named → ℕ → Candidate
candidate_at entries k = candidate_of (slice_index_or entries k no_named)

-- the sections at some places
abbrev pub candidates_at : List Named → List ℕ → List Candidate
candidates_at entries places = map (candidate_at entries) places

-- at each place is the chosen one of the group
pub record AreWinners (entries : List Named) (firsts winners : List ℕ) : Type 0 where
  pub same_length : length winners ≡ length firsts
  pub each :
      (number : ℕ) → number < length firsts → chosen_of (group_of entries (name_at entries (slice_index firsts number))) ≡ Some (candidate_at entries (slice_index winners number))
