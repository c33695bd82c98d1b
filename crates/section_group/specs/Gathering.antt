-- What the passes over the pieces say of one another.
use Rattle.std.specs.Prelude.{◌≡◌, ℕ, ◌-◌, ◌<◌, Bool, true, false, ◌==◌, IsTrue, List, length, slice_index, slice_index_or, slice_get, filter, Option, Some, None}
use Rattle.std.specs.List.{range_with_len, Contains}
use Rattle.std.specs.declared.vec.Vec.{Vec}
use Rattle.std.specs.declared.alloc.Global.{Global}
use Rattle.std.specs.Ordering.{is_lt}
use Rattle.std.specs.Map.{lookup}
use Rattle.section_group.specs.declared.parts.Parts.{Parts}
use Rattle.section_group.specs.declared.homes.Home.{Home}
use Rattle.section_group.specs.SectionOrder.{Input, piece_at, base_name, is_used, section_name, place_cmp}
use Rattle.section_group.specs.Placement.{is_owner, first_owner, section_attributes}
use Rattle.section_group.specs.Merging.{same_name}
use Rattle.section_group.specs.SectionOrder.{input_from}

abbrev pub input_of : Parts → Input
input_of parts = input_from parts.pieces.now parts.used.now parts.merges.now

-- the first by module and number of the owners of a name among the first pieces
abbrev pub IsFirstUpTo : Input → ℕ → List ℕ → Option ℕ → Type 0
IsFirstUpTo input count name None = (k : ℕ) → k < count → is_owner input name k ≡ false
IsFirstUpTo input count name (Some first) =
    (first < count) × IsTrue (is_owner input name first) × ((k : ℕ) → k < count → is_owner input name k ≡ true → is_lt (place_cmp input k first) ≡ false)

-- the piece before owns the base name of a piece and comes before it by module and number
abbrev pub FollowsAnOwner : Input → ℕ → Type 0
FollowsAnOwner input k =
    (0 < k) × IsTrue (is_owner input (base_name (piece_at input k).name) (k - 1)) × IsTrue (is_lt (place_cmp input (k - 1) k))

-- the entries are the first owners of names
abbrev pub AreOwners : Input → List (List ℕ × ℕ) → Type 0
AreOwners input entries = (name : List ℕ) → lookup (same_name name) entries ≡ first_owner input name

-- ---- numbered sections

abbrev pub home_of : Input → ℕ → Home
home_of input k = record { name = section_name input k; attributes = section_attributes input k }

-- the number of a piece's section, where the piece is used
abbrev pub IsNumberOf : Input → List Home → ℕ → Option ℕ → Type 0
IsNumberOf input homes k None = is_used input k ≡ false
IsNumberOf input homes k (Some number) = IsTrue (is_used input k) × (slice_get homes number ≡ Some (home_of input k))

-- the piece before is used and goes to the same section
abbrev pub GoesWithItsLike : Input → ℕ → Type 0
GoesWithItsLike input k = (0 < k) × IsTrue (is_used input (k - 1)) × (home_of input k ≡ home_of input (k - 1))

-- the first pieces have the numbers of their sections
pub record AreNumbers (input : Input) (homes : List Home) (count : ℕ) (numbers : List (Option ℕ)) : Type 0 where
  pub same_length : length numbers ≡ count
  pub each : (k : ℕ) → k < count → IsNumberOf input homes k (slice_index_or numbers k None)

-- what is told of sections stays where more are told
abbrev pub KeepsHomes : List Home → List Home → Type 0
KeepsHomes old new = (number : ℕ) (home : Home) → slice_get old number ≡ Some home → slice_get new number ≡ Some home

abbrev pub has_number : ℕ → Option ℕ → Bool
has_number number None = false
has_number number (Some other) = other == number

-- the pieces of a number among the first, in their order
abbrev pub members_of : List (Option ℕ) → ℕ → ℕ → List ℕ
members_of numbers count number = filter (λ k. has_number number (slice_index_or numbers k None)) (range_with_len 0 count)

pub record AreMembers (numbers : List (Option ℕ)) (count sections : ℕ) (members : List (Vec ℕ Global)) : Type 0 where
  pub same_length : length members ≡ sections
  pub each : (number : ℕ) (d : Vec ℕ Global) → number < sections → (slice_index_or members number d).items ≡ members_of numbers count number

-- the first by module and number of the first members
pub record IsFirstSoFar (input : Input) (members : List ℕ) (count first : ℕ) : Type 0 where
  pub within : first < length input.pieces
  pub among : Contains members first
  pub before : (k : ℕ) → k < count → is_lt (place_cmp input (slice_index members k) first) ≡ false
