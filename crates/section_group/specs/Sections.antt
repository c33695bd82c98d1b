-- What the sections and their keys say of one another.
use Rattle.std.specs.Prelude.{◌≡◌, ◌↔◌, ℕ, ◌<◌, Bool, true, ◌&&◌, ◌==◌, IsTrue, List, [], map, filter, length, slice_index_or, bit_or, IsPermutation, Vec}
use Rattle.std.specs.List.{All, AllPairs, Any, Contains, IsDistinct, list_any, range_with_len}
use Rattle.std.specs.Ordering.{is_lt}
use Rattle.std.specs.declared.alloc.Global.{Global}
use Rattle.section_group.specs.declared.homes.Home.{Home}
use Rattle.section_group.specs.declared.key.SectionKey.{SectionKey}
use Rattle.section_group.specs.declared.piece.OutSection.{OutSection}
use Rattle.section_group.specs.Merging.{same_name}
use Rattle.section_group.specs.SectionOrder.{Input, piece_at, is_used, inside_cmp, rank_of, IsFirstPiece}
use Rattle.section_group.specs.Placement.{goes_to, needs_place, content_flags}
use Rattle.section_group.specs.Keys.{section_cmp}

abbrev pub same_home : Home → Home → Bool
same_home a b = same_name a.name b.name && a.attributes == b.attributes

abbrev pub home_at : List Home → ℕ → Home
home_at homes section = slice_index_or homes section (record { name = []; attributes = 0 })

abbrev pub pieces_at : List (Vec ℕ Global) → ℕ → List ℕ
pieces_at members section = slice_index_or (map (λ v. v.items) members) section []

-- the members are the pieces that go to the sections, and no two sections are one
pub record Gathers (input : Input) (homes : List Home) (members : List (Vec ℕ Global)) : Type 0 where
  pub same_length : length members ≡ length homes
  pub exact : (section k : ℕ) → section < length homes → Contains (pieces_at members section) k ↔ IsTrue (goes_to input (home_at homes section).name (home_at homes section).attributes k)
  pub apart : (section other k : ℕ) → section < length homes → other < length homes → Contains (pieces_at members section) k → Contains (pieces_at members other) k → section ≡ other
  pub distinct : (section : ℕ) → section < length homes → IsDistinct (λ j k. j == k) (pieces_at members section)
  pub complete : (k : ℕ) → IsTrue (is_used input k) → (section : ℕ) × (section < length homes) × Contains (pieces_at members section) k

abbrev pub is_needed : Input → List (Vec ℕ Global) → ℕ → Bool
is_needed input members section = list_any (needs_place input) (pieces_at members section)

-- the key of a section
pub record IsKey (input : Input) (homes : List Home) (members : List (Vec ℕ Global)) (key : SectionKey) : Type 0 where
  pub within : key.section < length homes
  pub needed : is_needed input members key.section ≡ true
  pub rank : key.rank ≡ rank_of (home_at homes key.section).name
  pub first : IsFirstPiece input (pieces_at members key.section) key.index
  pub of_module : key.module ≡ (piece_at input key.index).module
  pub of_number : key.number ≡ (piece_at input key.index).number

-- the keys of the sections that are there, in order
pub record OrdersSections (input : Input) (homes : List Home) (members : List (Vec ℕ Global)) (keys : List SectionKey) : Type 0 where
  pub each : All (IsKey input homes members) keys
  pub complete : (section : ℕ) → section < length homes → is_needed input members section ≡ true → Any (λ key. key.section ≡ section) keys
  pub ascending : AllPairs (λ a b. IsTrue (is_lt (section_cmp a b))) keys

-- a section with its pieces in order
pub record IsBuilt (input : Input) (home : Home) (pieces : List ℕ) (section : OutSection) : Type 0 where
  pub named : section.name ≡ home.name
  pub permutation : IsPermutation pieces section.pieces.items
  pub ascending : AllPairs (λ j k. IsTrue (is_lt (inside_cmp input j k))) section.pieces.items
  pub flags : section.flags ≡ bit_or home.attributes (content_flags input section.pieces.items)

-- the keys of the first sections that are there
pub record AreKeys (input : Input) (homes : List Home) (members : List (Vec ℕ Global)) (count : ℕ) (keys : List SectionKey) : Type 0 where
  pub each : All (IsKey input homes members) keys
  pub sections : map (λ key. key.section) keys ≡ filter (is_needed input members) (range_with_len 0 count)

-- the sections of the first keys
pub record AreBuilt (input : Input) (homes : List Home) (members : List (Vec ℕ Global)) (keys : List SectionKey) (count : ℕ) (sections : List OutSection) : Type 0 where
  pub same_length : length sections ≡ count
  pub each : (i : ℕ) (key : SectionKey) (section : OutSection) → i < count → IsBuilt input (home_at homes (slice_index_or keys i key).section) (pieces_at members (slice_index_or keys i key).section) (slice_index_or sections i section)
