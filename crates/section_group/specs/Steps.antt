-- What the steps of grouping say of one another.
use Rattle.std.specs.Prelude.{◌≡◌, ℕ, ◌-◌, ◌<◌, ◌≤◌, ◌==◌, Bool, false, ◌||◌, not, IsTrue, bit_and, List, [], length, slice_get, slice_index, slice_index_or, Some, codes}
use Rattle.std.specs.List.{IsDistinct}
use Rattle.std.specs.Ordering.{is_lt}
use Rattle.link_base.specs.PeFormat.{SCN_MEM_ATTRIBUTES}
use Rattle.section_group.specs.declared.piece.Piece.{Piece}
use Rattle.section_group.specs.declared.cut.Cut.{Cut}
use Rattle.section_group.specs.Merging.{same_name, final_name}
use Rattle.section_group.specs.SectionOrder.{Input, no_piece, piece_at, is_used, place_cmp, base_name, suffix}

-- a name, cut, where its base name leads, and what follows of that
abbrev pub name_cut : (List ℕ → List ℕ) → List ℕ → Cut
name_cut lead name = record {
  base = base_name name;
  suffix = suffix name;
  section = lead (base_name name);
  merged = not (same_name (base_name name) (lead (base_name name)));
  follows_owner = not (same_name (base_name name) (lead (base_name name))) || same_name (lead (base_name name)) (codes ".pdata");
}

abbrev pub piece_cut : Input → ℕ → Cut
piece_cut input k = name_cut (final_name input.merges) (piece_at input k).name

abbrev pub no_cut : Cut
no_cut = record { base = []; suffix = []; section = []; merged = false; follows_owner = false }

-- the numbers are those of the first pieces' names
pub record NamesPieces (pieces : List Piece) (count : ℕ) (names : List (List ℕ)) (numbers : List ℕ) : Type 0 where
  pub same_length : length numbers ≡ count
  pub few : length names ≤ count
  pub distinct : IsDistinct same_name names
  pub each : (k : ℕ) → k < count → slice_get names (slice_index numbers k) ≡ Some (slice_index_or pieces k no_piece).name

-- a name keeps its number where more names are told
abbrev pub KeepsNames : List (List ℕ) → List (List ℕ) → Type 0
KeepsNames old new = (number : ℕ) (name : List ℕ) → slice_get old number ≡ Some name → slice_get new number ≡ Some name

-- the numbers are those of the cuts of the first pieces' names
pub record AreNumbered (lead : List ℕ → List ℕ) (pieces : List Piece) (count : ℕ) (cuts : List Cut) (numbers : List ℕ) : Type 0 where
  pub same_length : length numbers ≡ count
  pub within : (k : ℕ) → k < count → slice_index numbers k < length cuts
  pub each : (k : ℕ) → k < count → slice_index_or cuts (slice_index numbers k) no_cut ≡ name_cut lead (slice_index_or pieces k no_piece).name
  pub apart : (j k : ℕ) → j < count → k < count → (slice_index numbers j == slice_index numbers k) ≡ same_name (slice_index_or pieces j no_piece).name (slice_index_or pieces k no_piece).name

-- the numbers are those of the cuts of all pieces' names
abbrev pub AreCuts : Input → List Cut → List ℕ → Type 0
AreCuts input cuts numbers = AreNumbered (final_name input.merges) input.pieces (length input.pieces) cuts numbers

-- ---- neighbours of one name

-- two pieces have one name
abbrev pub share_name : Input → ℕ → ℕ → Bool
share_name input j k = same_name (piece_at input j).name (piece_at input k).name

-- the piece before is used, has the name of a piece and comes before it by module and number
abbrev pub FollowsItsLike : Input → ℕ → Type 0
FollowsItsLike input k =
    (0 < k) × IsTrue (is_used input (k - 1)) × IsTrue (share_name input (k - 1) k) × IsTrue (is_lt (place_cmp input (k - 1) k))

-- the piece before is used and has the name and the attributes of a piece
abbrev pub HasItsLike : Input → ℕ → Type 0
HasItsLike input k =
    (0 < k) × IsTrue (is_used input (k - 1)) × IsTrue (share_name input (k - 1) k)
    × (bit_and (piece_at input (k - 1)).flags SCN_MEM_ATTRIBUTES ≡ bit_and (piece_at input k).flags SCN_MEM_ATTRIBUTES)

-- a piece has the name of another, is initialised as it is, and comes behind it by module and number
abbrev pub ComesBehind : Input → ℕ → ℕ → Type 0
ComesBehind input k other =
    IsTrue (share_name input other k) × ((piece_at input other).init ≡ (piece_at input k).init) × IsTrue (is_lt (place_cmp input other k))
