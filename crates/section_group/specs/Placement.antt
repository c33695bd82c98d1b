-- Which section each piece stands in (PE Format, "Grouped Sections (Object Only)" and "Section Flags"; own in the details).
use Rattle.std.specs.Prelude.{◌≡◌, ◌↔◌, ℕ, Bool, ◌&&◌, ◌||◌, not, ◌==◌, nat_lt, IsTrue, List, length, Option, unwrap_or, codes, if◌then◌else◌, bit_and, bit_or}
use Rattle.std.specs.List.{All, Any, AllPairs, Contains, list_any}
use Rattle.std.specs.Ordering.{is_lt}
use Rattle.link_base.specs.Bytes.{all_below, first_below, has_flag}
use Rattle.section_group.specs.declared.piece.OutSection.{OutSection}
use Rattle.link_base.specs.PeFormat.{SCN_CNT_CODE, SCN_CNT_INITIALIZED_DATA, SCN_CNT_UNINITIALIZED_DATA, SCN_MEM_ATTRIBUTES}
use Rattle.section_group.specs.Merging.{same_name}
use Rattle.section_group.specs.SectionOrder.{Input, piece_at, is_used, base_name, section_name, is_merged, place_cmp, inside_cmp, ComesBefore}

-- ---- the section of a piece: its name and its attributes

-- a used piece whose own base name this is
abbrev pub is_owner : Input → List ℕ → ℕ → Bool
is_owner input name k = is_used input k && same_name (base_name (piece_at input k).name) name

-- the owner of a name that comes before every other by module and number
abbrev pub is_first_owner : Input → List ℕ → ℕ → Bool
is_first_owner input name k =
    is_owner input name k
    && all_below (length input.pieces) (λ j. not (is_owner input name j && is_lt (place_cmp input j k)))

unfoldable pub first_owner : Input → List ℕ → Option ℕ
first_owner input name = first_below (length input.pieces) (is_first_owner input name)

-- a merged piece goes to the section of the first owner of its section's name, where there is one; the exception table is
-- one section
abbrev pub follows_owner : Input → ℕ → Bool
follows_owner input k = is_merged input k || same_name (section_name input k) (codes ".pdata")

-- the piece whose attributes decide
abbrev pub deciding_piece : Input → ℕ → ℕ
deciding_piece input k =
    if follows_owner input k then unwrap_or (first_owner input (section_name input k)) k else k

unfoldable pub section_attributes : Input → ℕ → ℕ
section_attributes input k = bit_and (piece_at input (deciding_piece input k)).flags SCN_MEM_ATTRIBUTES

-- a used piece that goes to the section of this name and these attributes
abbrev pub goes_to : Input → List ℕ → ℕ → ℕ → Bool
goes_to input name attributes k =
    is_used input k && (same_name (section_name input k) name && section_attributes input k == attributes)

-- ---- the sections

-- a section is there where one of its pieces has bytes or is named
abbrev pub needs_place : Input → ℕ → Bool
needs_place input k = nat_lt 0 (piece_at input k).size || (piece_at input k).named

abbrev pub has_initialised : Input → ℕ → List ℕ → Bool
has_initialised input flag pieces =
    list_any (λ k. (piece_at input k).init && has_flag (piece_at input k).flags flag) pieces

-- what a section holds: the content of its initialised pieces, or nothing that the file holds
abbrev pub content_flags : Input → List ℕ → ℕ
content_flags input pieces =
    if list_any (λ k. (piece_at input k).init) pieces
    then bit_or (if has_initialised input SCN_CNT_CODE pieces then SCN_CNT_CODE else 0)
    (if has_initialised input SCN_CNT_INITIALIZED_DATA pieces then SCN_CNT_INITIALIZED_DATA else 0)
    else SCN_CNT_UNINITIALIZED_DATA

pub record IsSection (input : Input) (section : OutSection) : Type 0 where
  pub attributes : ℕ
  pub members : (k : ℕ) → Contains section.pieces.items k ↔ IsTrue (goes_to input section.name attributes k)
  pub ascending : AllPairs (λ j k. IsTrue (is_lt (inside_cmp input j k))) section.pieces.items
  pub needed : Any (λ k. IsTrue (needs_place input k)) section.pieces.items
  pub flags : section.flags ≡ bit_or attributes (content_flags input section.pieces.items)

-- the sections of an image: each is one, each used piece with bytes or a name stands in one, and they ascend
pub record IsGrouping (input : Input) (sections : List OutSection) : Type 0 where
  pub each : All (IsSection input) sections
  pub complete : (k : ℕ) → IsTrue (is_used input k) → IsTrue (needs_place input k) → Any (λ section. Contains section.pieces.items k) sections
  pub ascending : AllPairs (ComesBefore input) sections
