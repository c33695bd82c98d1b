-- The order of pieces inside a section, and of sections in an image: lists of keys, each of which decides only where those
-- before it are equal. The names are cut as in PE Format, "Grouped Sections (Object Only)"; the keys are own.
use Rattle.std.specs.Prelude.{◌≡◌, ℕ, Bool, false, ◌&&◌, not, nat_lt, IsTrue, List, [], length, slice_index_or, None, codes, if◌then◌else◌}
use Rattle.std.specs.List.{Contains}
use Rattle.std.specs.Ordering.{nat_cmp, bool_cmp, then_cmp, ordering_then, on, is_lt}
use Rattle.std.specs.declared.cmp.Ordering.{Ordering}
use Rattle.std.specs.Cmp.Lexicographic.{slice_cmp}
use Rattle.section_group.specs.declared.piece.Piece.{Piece}
use Rattle.section_group.specs.declared.piece.OutSection.{OutSection}
pub use Rattle.link_base.specs.SectionName.{base_name, suffix}
use Rattle.section_group.specs.Merging.{same_name, final_name}

-- what is put into sections: the pieces, which of them are used, and the given merges
pub record Input : Type 0 where
  pub pieces : List Piece
  pub used : List Bool
  pub merges : List (List ℕ × List ℕ)

-- what `group` is given
abbrev pub input_from : List Piece → List Bool → List (List ℕ × List ℕ) → Input
input_from pieces used merges = record { pieces = pieces; used = used; merges = merges }

abbrev pub no_piece : Piece
no_piece =
    record { «module» = 0; number = 0; name = []; flags = 0; size = 0; align = 0; body = None; init = false; named = false }

abbrev pub piece_at : Input → ℕ → Piece
piece_at input k = slice_index_or input.pieces k no_piece

abbrev pub is_used : Input → ℕ → Bool
is_used input k = nat_lt k (length input.pieces) && slice_index_or input.used k false

-- ---- names

-- the name of the section that a piece goes to
abbrev pub section_name : Input → ℕ → List ℕ
section_name input k = final_name input.merges (base_name (piece_at input k).name)

-- merges changed the base name
abbrev pub is_merged : Input → ℕ → Bool
is_merged input k = not (same_name (base_name (piece_at input k).name) (section_name input k))

-- ---- pieces

-- by module, then by number; no two pieces of a link are equal in both, else the earlier in the list is first
abbrev pub place_cmp : Input → ℕ → ℕ → Ordering
place_cmp input =
    then_cmp (on (λ k. (piece_at input k).module) nat_cmp) (then_cmp (on (λ k. (piece_at input k).number) nat_cmp) nat_cmp)

-- a merged piece's base name
abbrev pub merged_name : Input → ℕ → List ℕ
merged_name input k = if is_merged input k then base_name (piece_at input k).name else []

-- inside a section: initialised pieces, then the others; those of the section's own name, then merged ones; merged ones by
-- base name; then by suffix, module and number
abbrev pub inside_cmp : Input → ℕ → ℕ → Ordering
inside_cmp input =
    then_cmp (on (λ k. not (piece_at input k).init) bool_cmp)
    (then_cmp (on (is_merged input) bool_cmp)
    (then_cmp (on (merged_name input) (slice_cmp nat_cmp))
    (then_cmp (on (λ k. suffix (piece_at input k).name) (slice_cmp nat_cmp))
    (place_cmp input))))

-- ---- sections

-- the rank of a section by its name
abbrev pub rank_of : List ℕ → ℕ
rank_of name =
    if same_name name (codes ".text") then 0
    else (if same_name name (codes ".rdata") then 1
    else (if same_name name (codes ".data") then 2
    else (if same_name name (codes ".pdata") then 3
    else (if same_name name (codes ".rsrc") then 5
    else (if same_name name (codes ".reloc") then 6
    else 4)))))

-- the first of some pieces by module and number
pub record IsFirstPiece (input : Input) (pieces : List ℕ) (first : ℕ) : Type 0 where
  pub among : Contains pieces first
  pub before : (k : ℕ) → Contains pieces k → is_lt (place_cmp input k first) ≡ false

-- sections ascend by rank, and inside a rank by their first piece
pub record ComesBefore (input : Input) (section other : OutSection) : Type 0 where
  pub first : ℕ
  pub other_first : ℕ
  pub is_first : IsFirstPiece input section.pieces.items first
  pub is_other_first : IsFirstPiece input other.pieces.items other_first
  pub before :
      IsTrue (is_lt (ordering_then (nat_cmp (rank_of section.name) (rank_of other.name)) (place_cmp input first other_first)))
