-- The pieces that the linker makes for a link and that can be kept or dropped, in a module of its own behind all others: a
-- jump for each import of code, and the local slots. Own.
use Rattle.std.specs.Prelude.{◌≡◌, ◌<◌, ◌≤◌, ◌⊎◌, ℕ, ◌+◌, List, ◌++◌, length, map}
use Rattle.std.specs.List.{range_with_len}
use Rattle.section_group.specs.declared.piece.Piece.{Piece}
use Rattle.link_pieces.specs.LinkParts.{LinkParts}
use Rattle.synthetic_sections.specs.LinkerPieces.{FIRST_THUNK, FIRST_LOCAL_SLOT, slot_piece, slot_bytes}
use Rattle.link_imports.specs.ImportPieces.{thunk_pieces, thunk_contents}
use Rattle.link_pieces.specs.LocalSlots.{slot_names}

-- so many slots, in a module at a position
abbrev pub slots_below : ℕ → ℕ → List Piece
slots_below position count = map (slot_piece position) (range_with_len 0 count)

abbrev pub linker_pieces : LinkParts → List Piece
linker_pieces link = thunk_pieces link.modules ++ slots_below (length link.modules) (length (slot_names link))

-- ---- what they hold

abbrev pub pointer : ℕ → List ℕ
pointer slot = slot_bytes

abbrev pub pointers_below : ℕ → List (List ℕ)
pointers_below count = map pointer (range_with_len 0 count)

abbrev pub linker_contents : LinkParts → List (List ℕ)
linker_contents link = thunk_contents link.modules ++ pointers_below (length (slot_names link))

-- ---- their numbers

-- below which number the local slots are, by how many there are
abbrev pub numbers_below : ℕ → ℕ
numbers_below slots = FIRST_LOCAL_SLOT + slots

-- that of a jump, by how many modules there are, or of a local slot
abbrev pub IsLinkerNumber : ℕ → ℕ → ℕ → Type 0
IsLinkerNumber modules slots number =
    ((FIRST_THUNK ≤ number) × (number < FIRST_THUNK + modules)) ⊎ ((FIRST_LOCAL_SLOT ≤ number) × (number < numbers_below slots))

-- ---- what a piece is

-- it is one of those that the linker makes
pub record IsLinkerPiece (link : LinkParts) (piece : Piece) : Type 0 where
  pub of_linker : piece.«module» ≡ length link.modules
  pub numbered : IsLinkerNumber (length link.modules) (length (slot_names link)) piece.number
