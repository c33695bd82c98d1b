-- The pieces with fields, and the jobs that patch them, in the order in which they stand in the file. Own.
use Rattle.std.specs.Prelude.{◌≡◌, ◌<◌, ◌≤◌, ℕ, Bool, true, nat_lt, List, [], length, map, filter, slice_index, slice_index_or}
use Rattle.std.specs.List.{All, flat_map, range_with_len}
use Rattle.section_group.specs.declared.piece.Piece.{Piece}
use Rattle.section_group.specs.declared.piece.OutSection.{OutSection}
use Rattle.section_group.specs.SectionOrder.{no_piece}
use Rattle.address_layout.specs.declared.layout.Layout.{Layout}
use Rattle.address_layout.specs.Layout.{placed_at}
use Rattle.address_layout.specs.Places.{row_at}
use Rattle.relocate.specs.declared.fix.Fix.{Fix}
use Rattle.image_writer.specs.PieceInFile.{piece_place}
use Rattle.piece_bytes.specs.PieceBytes.{size_at}
use Rattle.par_patch.specs.declared.job.Job.{Job}

-- ---- the pieces

-- a piece has fields
abbrev pub has_fields : List (List Fix) → ℕ → Bool
has_fields fixups k = nat_lt 0 (length (slice_index_or fixups k []))

-- a piece of a section, and where it stands in the file
abbrev pub piece_and_place : Layout → ℕ → ℕ → ℕ × ℕ
piece_and_place layout section k = (k, piece_place layout section k)

-- of these pieces of a section those that have fields
abbrev pub places_at : List (List Fix) → Layout → ℕ → List ℕ → List (ℕ × ℕ)
places_at fixups layout section members = map (piece_and_place layout section) (filter (has_fields fixups) members)

abbrev pub section_places : List (List Fix) → List OutSection → Layout → ℕ → List (ℕ × ℕ)
section_places fixups sections layout i = places_at fixups layout i (row_at sections i).1

-- those of the first sections, one after the other
unfoldable pub places_below : List (List Fix) → List OutSection → Layout → ℕ → List (ℕ × ℕ)
places_below fixups sections layout count = flat_map (section_places fixups sections layout) (range_with_len 0 count)

-- ---- the jobs

-- a piece of a section is known, and so is its place
pub record HasPlace (pieces : List Piece) (fixups : List (List Fix)) (layout : Layout) (section k : ℕ) : Type 0 where
  pub piece : k < length pieces
  pub fields : k < length fixups
  pub placed : k < length layout.pieces.items
  pub in_layout : section < length layout.sections.items
  pub above : (placed_at layout.sections.items section).rva ≤ slice_index layout.pieces.items k

-- a piece of a section that has fields has a place
abbrev pub CanHaveJob : List Piece → List (List Fix) → Layout → ℕ → ℕ → Type 0
CanHaveJob pieces fixups layout section k = has_fields fixups k ≡ true → HasPlace pieces fixups layout section k

-- the same of the pieces of all sections
abbrev pub CanHaveJobs : List Piece → List (List Fix) → List OutSection → Layout → Type 0
CanHaveJobs pieces fixups sections layout =
    (i : ℕ) → i < length sections → All (CanHaveJob pieces fixups layout i) (row_at sections i).1

-- a job is that of its piece
pub record IsJob (pieces : List Piece) (fixups : List (List Fix)) (job : Job) : Type 0 where
  pub module_is : job.«module» ≡ (slice_index_or pieces job.piece no_piece).«module»
  pub section_is : job.section ≡ (slice_index_or pieces job.piece no_piece).number
  pub len_is : job.len ≡ size_at pieces job.piece
  pub fixups_are : job.fixups.now ≡ slice_index_or fixups job.piece []

-- what it says of its place
abbrev pub job_place : Job → ℕ × ℕ
job_place job = (job.piece, job.start)

-- there is a job for each piece with fields
pub record AreJobs (pieces : List Piece) (fixups : List (List Fix)) (sections : List OutSection) (layout : Layout) (jobs : List Job) : Type 0 where
  pub places : map job_place jobs ≡ places_below fixups sections layout (length sections)
  pub each : All (IsJob pieces fixups) jobs
