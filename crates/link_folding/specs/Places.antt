-- Where the pieces of a link stand whose functions fold: each section of a candidate at the place of the section of its rank of the
-- candidate that this one folds with, and every other piece at its own. Own.
use Rattle.std.specs.Prelude.{◌≡◌, ◌⊎◌, ℕ, Bool, false, ◌&&◌, ◌==◌, List, length, map, slice_index, slice_index_or, Option, Some, option_copied}
use Rattle.std.specs.List.{range_with_len}
use Rattle.section_group.specs.declared.piece.Piece.{Piece}
use Rattle.section_group.specs.BarePieces.{bare}
use Rattle.relocate.specs.declared.fix.Fix.{Fix}
use Rattle.relocate.specs.Redirected.{place_of}
use Rattle.link_pieces.specs.LinkParts.{LinkParts}
use Rattle.link_pieces.specs.Pieces.{link_pieces, link_contents}
use Rattle.link_fields.specs.Fixes.{HaveFields}
use Rattle.icf.specs.declared.candidate.FoldCandidate.{FoldCandidate}
use Rattle.icf.specs.Sections.{HasSection, AreCandidates, input_from}
use Rattle.icf.specs.Folding.{IsFolding}
use Rattle.link_folding.specs.Candidates.{AreCandidatesOf}

-- ---- places

-- a piece is a section of a candidate, and a place the section of the same rank of the one that it folds with
pub record StandsWith (candidates : List FoldCandidate) (answers : List ℕ) (piece place : ℕ) : Type 0 where
  pub number : ℕ
  pub rank : ℕ
  pub section : HasSection candidates number rank piece
  pub other : HasSection candidates (slice_index answers number) rank place

-- a piece is no section of a candidate
abbrev pub IsApart : List FoldCandidate → ℕ → Type 0
IsApart candidates piece = (number rank : ℕ) → HasSection candidates number rank piece → ⊥

-- by the answers of a folding
abbrev pub ArePlaces : List FoldCandidate → List ℕ → List ℕ → Type 0
ArePlaces candidates answers places =
    (piece : ℕ) → StandsWith candidates answers piece (place_of places piece) ⊎ (IsApart candidates piece × (place_of places piece ≡ piece))

-- ---- of a link

-- the bytes of a piece, where it has any
abbrev pub body_in : Piece → Option (List ℕ)
body_in piece = option_copied piece.body

-- each piece has its bytes, if they are none
abbrev pub all_bodies : LinkParts → List (Option (List ℕ))
all_bodies link = map Some (link_contents link)

-- the folding of a link, of whose pieces these are kept
pub record IsFolded (link : LinkParts) (kept : List Bool) (places : List ℕ) : Type 0 where
  pub pieces : List Piece
  pub pieces_are : map bare pieces ≡ link_pieces link
  pub bodies_are : map body_in pieces ≡ all_bodies link
  pub fixes : List (List Fix)
  pub fields : HaveFields link (length pieces) fixes
  pub candidates : List FoldCandidate
  pub are : AreCandidatesOf link kept candidates
  pub distinct : AreCandidates (length pieces) candidates
  pub answers : List ℕ
  pub folding : IsFolding (input_from pieces fixes candidates) answers
  pub for_each : length places ≡ length (link_pieces link)
  pub places_are : ArePlaces candidates answers places

-- what is kept and stands at its own place
abbrev pub stands_alone : List Bool → List ℕ → ℕ → Bool
stands_alone kept places k = slice_index_or kept k false && (place_of places k == k)

-- of each piece, and of each import behind the pieces
abbrev pub standing : List Bool → List ℕ → List Bool
standing kept places = map (stands_alone kept places) (range_with_len 0 (length kept))
