-- The candidates of folding with their sections, and the fields of these. Own.
use Rattle.std.specs.Prelude.{◌≡◌, ℕ, ◌<◌, ◌≤◌, List, [], ◌∷◌, length, slice_get, slice_index_or, Option, option_map, option_copied, unwrap_or, Some, Ok}
use Rattle.std.specs.List.{AllPairs, Contains}
use Rattle.section_group.specs.declared.piece.Piece.{Piece}
use Rattle.section_group.specs.SectionOrder.{no_piece}
use Rattle.relocate.specs.declared.fix.Fix.{Fix}
use Rattle.relocate.specs.declared.fix.Target.{Target}
use Rattle.icf.specs.declared.candidate.FoldCandidate.{FoldCandidate}

-- the pieces of a link, the fields of each, and the candidates
pub record Input : Type 0 where
  pub pieces : List Piece
  pub fixes : List (List Fix)
  pub candidates : List FoldCandidate

-- what `fold` is given
abbrev pub input_from : List Piece → List (List Fix) → List FoldCandidate → Input
input_from pieces fixes candidates = record { pieces = pieces; fixes = fixes; candidates = candidates }

abbrev pub piece_at : Input → ℕ → Piece
piece_at input piece = slice_index_or input.pieces piece no_piece

-- the bytes of a section, where it has any in the file
abbrev pub data_at : Input → ℕ → Option (List ℕ)
data_at input piece = option_copied (piece_at input piece).body

-- the fields of a piece, in the order of their places
abbrev pub fields_at : List (List Fix) → ℕ → List Fix
fields_at fixes piece = slice_index_or fixes piece []

-- the sections of a candidate: its own, and then its associative children, by section number. The place of a section in
-- this list is its rank
abbrev pub sections_of : FoldCandidate → List ℕ
sections_of candidate = candidate.piece ∷ candidate.children.items

-- those of the candidate of a number
abbrev pub sections_at : List FoldCandidate → ℕ → List ℕ
sections_at candidates number = unwrap_or (option_map sections_of (slice_get candidates number)) []

-- a piece is the section of a rank of a candidate
abbrev pub HasSection : List FoldCandidate → ℕ → ℕ → ℕ → Type 0
HasSection candidates number rank piece = slice_get (sections_at candidates number) rank ≡ Some piece

-- candidates of so many pieces: they ascend, and no piece is there twice, as a candidate or a child
pub record AreCandidates (pieces : ℕ) (candidates : List FoldCandidate) : Type 0 where
  pub within : (number rank piece : ℕ) → HasSection candidates number rank piece → piece < pieces
  pub distinct : (number rank other other_rank piece : ℕ) → HasSection candidates number rank piece → HasSection candidates other other_rank piece
      → (number ≡ other) × (rank ≡ other_rank)
  pub ascending : AllPairs (λ left right. left.piece < right.piece) candidates

-- what `fold` asks of its input: each piece has its fields, these ascend, and what the symbol of a field means is known
pub record IsFoldable (input : Input) : Type 0 where
  pub every_piece : length input.pieces ≤ length input.fixes
  pub candidates : AreCandidates (length input.pieces) input.candidates
  pub ascending : (piece : ℕ) → AllPairs (λ left right. left.at < right.at) (fields_at input.fixes piece)
  pub targets : (piece : ℕ) (fix : Fix) → Contains (fields_at input.fixes piece) fix → (target : Target) × (fix.target ≡ Some (Ok target))
