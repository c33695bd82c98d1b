-- How far the code has come that gathers candidates with the sections that go with them, and the places of pieces. It decides
-- nothing.
use Rattle.std.specs.Prelude.{◌≡◌, ℕ, ◌<◌, ◌⊎◌, Bool, ◌==◌, nat_lt, if◌then◌else◌, List, [], ◌∷◌, ◌++◌, length, map, filter_map, slice_get, slice_index, slice_index_or, Option, Some, None, option_and_then}
use Rattle.std.specs.List.{All, range_with_len}
use Rattle.coff_records.specs.ObjectFile.{section_total}
use Rattle.module_view.specs.Module.{module_at}
use Rattle.relocate.specs.Redirected.{place_of}
use Rattle.link_pieces.specs.LinkParts.{LinkParts}
use Rattle.link_pieces.specs.PieceIndex.{RowsView, indexed}
use Rattle.link_fields.specs.Fixes.{piece_at}
use Rattle.icf.specs.declared.candidate.FoldCandidate.{FoldCandidate}
use Rattle.icf.specs.Sections.{HasSection, sections_at}
use Rattle.link_folding.specs.declared.candidates.Candidates.{Candidates}
use Rattle.link_folding.specs.Candidates.{kept_piece, candidate_pieces, child_piece}
use Rattle.link_folding.specs.Places.{StandsWith}

-- ---- candidates

-- the number of each piece that is a candidate
pub record AreNumbers (pieces : List ℕ) (numbers : List (Option ℕ)) : Type 0 where
  pub right : (piece number : ℕ) → slice_index_or numbers piece None ≡ Some number → slice_get pieces number ≡ Some piece
  pub every : (piece number : ℕ) → slice_get pieces number ≡ Some piece → slice_index_or numbers piece None ≡ Some number

-- without children
abbrev pub has_none : FoldCandidate → Type 0
has_none candidate = candidate.children.items ≡ []

-- one more piece was noted
pub record NotesPiece (piece : ℕ) (is_candidate : Bool) (old new : Candidates) : Type 0 where
  pub numbers : new.numbers.items ≡ old.numbers.items ++ (if is_candidate then Some (length old.list.items) else None) ∷ []
  pub pieces : map (λ candidate. candidate.piece) new.list.items ≡ map (λ candidate. candidate.piece) old.list.items ++ (if is_candidate then piece ∷ [] else [])
  pub children : All has_none old.list.items → All has_none new.list.items

-- ---- children

-- the sections of so many modules, and so many of the next one
abbrev pub sections_done : LinkParts → ℕ → ℕ → ℕ → ℕ
sections_done link position count «module» =
    if nat_lt «module» position then section_total (module_at link.modules «module»).bytes
    else (if «module» == position then count else 0)

-- the children of a piece among the first sections of its module
abbrev pub first_children : LinkParts → List Bool → ℕ → ℕ → List ℕ
first_children link kept k count =
    filter_map (child_piece link kept (piece_at link k).«module» (piece_at link k).number) (range_with_len 1 count)

-- a candidate has those among the sections that are done
abbrev pub HasChildren : LinkParts → List Bool → ℕ → ℕ → FoldCandidate → Type 0
HasChildren link kept position count candidate =
    candidate.children.items ≡ first_children link kept candidate.piece (sections_done link position count (piece_at link candidate.piece).«module»)

-- all candidates, with their children among those sections
pub record AreGathered (link : LinkParts) (kept : List Bool) (position count : ℕ) (found : Candidates) : Type 0 where
  pub pieces : map (λ candidate. candidate.piece) found.list.items ≡ candidate_pieces link kept
  pub numbers : AreNumbers (candidate_pieces link kept) found.numbers.items
  pub children : All (HasChildren link kept position count) found.list.items

-- the piece of a section that is not the end of its chain, where it is kept
abbrev pub kept_child : RowsView → List Bool → ℕ → ℕ → ℕ → Option ℕ
kept_child sections kept position section end =
    if end == section then None else option_and_then (kept_piece kept) (indexed sections position section)

-- the number of a piece, where it is a candidate
abbrev pub number_at : List (Option ℕ) → ℕ → Option ℕ
number_at numbers piece = slice_index_or numbers piece None

-- the candidate that a section is
abbrev pub candidate_at : RowsView → List (Option ℕ) → ℕ → ℕ → Option ℕ
candidate_at sections numbers position section = option_and_then (number_at numbers) (indexed sections position section)

-- ---- places

-- the first sections stand where others of their ranks do, and what is none of them stays
pub record ArePut (sections others : List ℕ) (count : ℕ) (old new : List ℕ) : Type 0 where
  pub same_length : length new ≡ length old
  pub put : (rank piece : ℕ) → rank < count → slice_get sections rank ≡ Some piece → slice_get others rank ≡ Some (place_of new piece)
  pub stays : (piece : ℕ) → ((rank : ℕ) → rank < count → slice_get sections rank ≡ Some piece → ⊥) → place_of new piece ≡ place_of old piece

-- a piece stands where the first candidates put it
pub record StandsBelow (candidates : List FoldCandidate) (answers : List ℕ) (count piece place : ℕ) : Type 0 where
  pub with_another : StandsWith candidates answers piece place
  pub below : with_another.number < count

-- or is no section of them, and stands at its own place
pub record StaysBelow (candidates : List FoldCandidate) (count piece place : ℕ) : Type 0 where
  pub apart : (number rank : ℕ) → number < count → HasSection candidates number rank piece → ⊥
  pub own : place ≡ piece

-- each piece does one or the other
abbrev pub ArePlacesBelow : List FoldCandidate → List ℕ → ℕ → List ℕ → Type 0
ArePlacesBelow candidates answers count places =
    (piece : ℕ) → StandsBelow candidates answers count piece (place_of places piece) ⊎ StaysBelow candidates count piece (place_of places piece)

-- each candidate has as many sections as the one that its answer names
pub record HaveSections (candidates : List FoldCandidate) (answers : List ℕ) : Type 0 where
  pub same_length : length answers ≡ length candidates
  pub within : (number : ℕ) → number < length candidates → slice_index answers number < length candidates
  pub as_many : (number : ℕ) → number < length candidates → length (sections_at candidates (slice_index answers number)) ≡ length (sections_at candidates number)
