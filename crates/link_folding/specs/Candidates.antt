-- Which functions of a link may fold, and which sections go with each (MSVC linker reference, "/OPT"; PE Format, "COMDAT Sections
-- (Object Only)"; which may fold is own).
use Rattle.std.specs.Prelude.{◌≡◌, ℕ, Bool, false, ◌&&◌, not, ◌==◌, if◌then◌else◌, List, length, map, filter, filter_map, slice_index_or, Option, Some, None, option_and_then}
use Rattle.std.specs.List.{range_with_len}
use Rattle.std.specs.Option.{is_none}
use Rattle.link_base.specs.Bytes.{has_flag}
use Rattle.link_base.specs.PeFormat.{SCN_LNK_COMDAT, SCN_MEM_EXECUTE, SCN_MEM_WRITE}
use Rattle.coff_records.specs.ObjectFile.{section_total}
use Rattle.coff_aux.specs.declared.comdat.Comdat.{Comdat}
use Rattle.coff_aux.specs.Comdats.{comdat_of, parents_of}
use Rattle.comdat.specs.Chains.{chain_end}
use Rattle.section_group.specs.declared.piece.Piece.{Piece}
use Rattle.module_view.specs.Module.{module_at}
use Rattle.link_pieces.specs.LinkParts.{LinkParts}
use Rattle.link_pieces.specs.Pieces.{link_pieces}
use Rattle.link_pieces.specs.PieceIndex.{is_section, piece_index}
use Rattle.link_fields.specs.Fixes.{piece_at}
use Rattle.icf.specs.declared.candidate.FoldCandidate.{FoldCandidate}

-- ---- candidates

-- a section has no parent
abbrev pub is_own : Option Comdat → Bool
is_own said = is_none (option_and_then (λ comdat. comdat.parent) said)

-- a COMDAT section of code that is initialised, cannot be written and has no parent
abbrev pub may_fold : LinkParts → Piece → Bool
may_fold link piece =
    is_section (length link.modules) piece
    && (has_flag piece.flags SCN_LNK_COMDAT
    && (has_flag piece.flags SCN_MEM_EXECUTE
    && (not (has_flag piece.flags SCN_MEM_WRITE)
    && (piece.init && is_own (comdat_of (module_at link.modules piece.«module»).bytes piece.number)))))

-- that is kept
abbrev pub is_candidate : LinkParts → List Bool → ℕ → Bool
is_candidate link kept k = slice_index_or kept k false && may_fold link (piece_at link k)

-- those of a link, in the order of its pieces
abbrev pub candidate_pieces : LinkParts → List Bool → List ℕ
candidate_pieces link kept = filter (is_candidate link kept) (range_with_len 0 (length (link_pieces link)))

-- ---- the sections that go with one

-- a piece, where it is kept
abbrev pub kept_piece : List Bool → ℕ → Option ℕ
kept_piece kept k = if slice_index_or kept k false then Some k else None

-- another section, at the end of whose chain of parents this one stands
abbrev pub goes_with : List ℕ → ℕ → ℕ → Bool
goes_with bytes root section = (chain_end (parents_of bytes) section == root) && not (section == root)

-- the piece of a section that goes with one, where it is kept
abbrev pub child_piece : LinkParts → List Bool → ℕ → ℕ → ℕ → Option ℕ
child_piece link kept position root section =
    if goes_with (module_at link.modules position).bytes root section
    then option_and_then (kept_piece kept) (piece_index link position section)
    else None

-- those that are kept, by section number
abbrev pub children_of : LinkParts → List Bool → ℕ → List ℕ
children_of link kept k =
    filter_map (child_piece link kept (piece_at link k).«module» (piece_at link k).number)
    (range_with_len 1 (section_total (module_at link.modules (piece_at link k).«module»).bytes))

-- ---- all of them

-- the candidates of a link, of whose pieces these are kept
pub record AreCandidatesOf (link : LinkParts) (kept : List Bool) (candidates : List FoldCandidate) : Type 0 where
  pub pieces : map (λ candidate. candidate.piece) candidates ≡ candidate_pieces link kept
  pub children : map (λ candidate. candidate.children.items) candidates ≡ map (children_of link kept) (candidate_pieces link kept)
