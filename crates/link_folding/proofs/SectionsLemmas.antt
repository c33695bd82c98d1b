-- The sections of the candidates of a link.
use Rattle.std.proofs.Common.{◌≡◌, ℕ, zero, suc, ◌+◌, ◌<◌, ◌≤◌, ◌⊎◌, inl, inr, Bool, true, false, cond, List, [], ◌∷◌, length, get_or, map, Option, Some, None, slice_get, refl, sym, ap, ◌∙◌, subst, arith}
use Rattle.std.specs.List.{range_with_len, filter_map}
use Rattle.std.specs.Option.{option_and_then}
use Rattle.std.specs.Prelude.{option_map, unwrap_or}
use Rattle.std.proofs.lemmas.Bool.{and_parts}
use Rattle.std.proofs.lemmas.Option.{slice_get_within, get_or_from_slice_get, same_Some}
use Rattle.link_base.proofs.RangeLemmas.{range_passes}
use Rattle.coff_records.specs.ObjectFile.{section_total}
use Rattle.module_view.specs.Module.{module_at}
use Rattle.link_pieces.specs.LinkParts.{LinkParts}
use Rattle.link_pieces.specs.Pieces.{link_pieces}
use Rattle.link_pieces.specs.PieceIndex.{piece_index}
use Rattle.link_fields.specs.Fixes.{piece_at}
use Rattle.icf.specs.declared.candidate.FoldCandidate.{FoldCandidate}
use Rattle.icf.specs.Sections.{HasSection, sections_of}
use Rattle.link_folding.specs.Candidates.{candidate_pieces, children_of, kept_piece, child_piece, goes_with, is_candidate, AreCandidatesOf}

-- ---- a filtered list of numbers

-- what an item of a filtered range comes from
pub record ComesFrom (f : ℕ → Option ℕ) (a n item : ℕ) : Type 0 where
  pub from : ℕ
  pub first : a ≤ from
  pub last : from < a + n
  pub gives : f from ≡ Some item

-- each item comes from a number of the range
pub comes_from : (f : ℕ → Option ℕ) (a n rank item : ℕ) → slice_get (filter_map f (range_with_len a n)) rank ≡ Some item → ComesFrom f a n item
comes_from f a zero rank item there = absurd cc
comes_from f a (suc n) rank item there = go (λ r. comes_from f (a + 1) n r item) (f a) refl rank there
  where
    later : ((rank : ℕ) → slice_get (filter_map f (range_with_len (a + 1) n)) rank ≡ Some item → ComesFrom f (a + 1) n item) → (rank : ℕ) → slice_get (filter_map f (range_with_len (a + 1) n)) rank ≡ Some item → ComesFrom f a (suc n) item
    later before rank there =
        let found = before rank there in
        record { from = found.from; first = omega (arith, found.first); last = omega (arith, found.last); gives = found.gives }

    go : ((rank : ℕ) → slice_get (filter_map f (range_with_len (a + 1) n)) rank ≡ Some item → ComesFrom f (a + 1) n item) → (given : Option ℕ) → f a ≡ given → (rank : ℕ) → slice_get (filter_map f (range_with_len a (suc n))) rank ≡ Some item → ComesFrom f a (suc n) item
    go before None e rank there = later before rank (rw e at there)
    go before (Some x) e zero there = record { from = a; first = omega arith; last = omega arith; gives = e ∙ (rw e at there) }
    go before (Some x) e (suc rank) there = later before rank (rw e at there)

-- ---- a candidate's own section, and its children

-- a candidate of the list
pub record IsCandidateAt (link : LinkParts) (kept : List Bool) (candidates : List FoldCandidate) (number : ℕ) (candidate : FoldCandidate) : Type 0 where
  pub there : slice_get candidates number ≡ Some candidate
  pub listed : slice_get (candidate_pieces link kept) number ≡ Some candidate.piece
  pub within : candidate.piece < length (link_pieces link)
  pub passes : is_candidate link kept candidate.piece ≡ true
  pub children : candidate.children.items ≡ children_of link kept candidate.piece

slice_get-map : {X Y : Type 0} (f : X → Y) (xs : List X) (k : ℕ) (x : X) → slice_get xs k ≡ Some x → slice_get (map f xs) k ≡ Some (f x)
slice_get-map f [] k x there = absurd cc
slice_get-map f (y ∷ xs) zero x there = ap (λ (z : _). Some (f z)) (same_Some y x there)
slice_get-map f (y ∷ xs) (suc k) x there = slice_get-map f xs k x there

-- each of the list is one
pub candidate_is : (link : LinkParts) (kept : List Bool) (candidates : List FoldCandidate) (number : ℕ) (candidate : FoldCandidate) → AreCandidatesOf link kept candidates → slice_get candidates number ≡ Some candidate → IsCandidateAt link kept candidates number candidate
candidate_is link kept candidates number candidate are there =
    let roots = candidate_pieces link kept in
    let listed : slice_get roots number ≡ Some candidate.piece = ap (λ (xs : List ℕ). slice_get xs number) (sym are.pieces) ∙ slice_get-map (λ c. c.piece) candidates number candidate there in
    let lt = slice_get_within roots number candidate.piece listed in
    let read : get_or roots number 0 ≡ candidate.piece = get_or_from_slice_get roots number candidate.piece 0 listed in
    let passed = range_passes (is_candidate link kept) 0 (length (link_pieces link)) number 0 lt in
    let children : Some candidate.children.items ≡ Some (children_of link kept candidate.piece) =
    sym (slice_get-map (λ c. c.children.items) candidates number candidate there)
    ∙ ap (λ (lists : List (List ℕ)). slice_get lists number) are.children
    ∙ slice_get-map (children_of link kept) roots number candidate.piece listed in
    record {
      there = there;
      listed = listed;
      within = omega (arith, passed.high, read);
      passes = subst (λ (k : ℕ). is_candidate link kept k ≡ true) read passed.passes;
      children = same_Some candidate.children.items (children_of link kept candidate.piece) children;
    }

-- a piece comes from a section of a candidate's module that goes with it
pub record IsChildOf (link : LinkParts) (kept : List Bool) (candidates : List FoldCandidate) (number rank piece : ℕ) (candidate : FoldCandidate) : Type 0 where
  pub at : IsCandidateAt link kept candidates number candidate
  pub child_rank : ℕ
  pub rank_is : rank ≡ suc child_rank
  pub listed : slice_get (children_of link kept candidate.piece) child_rank ≡ Some piece
  pub section : ℕ
  pub first : 1 ≤ section
  pub last : section < 1 + section_total (module_at link.modules (piece_at link candidate.piece).«module»).bytes
  pub goes : goes_with (module_at link.modules (piece_at link candidate.piece).«module»).bytes (piece_at link candidate.piece).number section ≡ true
  pub index : piece_index link (piece_at link candidate.piece).«module» section ≡ Some piece
  pub kept_there : get_or kept piece false ≡ true

-- or is the candidate's own section
pub record IsOwnOf (link : LinkParts) (kept : List Bool) (candidates : List FoldCandidate) (number rank piece : ℕ) (candidate : FoldCandidate) : Type 0 where
  pub at : IsCandidateAt link kept candidates number candidate
  pub rank_is : rank ≡ 0
  pub piece_is : piece ≡ candidate.piece

kept_of : (kept : List Bool) (index : Option ℕ) (piece : ℕ) → option_and_then (kept_piece kept) index ≡ Some piece → (index ≡ Some piece) × (get_or kept piece false ≡ true)
kept_of kept None piece e = absurd cc
kept_of kept (Some k) piece e = go (get_or kept k false) refl e
  where
    go : (b : Bool) → get_or kept k false ≡ b → cond b (Some k) None ≡ Some piece → (Some k ≡ Some piece) × (get_or kept piece false ≡ true)
    go true is e = (e, ap (λ (n : ℕ). get_or kept n false) (sym (same_Some k piece e)) ∙ is)
    go false is e = absurd cc

when_true : (b : Bool) (index : Option ℕ) (piece : ℕ) → cond b index None ≡ Some piece → (b ≡ true) × (index ≡ Some piece)
when_true true index piece e = (refl, e)
when_true false index piece e = absurd cc

-- a child is the piece of its section
pub given_by : (link : LinkParts) (kept : List Bool) (position root section piece : ℕ) → child_piece link kept position root section ≡ Some piece → piece_index link position section ≡ Some piece
given_by link kept position root section piece e =
    let told = when_true (goes_with (module_at link.modules position).bytes root section) (option_and_then (kept_piece kept) (piece_index link position section)) piece e in
    (kept_of kept (piece_index link position section) piece told.1).0

-- each section of a candidate is one or the other
pub section_is : (link : LinkParts) (kept : List Bool) (candidates : List FoldCandidate) → AreCandidatesOf link kept candidates → (number rank piece : ℕ) → HasSection candidates number rank piece → (candidate : FoldCandidate) × (IsOwnOf link kept candidates number rank piece candidate ⊎ IsChildOf link kept candidates number rank piece candidate)
section_is link kept candidates are number rank piece has = by (slice_get candidates number) refl has
  where
    of : (candidate : FoldCandidate) (at : IsCandidateAt link kept candidates number candidate) (rank : ℕ) → slice_get (sections_of candidate) rank ≡ Some piece → IsOwnOf link kept candidates number rank piece candidate ⊎ IsChildOf link kept candidates number rank piece candidate
    of candidate at zero e = inl (record { at = at; rank_is = refl; piece_is = sym (same_Some candidate.piece piece e) })
    of candidate at (suc rank) e =
        let root = piece_at link candidate.piece in
        let bytes = (module_at link.modules root.«module»).bytes in
        let listed : slice_get (children_of link kept candidate.piece) rank ≡ Some piece = ap (λ (xs : List ℕ). slice_get xs rank) (sym at.children) ∙ e in
        let from = comes_from (child_piece link kept root.«module» root.number) 1 (section_total bytes) rank piece listed in
        let told = when_true (goes_with bytes root.number from.from) (option_and_then (kept_piece kept) (piece_index link root.«module» from.from)) piece from.gives in
        let found = kept_of kept (piece_index link root.«module» from.from) piece told.1 in
        inr (record {
          at = at;
          child_rank = rank;
          rank_is = refl;
          listed = listed;
          section = from.from;
          first = from.first;
          last = from.last;
          goes = told.0;
          index = found.0;
          kept_there = found.1;
        })

    by : (found : Option FoldCandidate) → slice_get candidates number ≡ found → slice_get (unwrap_or (option_map sections_of found) []) rank ≡ Some piece → (candidate : FoldCandidate) × (IsOwnOf link kept candidates number rank piece candidate ⊎ IsChildOf link kept candidates number rank piece candidate)
    by None is e = absurd cc
    by (Some candidate) is e = (candidate, of candidate (candidate_is link kept candidates number candidate are is) rank e)

-- each section of a candidate is kept
pub section_kept : (link : LinkParts) (kept : List Bool) (candidates : List FoldCandidate) → AreCandidatesOf link kept candidates → (number rank piece : ℕ) → HasSection candidates number rank piece → get_or kept piece false ≡ true
section_kept link kept candidates are number rank piece has =
    let found = section_is link kept candidates are number rank piece has in
    elim found.1 [
      | inl own ↦ ap (λ (k : ℕ). get_or kept k false) own.piece_is ∙ (and_parts (get_or kept found.0.piece false) _ own.at.passes).0
      | inr child ↦ child.kept_there
    ]
