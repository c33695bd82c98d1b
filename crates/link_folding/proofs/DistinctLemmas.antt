-- No piece is there twice among the candidates of a link and their children.
use Rattle.std.proofs.Common.{◌≡◌, ℕ, zero, suc, ◌+◌, ◌<◌, inl, inr, Bool, true, false, not, eqb, ltb, List, length, get_or, Option, Some, None, slice_get, refl, sym, ap, ◌∙◌, subst, arith}
use Rattle.std.specs.List.{AllPairs, range_with_len, filter_map}
use Rattle.std.proofs.lemmas.Bool.{cases_lt, false≢true, and_parts, eqb-true, ltb-true}
use Rattle.std.proofs.lemmas.Bool.Decides.{eqb_tells}
use Rattle.std.proofs.lemmas.List.{length-map, get_or-map}
use Rattle.std.proofs.lemmas.List.FromFn.{length-range_with_len, get_or-range_with_len}
use Rattle.std.proofs.lemmas.List.Kept.{AllPairs-filter}
use Rattle.std.proofs.lemmas.Option.{slice_get_within, get_or_from_slice_get, same_Some}
use Rattle.coff_records.specs.ObjectFile.{section_total}
use Rattle.coff_aux.specs.Comdats.{comdat_of, parents_of}
use Rattle.module_view.specs.Module.{module_at}
use Rattle.comdat.specs.Chains.{chain_end}
use Rattle.comdat.proofs.CallerLemmas.{own_end}
use Rattle.section_group.specs.declared.piece.Piece.{Piece}
use Rattle.link_base.specs.Bytes.{has_flag}
use Rattle.link_base.specs.PeFormat.{SCN_LNK_COMDAT, SCN_MEM_EXECUTE, SCN_MEM_WRITE}
use Rattle.link_pieces.specs.LinkParts.{LinkParts}
use Rattle.link_pieces.specs.Commons.{FIRST_COMMON}
use Rattle.link_pieces.specs.Pieces.{link_pieces}
use Rattle.link_pieces.specs.PieceIndex.{is_section, piece_index}
use Rattle.link_pieces.proofs.CallerLemmas.{piece_is, found_piece}
use Rattle.link_fields.specs.Fixes.{piece_at}
use Rattle.icf.specs.declared.candidate.FoldCandidate.{FoldCandidate}
use Rattle.icf.specs.Sections.{HasSection, AreCandidates}
use Rattle.link_folding.specs.Candidates.{candidate_pieces, children_of, child_piece, is_own, is_candidate, may_fold, AreCandidatesOf}
use Rattle.link_folding.proofs.SectionsLemmas.{comes_from, IsChildOf, IsOwnOf, section_is, given_by}
use Rattle.link_folding.proofs.PieceLemmas.{index_of}

-- ---- lists without an item twice

once : (xs : List ℕ) (i j item : ℕ) → AllPairs (λ x y. x < y) xs → slice_get xs i ≡ Some item → slice_get xs j ≡ Some item → i ≡ j
once xs i j item rising one other = elim (cases_lt i j) [
  | inl before ↦ absurd (below i j before one other)
  | inr later ↦ elim (cases_lt j i) [
    | inl before ↦ absurd (below j i before other one)
    | inr same ↦ omega arith
  ]
]
  where
    below : (i j : ℕ) → i < j → slice_get xs i ≡ Some item → slice_get xs j ≡ Some item → ⊥
    below i j before one other =
        let rises = rising i j 0 before (slice_get_within xs j item other) in
        let left = get_or_from_slice_get xs i item 0 one in
        let right = get_or_from_slice_get xs j item 0 other in
        omega (arith, rises, left, right)

-- of a filtered range whose items tell where they come from
once_given : (f : ℕ → Option ℕ) (from : ℕ → ℕ) → ((k item : ℕ) → f k ≡ Some item → from item ≡ k) → (a n i j item : ℕ) → slice_get (filter_map f (range_with_len a n)) i ≡ Some item → slice_get (filter_map f (range_with_len a n)) j ≡ Some item → i ≡ j
once_given f from tells a zero i j item one other = absurd cc
once_given f from tells a (suc n) i j item one other = go (λ i j. once_given f from tells (a + 1) n i j item) (f a) refl i j one other
  where
    later : (x j : ℕ) → f a ≡ Some x → x ≡ item → slice_get (filter_map f (range_with_len (a + 1) n)) j ≡ Some item → ⊥
    later x j e same there =
        let found = comes_from f (a + 1) n j item there in
        let here = tells a x e in
        let there = tells found.from item found.gives in
        let first = found.first in
        omega (arith, here, there, first, ap from same)

    go : ((i j : ℕ) → slice_get (filter_map f (range_with_len (a + 1) n)) i ≡ Some item → slice_get (filter_map f (range_with_len (a + 1) n)) j ≡ Some item → i ≡ j) → (given : Option ℕ) → f a ≡ given → (i j : ℕ) → slice_get (filter_map f (range_with_len a (suc n))) i ≡ Some item → slice_get (filter_map f (range_with_len a (suc n))) j ≡ Some item → i ≡ j
    go before None e i j one other = before i j (rw e at one) (rw e at other)
    go before (Some x) e zero zero one other = refl
    go before (Some x) e zero (suc j) one other = absurd (later x j e (same_Some x item (rw e at one)) (rw e at other))
    go before (Some x) e (suc i) zero one other = absurd (later x i e (same_Some x item (rw e at other)) (rw e at one))
    go before (Some x) e (suc i) (suc j) one other = ap suc (before i j (rw e at one) (rw e at other))

range_rises : (a n : ℕ) → AllPairs (λ x y. x < y) (range_with_len a n)
range_rises a n i j d before lt =
    let within : j < n = omega (arith, lt, length-range_with_len a n) in
    omega (arith, before, get_or-range_with_len a n i d (omega (arith, before, within)), get_or-range_with_len a n j d within)

-- ---- candidates

module _ (link : LinkParts) (kept : List Bool) (candidates : List FoldCandidate) (are : AreCandidatesOf link kept candidates) where
  roots_rise : AllPairs (λ x y. x < y) (candidate_pieces link kept)
  roots_rise = AllPairs-filter (λ x y. x < y) (is_candidate link kept) (range_with_len 0 (length (link_pieces link))) (range_rises 0 (length (link_pieces link)))

  section_of : (k : ℕ) → is_candidate link kept k ≡ true → is_section (length link.modules) (piece_at link k) ≡ true
  section_of k passes = (and_parts (is_section (length link.modules) (piece_at link k)) _ (and_parts (get_or kept k false) (may_fold link (piece_at link k)) passes).1).0

  -- the section of a candidate is the end of its chain
  own_chain : (k : ℕ) → k < length (link_pieces link) → is_candidate link kept k ≡ true → chain_end (parents_of (module_at link.modules (piece_at link k).«module»).bytes) (piece_at link k).number ≡ (piece_at link k).number
  own_chain k lt passes =
      let piece = piece_at link k in
      let bytes = (module_at link.modules piece.«module»).bytes in
      let count = length link.modules in
      let folds = and_parts (is_section count piece) _ (and_parts (get_or kept k false) (may_fold link piece) passes).1 in
      let place = and_parts (ltb piece.«module» count) (ltb piece.number FIRST_COMMON) folds.0 in
      let inside = ltb-true piece.«module» count place.0 in
      let small = ltb-true piece.number FIRST_COMMON place.1 in
      let comdat = and_parts (has_flag piece.flags SCN_LNK_COMDAT) _ folds.1 in
      let code = and_parts (has_flag piece.flags SCN_MEM_EXECUTE) _ comdat.1 in
      let fixed = and_parts (not (has_flag piece.flags SCN_MEM_WRITE)) _ code.1 in
      let own = and_parts piece.init (is_own (comdat_of bytes piece.number)) fixed.1 in
      elim (piece_is link k lt) [
        | inl of_module ↦ elim of_module.is [
          | inl whole ↦ own_end bytes piece.number whole.first whole.last own.1
          | inr common ↦
              let number : piece.number ≡ FIRST_COMMON + common.common.symbol = ap (λ (p : Piece). p.number) common.is in
              absurd (omega (arith, small, number))
        ]
        | inr of_linker ↦ absurd (omega (arith, inside, of_linker.of_linker))
      ]

  -- where a child stands in its module
  record IsPlaced (number rank piece : ℕ) (candidate : FoldCandidate) (child : IsChildOf link kept candidates number rank piece candidate) : Type 0 where
    pub within : piece < length (link_pieces link)
    pub of_module : (piece_at link piece).«module» ≡ (piece_at link candidate.piece).«module»
    pub section : (piece_at link piece).number ≡ child.section
    pub root : chain_end (parents_of (module_at link.modules (piece_at link candidate.piece).«module»).bytes) child.section ≡ (piece_at link candidate.piece).number
    pub apart : child.section ≡ (piece_at link candidate.piece).number → ⊥

  placed : (number rank piece : ℕ) (candidate : FoldCandidate) (child : IsChildOf link kept candidates number rank piece candidate) → IsPlaced number rank piece candidate child
  placed number rank piece candidate child =
      let root = piece_at link candidate.piece in
      let bytes = (module_at link.modules root.«module»).bytes in
      let found = found_piece link root.«module» child.section piece child.index in
      let goes = and_parts (eqb (chain_end (parents_of bytes) child.section) root.number) (not (eqb child.section root.number)) child.goes in
      record {
        within = found.within;
        of_module = ap (λ (p : Piece). p.«module») found.is;
        section = ap (λ (p : Piece). p.number) found.is;
        root = eqb-true (chain_end (parents_of bytes) child.section) root.number goes.0;
        apart = λ same. unequal child.section root.number same goes.1;
      }
    where
      unequal : (a b : ℕ) → a ≡ b → not (eqb a b) ≡ true → ⊥
      unequal a b same fails = elim (eqb_tells a b) [
        | inl equal ↦ false≢true (ap not (sym equal.0) ∙ fails)
        | inr other ↦ other.1 same
      ]

  pub sections_within : (number rank piece : ℕ) → HasSection candidates number rank piece → piece < length (link_pieces link)
  sections_within number rank piece has =
      let found = section_is link kept candidates are number rank piece has in
      elim found.1 [
        | inl own ↦ omega (arith, own.piece_is, own.at.within)
        | inr child ↦ (placed number rank piece found.0 child).within
      ]

  own_own : (number rank other other_rank piece : ℕ) (left right : FoldCandidate) → IsOwnOf link kept candidates number rank piece left → IsOwnOf link kept candidates other other_rank piece right → (number ≡ other) × (rank ≡ other_rank)
  own_own number rank other other_rank piece left right one two = (
    once (candidate_pieces link kept) number other piece roots_rise
        (one.at.listed ∙ ap Some (sym one.piece_is))
        (two.at.listed ∙ ap Some (sym two.piece_is)),
    one.rank_is ∙ sym two.rank_is,
  )

  own_child : (number rank other other_rank piece : ℕ) (left right : FoldCandidate) → IsOwnOf link kept candidates number rank piece left → IsChildOf link kept candidates other other_rank piece right → ⊥
  own_child number rank other other_rank piece left right one two =
      let place = placed other other_rank piece right two in
      let passes = subst (λ (k : ℕ). is_candidate link kept k ≡ true) (sym one.piece_is) one.at.passes in
      let chain = own_chain piece place.within passes in
      let same : chain_end (parents_of (module_at link.modules (piece_at link right.piece).«module»).bytes) two.section ≡ two.section =
      ap (λ (m : ℕ). chain_end (parents_of (module_at link.modules m).bytes) two.section) (sym place.of_module)
      ∙ ap (chain_end (parents_of (module_at link.modules (piece_at link piece).«module»).bytes)) (sym place.section)
      ∙ chain ∙ place.section in
      place.apart (sym same ∙ place.root)

  child_child : (number rank other other_rank piece : ℕ) (left right : FoldCandidate) → IsChildOf link kept candidates number rank piece left → IsChildOf link kept candidates other other_rank piece right → (number ≡ other) × (rank ≡ other_rank)
  child_child number rank other other_rank piece left right one two =
      let here = placed number rank piece left one in
      let there = placed other other_rank piece right two in
      let modules : (piece_at link left.piece).«module» ≡ (piece_at link right.piece).«module» = sym here.of_module ∙ there.of_module in
      let sections : one.section ≡ two.section = sym here.section ∙ there.section in
      let numbers : (piece_at link left.piece).number ≡ (piece_at link right.piece).number =
      sym here.root
      ∙ ap (λ (m : ℕ). chain_end (parents_of (module_at link.modules m).bytes) one.section) modules
      ∙ ap (chain_end (parents_of (module_at link.modules (piece_at link right.piece).«module»).bytes)) sections
      ∙ there.root in
      let roots : left.piece ≡ right.piece =
      same_Some left.piece right.piece
      (sym (index_of link left.piece one.at.within (section_of left.piece one.at.passes))
      ∙ ap (λ (m : ℕ). piece_index link m (piece_at link left.piece).number) modules
      ∙ ap (piece_index link (piece_at link right.piece).«module») numbers
      ∙ index_of link right.piece two.at.within (section_of right.piece two.at.passes)) in
      let root = piece_at link left.piece in
      let ranks : one.child_rank ≡ two.child_rank =
      once_given (child_piece link kept root.«module» root.number) (λ item. (piece_at link item).number)
      (λ section item given. ap (λ (p : Piece). p.number) (found_piece link root.«module» section item (given_by link kept root.«module» root.number section item given)).is)
      1 (section_total (module_at link.modules root.«module»).bytes) one.child_rank two.child_rank piece one.listed
      (ap (λ (k : ℕ). slice_get (children_of link kept k) two.child_rank) roots ∙ two.listed) in (
        once (candidate_pieces link kept) number other left.piece roots_rise one.at.listed (two.at.listed ∙ ap Some (sym roots)),
        one.rank_is ∙ ap suc ranks ∙ sym two.rank_is,
      )

  sections_distinct : (number rank other other_rank piece : ℕ) → HasSection candidates number rank piece → HasSection candidates other other_rank piece → (number ≡ other) × (rank ≡ other_rank)
  sections_distinct number rank other other_rank piece has has' =
      let left = section_is link kept candidates are number rank piece has in
      let right = section_is link kept candidates are other other_rank piece has' in
      elim left.1 [
        | inl one ↦ elim right.1 [
          | inl two ↦ own_own number rank other other_rank piece left.0 right.0 one two
          | inr two ↦ absurd (own_child number rank other other_rank piece left.0 right.0 one two)
        ]
        | inr one ↦ elim right.1 [
          | inl two ↦ absurd (own_child other other_rank number rank piece right.0 left.0 two one)
          | inr two ↦ child_child number rank other other_rank piece left.0 right.0 one two
        ]
      ]

  pub candidates_distinct : (count : ℕ) → count ≡ length (link_pieces link) → AreCandidates count candidates
  candidates_distinct count all = record {
    within = λ number rank piece has. let lt = sections_within number rank piece has in omega (arith, lt, all);
    distinct = sections_distinct;
    ascending = λ i j d before lt.
        let roots = candidate_pieces link kept in
        let listed = ap length are.pieces in
        let within : j < length roots = omega (arith, lt, listed, length-map candidates (λ candidate. candidate.piece)) in
        let rises = roots_rise i j 0 before within in
        let left : get_or roots i 0 ≡ (get_or candidates i d).piece = ap (λ (xs : List ℕ). get_or xs i 0) (sym are.pieces) ∙ get_or-map (λ candidate. candidate.piece) candidates i d 0 (omega (arith, before, lt)) in
        let right : get_or roots j 0 ≡ (get_or candidates j d).piece = ap (λ (xs : List ℕ). get_or xs j 0) (sym are.pieces) ∙ get_or-map (λ candidate. candidate.piece) candidates j d 0 lt in
        omega (arith, rises, left, right);
  }
