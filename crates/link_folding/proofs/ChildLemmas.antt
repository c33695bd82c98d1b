-- The children of candidates, one section more.
use Rattle.std.proofs.Common.{◌≡◌, ℕ, zero, suc, ◌+◌, ◌-◌, ◌<◌, inl, inr, Bool, true, false, cond, not, ◌&&◌, eqb, ltb, List, [], ◌∷◌, ◌++◌, length, get_or, set, map, Option, Some, None, slice_get, refl, sym, ap, ◌∙◌, subst, arith}
use Rattle.std.specs.List.{All, range_with_len, filter_map}
use Rattle.std.specs.Option.{option_and_then}
use Rattle.std.proofs.lemmas.Bool.{cases_eq, cases_lt, and_parts, ltb-true, lt-ltb, le-ltb, eq-eqb, ne_eqb}
use Rattle.std.proofs.lemmas.List.{append-nil, length-map, length-set, get_or-map, get_or-set_same, get_or-set_other}
use Rattle.std.proofs.lemmas.List.Elements.{filter_map-append}
use Rattle.std.proofs.lemmas.Option.{slice_get_within, slice_get-get_or, same_Some}
use Rattle.link_base.proofs.RangeLemmas.{range_more, range_passes}
use Rattle.link_base.proofs.NumberLemmas.{eqb_flip}
use Rattle.coff_records.specs.ObjectFile.{section_total}
use Rattle.coff_aux.specs.Comdats.{parents_of}
use Rattle.module_view.specs.Module.{module_at}
use Rattle.comdat.specs.Chains.{chain_end}
use Rattle.section_group.specs.declared.piece.Piece.{Piece}
use Rattle.link_pieces.specs.LinkParts.{LinkParts}
use Rattle.link_pieces.specs.Pieces.{link_pieces, piece_of}
use Rattle.link_pieces.specs.PieceIndex.{IndexView, IsPieceIndex, indexed, piece_index, is_section}
use Rattle.link_pieces.proofs.CallerLemmas.{found_piece}
use Rattle.link_fields.specs.Fixes.{piece_at}
use Rattle.icf.specs.declared.candidate.FoldCandidate.{FoldCandidate}
use Rattle.link_folding.specs.declared.candidates.Candidates.{Candidates}
use Rattle.link_folding.specs.Candidates.{candidate_pieces, children_of, kept_piece, child_piece, is_candidate, may_fold, AreCandidatesOf}
use Rattle.link_folding.specs.Steps.{AreNumbers, sections_done, first_children, HasChildren, AreGathered, kept_child, number_at, candidate_at}
use Rattle.link_folding.proofs.NumberLemmas.{AreOwn}
use Rattle.link_folding.proofs.PieceLemmas.{index_of}

none_some : {X : Type 0} (o : Option X) (x : X) → o ≡ None → o ≡ Some x → ⊥
none_some o x none some = cc

either_none : {X : Type 0} (b : Bool) → cond b None None ≡ (let none : Option X = None in none)
either_none true = refl
either_none false = refl

either_same : (b : Bool) (n : ℕ) → cond b n n ≡ n
either_same true n = refl
either_same false n = refl

-- ---- how many sections are done

here_done : (link : LinkParts) (position count : ℕ) → sections_done link position count position ≡ count
here_done link position count = rw (le-ltb position position (omega arith), eq-eqb position position refl) refl

elsewhere_done : (link : LinkParts) (position one other m : ℕ) → (m ≡ position → ⊥) → sections_done link position one m ≡ sections_done link position other m
elsewhere_done link position one other m apart = rw (ne_eqb m position apart) refl

none_done : (link : LinkParts) (m : ℕ) → sections_done link 0 0 m ≡ 0
none_done link m = rw (le-ltb m 0 (omega arith)) (either_same (eqb m 0) 0)

-- a module is done where all its sections are
next_done : (link : LinkParts) (position m : ℕ) → sections_done link position (section_total (module_at link.modules position).bytes) m ≡ sections_done link (position + 1) 0 m
next_done link position m = elim (cases_lt m position) [
  | inl low ↦ rw (lt-ltb m position low, lt-ltb m (position + 1) (omega (arith, low))) refl
  | inr high ↦ elim (cases_eq m position) [
    | inl here ↦
        rw (le-ltb m position high, eq-eqb m position here, lt-ltb m (position + 1) (omega (arith, here)))
        (ap (λ (k : ℕ). section_total (module_at link.modules k).bytes) (sym here))
    | inr apart ↦
        rw (le-ltb m position high, ne_eqb m position apart, le-ltb m (position + 1) (omega (arith, high, apart)))
        (sym (either_same (eqb m (position + 1)) 0))
  ]
]

all_done : (link : LinkParts) (count m : ℕ) → m < count → sections_done link count 0 m ≡ section_total (module_at link.modules m).bytes
all_done link count m lt = rw (lt-ltb m count lt) refl

-- ---- what is gathered

module _ (link : LinkParts) (kept : List Bool) where
  pub own_gathered : (found : Candidates) → AreOwn link kept (length (link_pieces link)) found → AreGathered link kept 0 0 found
  own_gathered found own = record {
    pieces = own.pieces;
    numbers = own.numbers;
    children = λ k d lt.
        let piece = (get_or found.list.items k d).piece in
        own.none k d lt ∙ sym (ap (first_children link kept piece) (none_done link (piece_at link piece).«module»));
  }

  pub next_module : (position : ℕ) (found : Candidates) → AreGathered link kept position (section_total (module_at link.modules position).bytes) found → AreGathered link kept (position + 1) 0 found
  next_module position found gathered = record {
    pieces = gathered.pieces;
    numbers = gathered.numbers;
    children = λ k d lt.
        let piece = (get_or found.list.items k d).piece in
        gathered.children k d lt ∙ ap (first_children link kept piece) (next_done link position (piece_at link piece).«module»);
  }

  -- a candidate is a section of a module
  record IsRoot (k : ℕ) : Type 0 where
    pub within : k < length (link_pieces link)
    pub section : is_section (length link.modules) (piece_at link k) ≡ true
    pub of_module : (piece_at link k).«module» < length link.modules

  root_is : (list : List FoldCandidate) (number : ℕ) (d : FoldCandidate) → map (λ candidate. candidate.piece) list ≡ candidate_pieces link kept → number < length list → IsRoot (get_or list number d).piece
  root_is list number d pieces lt =
      let roots = candidate_pieces link kept in
      let count : number < length roots = omega (arith, lt, ap length pieces, length-map list (λ candidate. candidate.piece)) in
      let passed = range_passes (is_candidate link kept) 0 (length (link_pieces link)) number 0 count in
      let read : get_or roots number 0 ≡ (get_or list number d).piece = ap (λ (xs : List ℕ). get_or xs number 0) (sym pieces) ∙ get_or-map (λ candidate. candidate.piece) list number d 0 lt in
      let k = (get_or list number d).piece in
      let folds = and_parts (get_or kept k false) (may_fold link (piece_at link k)) (subst (λ (n : ℕ). is_candidate link kept n ≡ true) read passed.passes) in
      let is = and_parts (is_section (length link.modules) (piece_at link k)) _ folds.1 in
      let parts = and_parts (ltb (piece_at link k).«module» (length link.modules)) _ is.0 in
      record {
        within = omega (arith, passed.high, read);
        section = is.0;
        of_module = ltb-true (piece_at link k).«module» (length link.modules) parts.0;
      }

  same_lists : (list : List FoldCandidate) (roots : List ℕ) → map (λ candidate. candidate.piece) list ≡ roots → All (λ candidate. candidate.children.items ≡ children_of link kept candidate.piece) list → map (λ candidate. candidate.children.items) list ≡ map (children_of link kept) roots
  same_lists list roots pieces each = listed list each ∙ ap (map (children_of link kept)) pieces
    where
      listed : (list : List FoldCandidate) → All (λ candidate. candidate.children.items ≡ children_of link kept candidate.piece) list → map (λ candidate. candidate.children.items) list ≡ map (children_of link kept) (map (λ candidate. candidate.piece) list)
      listed [] each = refl
      listed (candidate ∷ list) each = λ i. each 0 candidate (omega arith) i ∷ listed list (λ k d lt. each (suc k) d (omega (arith, lt))) i

  pub all_gathered : (found : Candidates) (count : ℕ) → count ≡ length link.modules → AreGathered link kept count 0 found → AreCandidatesOf link kept found.list.items
  all_gathered found count all gathered = record {
    pieces = gathered.pieces;
    children = same_lists found.list.items (candidate_pieces link kept) gathered.pieces (λ k d lt.
        let root = root_is found.list.items k d gathered.pieces lt in
        let piece = (get_or found.list.items k d).piece in
        gathered.children k d lt ∙ ap (first_children link kept piece) (all_done link count (piece_at link piece).«module» (omega (arith, root.of_module, all))));
  }

  -- ---- one section more

  module _ (position section end : ℕ) (first : 0 < section) where
    given : ℕ → Option ℕ
    given number = child_piece link kept position number section

    abbrev Old : FoldCandidate → Type 0
    Old candidate = HasChildren link kept position (section - 1) candidate

    abbrev New : FoldCandidate → Type 0
    New candidate = HasChildren link kept position section candidate

    grown : (f : ℕ → Option ℕ) → filter_map f (range_with_len 1 section) ≡ filter_map f (range_with_len 1 (section - 1)) ++ filter_map f (section ∷ [])
    grown f =
        ap (λ (n : ℕ). filter_map f (range_with_len 1 n)) (omega (arith, first))
        ∙ ap (filter_map f) (range_more 1 (section - 1) section (omega (arith, first)))
        ∙ filter_map-append f (range_with_len 1 (section - 1)) (section ∷ [])

    -- the children of a piece of this module
    in_place : (k count : ℕ) → (piece_at link k).«module» ≡ position → first_children link kept k (sections_done link position count (piece_at link k).«module») ≡ filter_map (child_piece link kept position (piece_at link k).number) (range_with_len 1 count)
    in_place k count here =
        ap (λ (m : ℕ). filter_map (child_piece link kept m (piece_at link k).number) (range_with_len 1 (sections_done link position count m))) here
        ∙ ap (λ (n : ℕ). filter_map (child_piece link kept position (piece_at link k).number) (range_with_len 1 n)) (here_done link position count)

    kept_same : (candidate : FoldCandidate) → Old candidate → ((piece_at link candidate.piece).«module» ≡ position → child_piece link kept position (piece_at link candidate.piece).number section ≡ None) → New candidate
    kept_same candidate old none = elim (cases_eq (piece_at link candidate.piece).«module» position) [
      | inr apart ↦ old ∙ ap (first_children link kept candidate.piece) (elsewhere_done link position (section - 1) section (piece_at link candidate.piece).«module» apart)
      | inl here ↦
          let f = child_piece link kept position (piece_at link candidate.piece).number in
          old ∙ in_place candidate.piece (section - 1) here
          ∙ sym (append-nil (filter_map f (range_with_len 1 (section - 1))))
          ∙ ap (λ (xs : List ℕ). filter_map f (range_with_len 1 (section - 1)) ++ xs) (sym (nothing f section (none here)))
          ∙ sym (grown f)
          ∙ sym (in_place candidate.piece section here)
    ]
      where
        nothing : (f : ℕ → Option ℕ) (n : ℕ) → f n ≡ None → filter_map f (n ∷ []) ≡ []
        nothing f n e = rw e refl

    kept_more : (old new : FoldCandidate) (child : ℕ) → Old old → new.piece ≡ old.piece → new.children.items ≡ old.children.items ++ child ∷ [] → (piece_at link old.piece).«module» ≡ position → child_piece link kept position (piece_at link old.piece).number section ≡ Some child → New new
    kept_more old new child before same more here some =
        let f = child_piece link kept position (piece_at link old.piece).number in
        subst (λ (k : ℕ). new.children.items ≡ first_children link kept k (sections_done link position section (piece_at link k).«module»)) (sym same)
        (more
        ∙ ap (λ (xs : List ℕ). xs ++ child ∷ []) (before ∙ in_place old.piece (section - 1) here)
        ∙ ap (λ (xs : List ℕ). filter_map f (range_with_len 1 (section - 1)) ++ xs) (sym (one f section some))
        ∙ sym (grown f)
        ∙ sym (in_place old.piece section here))
      where
        one : (f : ℕ → Option ℕ) (n : ℕ) → f n ≡ Some child → filter_map f (n ∷ []) ≡ child ∷ []
        one f n e = rw e refl

    module _ (index : IndexView) (is : IsPieceIndex link index) (end_is : end ≡ chain_end (parents_of (module_at link.modules position).bytes) section) where
      abbrev pub child_here : Option ℕ
      child_here = kept_child index.sections kept position section end

      child_given : (number : ℕ) → child_piece link kept position number section ≡ cond (eqb end number) child_here None
      child_given number =
          ap (λ (e : ℕ). cond (eqb e number && not (eqb section number)) (option_and_then (kept_piece kept) (piece_index link position section)) None) (sym end_is)
          ∙ ap (λ (o : Option ℕ). cond (eqb end number && not (eqb section number)) (option_and_then (kept_piece kept) o) None) (sym (is.sections position section))
          ∙ elim (cases_eq end number) [
            | inl same ↦
                rw (eq-eqb end number same)
                (ap (λ (b : Bool). cond (not b) given_here None) (eqb_flip section number ∙ ap (λ (n : ℕ). eqb n section) (sym same)) ∙ flipped (eqb end section))
            | inr apart ↦ rw (ne_eqb end number apart) refl
          ]
        where
          given_here : Option ℕ
          given_here = option_and_then (kept_piece kept) (indexed index.sections position section)

          flipped : (b : Bool) → cond (not b) given_here None ≡ cond b None given_here
          flipped true = refl
          flipped false = refl

      with_children : (found : Candidates) (children : All New found.list.items) → AreGathered link kept position (section - 1) found → AreGathered link kept position section found
      with_children found children gathered = record { pieces = gathered.pieces; numbers = gathered.numbers; children = children }

      -- no section is added
      pub no_child : (found : Candidates) → child_here ≡ None → AreGathered link kept position (section - 1) found → AreGathered link kept position section found
      no_child found none gathered = with_children found (λ k d lt.
          let candidate = get_or found.list.items k d in
          kept_same candidate (gathered.children k d lt) (λ here.
          child_given (piece_at link candidate.piece).number
          ∙ ap (λ (o : Option ℕ). cond (eqb end (piece_at link candidate.piece).number) o None) none
          ∙ either_none (eqb end (piece_at link candidate.piece).number))) gathered

      -- where a candidate is the end of the chain, it is found
      found_root : (found : Candidates) (number : ℕ) (d : FoldCandidate) → AreGathered link kept position (section - 1) found → number < length found.list.items → (piece_at link (get_or found.list.items number d).piece).«module» ≡ position → end ≡ (piece_at link (get_or found.list.items number d).piece).number → candidate_at index.sections found.numbers.items position end ≡ Some number
      found_root found number d gathered lt here same =
          let k = (get_or found.list.items number d).piece in
          let root = root_is found.list.items number d gathered.pieces lt in
          let there : slice_get (candidate_pieces link kept) number ≡ Some k =
          ap (λ (xs : List ℕ). slice_get xs number) (sym gathered.pieces)
          ∙ slice_get-get_or (map (λ candidate. candidate.piece) found.list.items) number 0 (omega (arith, lt, length-map found.list.items (λ candidate. candidate.piece)))
          ∙ ap Some (get_or-map (λ candidate. candidate.piece) found.list.items number d 0 lt) in
          let at : indexed index.sections position end ≡ Some k =
          is.sections position end ∙ ap (λ (m : ℕ). piece_index link m end) (sym here) ∙ ap (piece_index link (piece_at link k).«module») same ∙ index_of link k root.within root.section in
          ap (option_and_then (number_at found.numbers.items)) at ∙ gathered.numbers.every k number there

      pub no_root : (found : Candidates) → candidate_at index.sections found.numbers.items position end ≡ None → AreGathered link kept position (section - 1) found → AreGathered link kept position section found
      no_root found none gathered = with_children found (λ k d lt.
          let candidate = get_or found.list.items k d in
          kept_same candidate (gathered.children k d lt) (λ here.
          child_given (piece_at link candidate.piece).number
          ∙ ap (λ (b : Bool). cond b child_here None) (ne_eqb end (piece_at link candidate.piece).number (λ same. none_some (candidate_at index.sections found.numbers.items position end) k none (found_root found k d gathered lt here same))))) gathered

      -- what is found is the candidate at the end of the chain
      root_at : (found : Candidates) (number : ℕ) → AreGathered link kept position (section - 1) found → candidate_at index.sections found.numbers.items position end ≡ Some number → (root : ℕ) × ((indexed index.sections position end ≡ Some root) × (slice_get (candidate_pieces link kept) number ≡ Some root))
      root_at found number gathered e = go (indexed index.sections position end) refl e
        where
          go : (at : Option ℕ) → indexed index.sections position end ≡ at → option_and_then (number_at found.numbers.items) at ≡ Some number → (root : ℕ) × ((indexed index.sections position end ≡ Some root) × (slice_get (candidate_pieces link kept) number ≡ Some root))
          go None at e = let none : Option ℕ = None in absurd (none_some none number refl e)
          go (Some root) at e = (root, (at, gathered.numbers.right root number e))

      pub root_within : (found : Candidates) (number : ℕ) → AreGathered link kept position (section - 1) found → candidate_at index.sections found.numbers.items position end ≡ Some number → number < length found.list.items
      root_within found number gathered e =
          let root = root_at found number gathered e in
          let lt = slice_get_within (candidate_pieces link kept) number root.0 root.1.1 in
          omega (arith, lt, ap length gathered.pieces, length-map found.list.items (λ candidate. candidate.piece))

      pub one_child : (found : Candidates) (number child : ℕ) (old new : FoldCandidate) (after : Candidates) → candidate_at index.sections found.numbers.items position end ≡ Some number → child_here ≡ Some child
          → old ≡ get_or found.list.items number old → new.piece ≡ old.piece → new.children.items ≡ old.children.items ++ child ∷ []
          → after.list.items ≡ set found.list.items number new → after.numbers.items ≡ found.numbers.items
          → AreGathered link kept position (section - 1) found → AreGathered link kept position section after
      one_child found number child old new after told some old_is same more list numbers gathered = record {
        pieces = ap (map (λ candidate. candidate.piece)) list ∙ pieces_stay found.list.items number old_is ∙ gathered.pieces;
        numbers = subst (AreNumbers (candidate_pieces link kept)) (sym numbers) gathered.numbers;
        children = subst (All New) (sym list) (λ k d lt. elim (cases_eq k number) [
          | inl here ↦
              let read : get_or (set found.list.items number new) k d ≡ new = ap (λ (n : ℕ). get_or (set found.list.items number new) n d) here ∙ get_or-set_same found.list.items number new d within in
              subst New (sym read) (kept_more old new child (subst Old (sym old_is) (gathered.children number old within)) same more in_module (child_given (piece_at link old.piece).number ∙ rw (eq-eqb end (piece_at link old.piece).number end_there) some))
          | inr apart ↦
              let read : get_or (set found.list.items number new) k d ≡ get_or found.list.items k d = get_or-set_other found.list.items number k new d apart in
              let low : k < length found.list.items = omega (arith, lt, length-set found.list.items number new) in
              let candidate = get_or found.list.items k d in
              subst New (sym read) (kept_same candidate (gathered.children k d low) (λ here.
              child_given (piece_at link candidate.piece).number
              ∙ ap (λ (b : Bool). cond b child_here None) (ne_eqb end (piece_at link candidate.piece).number (λ e. apart (same_Some k number (sym (found_root found k d gathered low here e) ∙ told))))))
        ]);
      }
        where
          root : (root : ℕ) × ((indexed index.sections position end ≡ Some root) × (slice_get (candidate_pieces link kept) number ≡ Some root))
          root = root_at found number gathered told

          within : number < length found.list.items
          within = root_within found number gathered told

          root_is_old : root.0 ≡ old.piece
          root_is_old =
              same_Some root.0 old.piece
              (sym root.1.1
              ∙ ap (λ (xs : List ℕ). slice_get xs number) (sym gathered.pieces)
              ∙ slice_get-get_or (map (λ candidate. candidate.piece) found.list.items) number 0 (omega (arith, within, length-map found.list.items (λ candidate. candidate.piece)))
              ∙ ap Some (get_or-map (λ candidate. candidate.piece) found.list.items number old 0 within)
              ∙ ap (λ (candidate : FoldCandidate). Some candidate.piece) (sym old_is))

          piece_there : piece_at link old.piece ≡ piece_of position (module_at link.modules position).bytes end
          piece_there = ap (piece_at link) (sym root_is_old) ∙ (found_piece link position end root.0 (sym (is.sections position end) ∙ root.1.0)).is

          in_module : (piece_at link old.piece).«module» ≡ position
          in_module = ap (λ (piece : Piece). piece.«module») piece_there

          end_there : end ≡ (piece_at link old.piece).number
          end_there = sym (ap (λ (piece : Piece). piece.number) piece_there)

          pieces_stay : (list : List FoldCandidate) (number : ℕ) → old ≡ get_or list number old → map (λ candidate. candidate.piece) (set list number new) ≡ map (λ candidate. candidate.piece) list
          pieces_stay [] number old_is = refl
          pieces_stay (candidate ∷ list) zero old_is = λ i. (same ∙ ap (λ (c : FoldCandidate). c.piece) old_is) i ∷ map (λ candidate. candidate.piece) list
          pieces_stay (candidate ∷ list) (suc number) old_is = λ i. candidate.piece ∷ pieces_stay list number old_is i
