-- No two pieces of a link are one section of a module.
use Rattle.std.proofs.Common.{◌≡◌, ℕ, zero, suc, ◌+◌, ◌<◌, Bool, true, false, cond, eqb, ltb, List, [], ◌∷◌, ◌++◌, length, map, filter, Some, refl, sym, ◌∙◌, eq-eqb, arith}
use Rattle.std.specs.List.{All, AllPairs, range_with_len, flat_map}
use Rattle.std.proofs.lemmas.Bool.{and_parts, eqb-true, ltb-true}
use Rattle.std.proofs.lemmas.List.Elements.{All-nil, All-cons, All-weaker, All-append}
use Rattle.std.proofs.lemmas.List.Kept.{AllPairs-cons}
use Rattle.link_base.proofs.CallerLemmas.{first_below-found, first_below-all_fail}
use Rattle.link_base.proofs.RangeLemmas.{all_kept, all_joined}
use Rattle.coff_records.specs.ObjectFile.{section_total}
use Rattle.section_group.specs.declared.piece.Piece.{Piece}
use Rattle.section_group.specs.SectionOrder.{no_piece}
use Rattle.module_view.specs.Module.{module_at}
use Rattle.module_view.specs.declared.definition.Common.{Common}
use Rattle.link_pieces.specs.LinkParts.{LinkParts}
use Rattle.link_pieces.specs.Commons.{FIRST_COMMON, meant_commons, common_piece}
use Rattle.link_pieces.specs.Pieces.{is_linked, linked_sections, piece_of, pieces_in, module_pieces, link_pieces}
use Rattle.link_pieces.specs.LinkerPieces.{linker_pieces, IsLinkerPiece}
use Rattle.link_pieces.specs.PieceIndex.{is_section, is_numbered, is_section_of, holds, piece_index}
use Rattle.link_pieces.proofs.LinkerLemmas.{linker_pieces_are}
use Rattle.link_fields.specs.Fixes.{piece_at}

-- ---- pieces that are no two of one section

-- both are one section of a module
pub record AreOneSection (count : ℕ) (left right : Piece) : Type 0 where
  pub left_is : is_section count left ≡ true
  pub right_is : is_section count right ≡ true
  pub modules : left.«module» ≡ right.«module»
  pub numbers : left.number ≡ right.number

-- they are not
abbrev pub AreApart : ℕ → Piece → Piece → Type 0
AreApart count left right = AreOneSection count left right → ⊥

-- a piece is no section of a module
abbrev IsNone : ℕ → Piece → Type 0
IsNone count piece = is_section count piece ≡ true → ⊥

-- lists one after the other
joined : {X : Type 0} (R : X → X → Type 0) (xs ys : List X) → AllPairs R xs → AllPairs R ys → All (λ x. All (R x) ys) xs → AllPairs R (xs ++ ys)
joined R [] ys first second across = second
joined R (x ∷ xs) ys first second across =
    AllPairs-cons R x (xs ++ ys)
    (All-append (R x) xs ys (λ k d lt. first 0 (suc k) d (omega arith) (omega (arith, lt))) (across 0 x (omega arith)))
    (joined R xs ys (λ i j d before lt. first (suc i) (suc j) d (omega (arith, before)) (omega (arith, lt))) second (λ k d lt. across (suc k) d (omega (arith, lt))))

module _ (count : ℕ) where
  no_sections : (pieces : List Piece) → All (IsNone count) pieces → AllPairs (AreApart count) pieces
  no_sections pieces none i j d before lt same = none j d lt same.right_is

  none_across : (pieces later : List Piece) → All (IsNone count) later → All (λ piece. All (AreApart count piece) later) pieces
  none_across pieces later none k d lt j e within same = none j e within same.right_is

  of_module : (position : ℕ) (bytes : List ℕ) (test : ℕ → Bool) (a n : ℕ) → AllPairs (AreApart count) (map (piece_of position bytes) (filter test (range_with_len a n)))
  of_module position bytes test a zero = λ i j d before lt. absurd (omega (arith, lt))
  of_module position bytes test a (suc n) = go (test a) (of_module position bytes test (a + 1) n)
    where
      later : All (AreApart count (piece_of position bytes a)) (map (piece_of position bytes) (filter test (range_with_len (a + 1) n)))
      later = all_kept (AreApart count (piece_of position bytes a)) (piece_of position bytes) test (a + 1) n (λ k low high passes same. omega (arith, low, same.numbers))

      go : (b : Bool) → AllPairs (AreApart count) (map (piece_of position bytes) (filter test (range_with_len (a + 1) n))) → AllPairs (AreApart count) (map (piece_of position bytes) (cond b (a ∷ filter test (range_with_len (a + 1) n)) (filter test (range_with_len (a + 1) n))))
      go true rest = AllPairs-cons (AreApart count) (piece_of position bytes a) (map (piece_of position bytes) (filter test (range_with_len (a + 1) n))) later rest
      go false rest = rest

module _ (link : LinkParts) where
  common_none : (position : ℕ) (commons : List Common) → All (IsNone (length link.modules)) (map (common_piece link.modules position) commons)
  common_none position [] = All-nil (IsNone (length link.modules))
  common_none position (common ∷ commons) =
      All-cons (IsNone (length link.modules)) (common_piece link.modules position common) (map (common_piece link.modules position) commons)
      (λ is.
      let parts = and_parts (ltb position (length link.modules)) (ltb (FIRST_COMMON + common.symbol) FIRST_COMMON) is in
      let lt = ltb-true (FIRST_COMMON + common.symbol) FIRST_COMMON parts.1 in
      absurd (omega (arith, lt)))
      (common_none position commons)

  linker_none : All (IsNone (length link.modules)) (linker_pieces link)
  linker_none =
      All-weaker (IsLinkerPiece link) (IsNone (length link.modules)) (λ piece is of.
      let parts = and_parts (ltb piece.«module» (length link.modules)) (ltb piece.number FIRST_COMMON) of in
      let lt = ltb-true piece.«module» (length link.modules) parts.0 in
      absurd (omega (arith, lt, is.of_linker)))
      (linker_pieces link) (linker_pieces_are link)

  in_module : (m : ℕ) → AllPairs (AreApart (length link.modules)) (pieces_in link m (module_at link.modules m).bytes)
  in_module m =
      let bytes = (module_at link.modules m).bytes in
      let sections = map (piece_of m bytes) (linked_sections link m bytes) in
      let commons = map (common_piece link.modules m) (meant_commons link m bytes) in
      joined (AreApart (length link.modules)) sections commons
      (of_module (length link.modules) m bytes (is_linked link m bytes) 1 (section_total bytes))
      (no_sections (length link.modules) commons (common_none m (meant_commons link m bytes)))
      (none_across (length link.modules) sections commons (common_none m (meant_commons link m bytes)))

  common_modules : (position : ℕ) (commons : List Common) → All (λ piece. piece.«module» ≡ position) (map (common_piece link.modules position) commons)
  common_modules position [] = All-nil (λ piece. piece.«module» ≡ position)
  common_modules position (common ∷ commons) =
      All-cons (λ piece. piece.«module» ≡ position) (common_piece link.modules position common) (map (common_piece link.modules position) commons) refl (common_modules position commons)

  modules_are : (m : ℕ) → All (λ piece. piece.«module» ≡ m) (pieces_in link m (module_at link.modules m).bytes)
  modules_are m =
      let bytes = (module_at link.modules m).bytes in
      All-append (λ piece. piece.«module» ≡ m) (map (piece_of m bytes) (linked_sections link m bytes)) (map (common_piece link.modules m) (meant_commons link m bytes))
      (all_kept (λ piece. piece.«module» ≡ m) (piece_of m bytes) (is_linked link m bytes) 1 (section_total bytes) (λ k low high passes. refl))
      (common_modules m (meant_commons link m bytes))

  abbrev pieces_at : ℕ → List Piece
  pieces_at m = pieces_in link m (module_at link.modules m).bytes

  modules_apart : (a n : ℕ) → AllPairs (AreApart (length link.modules)) (flat_map pieces_at (range_with_len a n))
  modules_apart a zero = λ i j d before lt. absurd (omega (arith, lt))
  modules_apart a (suc n) =
      let first = pieces_at a in
      let rest = flat_map pieces_at (range_with_len (a + 1) n) in
      let above : All (λ piece. a < piece.«module») rest =
      all_joined (λ piece. a < piece.«module») pieces_at (a + 1) n (λ k low high.
      All-weaker (λ piece. piece.«module» ≡ k) (λ piece. a < piece.«module») (λ piece is. omega (arith, is, low)) (pieces_at k) (modules_are k)) in
      joined (AreApart (length link.modules)) first rest (in_module a) (modules_apart (a + 1) n)
      (λ k d lt j e within same. let one = modules_are a k d lt in let other = above j e within in omega (arith, one, other, same.modules))

  pub pieces_apart : AllPairs (AreApart (length link.modules)) (link_pieces link)
  pieces_apart =
      joined (AreApart (length link.modules)) (module_pieces link) (linker_pieces link)
      (modules_apart 0 (length link.modules))
      (no_sections (length link.modules) (linker_pieces link) linker_none)
      (none_across (length link.modules) (module_pieces link) (linker_pieces link) linker_none)

  -- ---- the piece of a section

  one_of : (position section : ℕ) (left right : Piece) → is_section_of (length link.modules) position section left ≡ true → is_section_of (length link.modules) position section right ≡ true → AreOneSection (length link.modules) left right
  one_of position section left right one other =
      let left_parts = and_parts (is_section (length link.modules) left) (is_numbered position section left) one in
      let right_parts = and_parts (is_section (length link.modules) right) (is_numbered position section right) other in
      let left_place = and_parts (eqb left.«module» position) (eqb left.number section) left_parts.1 in
      let right_place = and_parts (eqb right.«module» position) (eqb right.number section) right_parts.1 in
      record {
        left_is = left_parts.0;
        right_is = right_parts.0;
        modules = eqb-true left.«module» position left_place.0 ∙ sym (eqb-true right.«module» position right_place.0);
        numbers = eqb-true left.number section left_place.1 ∙ sym (eqb-true right.number section right_place.1);
      }

  is_itself : (piece : Piece) → is_section (length link.modules) piece ≡ true → is_section_of (length link.modules) piece.«module» piece.number piece ≡ true
  is_itself piece is = rw (is, eq-eqb piece.«module» piece.«module» refl, eq-eqb piece.number piece.number refl) refl

  -- the index of the section that a piece is leads to the piece
  pub index_of : (k : ℕ) → k < length (link_pieces link) → is_section (length link.modules) (piece_at link k) ≡ true → piece_index link (piece_at link k).«module» (piece_at link k).number ≡ Some k
  index_of k lt is =
      let piece = piece_at link k in
      let test = holds (is_section_of (length link.modules) piece.«module» piece.number) (link_pieces link) in
      first_below-found k (length (link_pieces link)) test lt
      (first_below-all_fail k test (λ j before. fails (test j) refl (λ passes. pieces_apart j k no_piece before lt (one_of piece.«module» piece.number (piece_at link j) piece passes (is_itself piece is)))))
      (is_itself piece is)
    where
      fails : (b : Bool) → b ≡ b → (b ≡ true → ⊥) → b ≡ false
      fails true e none = absurd (none refl)
      fails false e none = refl
