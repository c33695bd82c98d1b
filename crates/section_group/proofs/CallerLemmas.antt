-- What callers may cite: a grouping of pieces is one of the same pieces without their bytes.
use Rattle.std.proofs.Common.{◌≡◌, ℕ, Bool, ◌&&◌, ◌||◌, not, cond, eqb, ltb, List, [], length, get_or, map, unwrap_or, codes, bit_and, bit_or, false, sym, ap, ◌∙◌}
use Rattle.std.specs.List.{list_any}
use Rattle.std.specs.Ordering.{nat_cmp, bool_cmp, then_cmp, ordering_then, on, is_lt}
use Rattle.std.specs.declared.cmp.Ordering.{Ordering}
use Rattle.std.specs.Cmp.Lexicographic.{slice_cmp}
use Rattle.std.proofs.lemmas.List.{length-map}
use Rattle.std.proofs.Math.ListN.{get_or-map}
use Rattle.std.proofs.Math.Path.{fun_ext}
use Rattle.link_base.specs.Bytes.{all_below, first_below}
use Rattle.link_base.specs.PeFormat.{SCN_CNT_CODE, SCN_CNT_INITIALIZED_DATA, SCN_CNT_UNINITIALIZED_DATA, SCN_MEM_ATTRIBUTES}
use Rattle.section_group.specs.declared.piece.OutSection.{OutSection}
use Rattle.section_group.specs.declared.piece.Piece.{Piece}
use Rattle.section_group.specs.BarePieces.{bare}
use Rattle.section_group.specs.Merging.{same_name, final_name}
use Rattle.section_group.specs.Placement.{is_owner, first_owner, follows_owner, deciding_piece, section_attributes, goes_to, needs_place, has_initialised, content_flags, IsSection, IsGrouping}
use Rattle.section_group.specs.SectionOrder.{Input, no_piece, piece_at, is_used, base_name, suffix, section_name, is_merged, merged_name, place_cmp, inside_cmp, rank_of, IsFirstPiece, ComesBefore}
use Rattle.section_group.specs.SectionOrder.{input_from}

module _ (pieces : List Piece) (used : List Bool) (merges : List (List ℕ × List ℕ)) where
  abbrev whole : Input
  whole = input_from pieces used merges

  abbrev stripped : Input
  stripped = input_from (map bare pieces) used merges

  -- ---- each word of the input says the same of both

  same_count : length (map bare pieces) ≡ length pieces
  same_count = length-map pieces bare

  at_bare : piece_at stripped ≡ (λ k. bare (piece_at whole k))
  at_bare = fun_ext (λ k. get_or-map bare pieces k no_piece)

  same_used : is_used stripped ≡ is_used whole
  same_used = λ i. λ k. ltb k (same_count i) && get_or used k false

  same_section_name : section_name stripped ≡ section_name whole
  same_section_name = λ i. λ k. final_name merges (base_name (at_bare i k).name)

  same_merged : is_merged stripped ≡ is_merged whole
  same_merged = λ i. λ k. not (same_name (base_name (at_bare i k).name) (same_section_name i k))

  same_place_cmp : place_cmp stripped ≡ place_cmp whole
  same_place_cmp = λ i.
      then_cmp (on (λ k. (at_bare i k).module) nat_cmp) (then_cmp (on (λ k. (at_bare i k).number) nat_cmp) nat_cmp)

  same_merged_name : merged_name stripped ≡ merged_name whole
  same_merged_name = λ i. λ k. cond (same_merged i k) (base_name (at_bare i k).name) []

  same_inside_cmp : inside_cmp stripped ≡ inside_cmp whole
  same_inside_cmp = λ i.
      then_cmp (on (λ k. not (at_bare i k).init) bool_cmp)
      (then_cmp (on (same_merged i) bool_cmp)
      (then_cmp (on (same_merged_name i) (slice_cmp nat_cmp))
      (then_cmp (on (λ k. suffix (at_bare i k).name) (slice_cmp nat_cmp)) (same_place_cmp i))))

  same_owner : is_owner stripped ≡ is_owner whole
  same_owner = λ i. λ name k. same_used i k && same_name (base_name (at_bare i k).name) name

  same_first_owner : first_owner stripped ≡ first_owner whole
  unfolding first_owner
  same_first_owner = λ i. λ name.
      first_below (same_count i) (λ k.
      same_owner i name k && all_below (same_count i) (λ j. not (same_owner i name j && is_lt (same_place_cmp i j k))))

  same_follows : follows_owner stripped ≡ follows_owner whole
  same_follows = λ i. λ k. same_merged i k || same_name (same_section_name i k) (codes ".pdata")

  same_deciding : deciding_piece stripped ≡ deciding_piece whole
  same_deciding = λ i. λ k.
      cond (same_follows i k) (unwrap_or (same_first_owner i (same_section_name i k)) k) k

  same_attributes : section_attributes stripped ≡ section_attributes whole
  unfolding section_attributes
  same_attributes = λ i. λ k. bit_and (at_bare i (same_deciding i k)).flags SCN_MEM_ATTRIBUTES

  same_goes : goes_to stripped ≡ goes_to whole
  same_goes = λ i. λ name attributes k.
      same_used i k && (same_name (same_section_name i k) name && eqb (same_attributes i k) attributes)

  same_needs : needs_place stripped ≡ needs_place whole
  same_needs = λ i. λ k. ltb 0 (at_bare i k).size || (at_bare i k).named

  same_initialised : has_initialised stripped ≡ has_initialised whole
  same_initialised = λ i. λ flag indexes. list_any (λ k. (at_bare i k).init && not (eqb (bit_and (at_bare i k).flags flag) 0)) indexes

  same_content : content_flags stripped ≡ content_flags whole
  same_content = λ i. λ indexes.
      cond (list_any (λ k. (at_bare i k).init) indexes)
      (bit_or (cond (same_initialised i SCN_CNT_CODE indexes) SCN_CNT_CODE 0) (cond (same_initialised i SCN_CNT_INITIALIZED_DATA indexes) SCN_CNT_INITIALIZED_DATA 0))
      SCN_CNT_UNINITIALIZED_DATA

  -- ---- so each record of facts holds of both

  first_bare : (indexes : List ℕ) (first : ℕ) → IsFirstPiece whole indexes first → IsFirstPiece stripped indexes first
  first_bare indexes first is = record {
    among = is.among;
    before = λ k there. ap (λ (cmp : ℕ → ℕ → Ordering). is_lt (cmp k first)) same_place_cmp ∙ is.before k there;
  }

  before_bare : (section other : OutSection) → ComesBefore whole section other → ComesBefore stripped section other
  before_bare section other comes = record {
    first = comes.first;
    other_first = comes.other_first;
    is_first = first_bare section.pieces.items comes.first comes.is_first;
    is_other_first = first_bare other.pieces.items comes.other_first comes.is_other_first;
    before =
        ap (λ (cmp : ℕ → ℕ → Ordering). is_lt (ordering_then (nat_cmp (rank_of section.name) (rank_of other.name)) (cmp comes.first comes.other_first))) same_place_cmp
        ∙ comes.before;
  }

  section_bare : (section : OutSection) → IsSection whole section → IsSection stripped section
  section_bare section is = record {
    attributes = is.attributes;
    members = λ k. (
      λ there. goes k ∙ (is.members k).0 there,
      λ going. (is.members k).1 (sym (goes k) ∙ going),
    );
    ascending = λ i j d lt within. ap (λ (cmp : ℕ → ℕ → Ordering). is_lt (cmp (get_or section.pieces.items i d) (get_or section.pieces.items j d))) same_inside_cmp ∙ is.ascending i j d lt within;
    needed = let n = is.needed in (n.0, n.1, n.2, n.3, needs n.1 ∙ n.4);
    flags = is.flags ∙ ap (λ (content : List ℕ → ℕ). bit_or is.attributes (content section.pieces.items)) (sym same_content);
  }
    where
      goes : (k : ℕ) → goes_to stripped section.name is.attributes k ≡ goes_to whole section.name is.attributes k
      goes k = ap (λ (to : List ℕ → ℕ → ℕ → Bool). to section.name is.attributes k) same_goes

      needs : (k : ℕ) → needs_place stripped k ≡ needs_place whole k
      needs k = ap (λ (test : ℕ → Bool). test k) same_needs

-- pieces are put into the same sections whatever their bytes are
pub grouping_bare : (pieces : List Piece) (used : List Bool) (merges : List (List ℕ × List ℕ)) (sections : List OutSection) → IsGrouping (input_from pieces used merges) sections → IsGrouping (input_from (map bare pieces) used merges) sections
grouping_bare pieces used merges sections grouped = record {
  each = λ i d lt. section_bare pieces used merges (get_or sections i d) (grouped.each i d lt);
  complete = λ k is_in needs.
      grouped.complete k
      (ap (λ (test : ℕ → Bool). test k) (sym (same_used pieces used merges)) ∙ is_in)
      (ap (λ (test : ℕ → Bool). test k) (sym (same_needs pieces used merges)) ∙ needs);
  ascending = λ i j d lt within. before_bare pieces used merges (get_or sections i d) (get_or sections j d) (grouped.ascending i j d lt within);
}
