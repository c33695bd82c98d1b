-- Pieces without their bytes are placed as the same pieces with them.
use Rattle.std.proofs.Common.{◌≡◌, ℕ, zero, suc, ◌+◌, ◌<◌, cond, Bool, List, length, get_or, map, refl, sym, ◌∙◌, subst, inl, inr, arith, codes}
use Rattle.std.proofs.lemmas.List.{length-map}
use Rattle.std.proofs.Math.ListN.{get_or-map}
use Rattle.std.proofs.Math.Path.{fun_ext}
use Rattle.section_group.specs.declared.piece.OutSection.{OutSection}
use Rattle.section_group.specs.declared.piece.Piece.{Piece}
use Rattle.section_group.specs.BarePieces.{bare}
use Rattle.section_group.specs.Merging.{same_name}
use Rattle.section_group.specs.SectionOrder.{no_piece}
use Rattle.address_layout.specs.declared.layout.Layout.{Layout}
use Rattle.address_layout.specs.declared.layout.Placed.{Placed}
use Rattle.address_layout.specs.Layout.{all_pieces, StandOnce, IsLayout, HasImageSize}
use Rattle.address_layout.specs.Places.{IsLeastMultiple, row_at, piece_in, alignment_in, piece_end, piece_floor, IsInitialisedEnd, IsPlacedSection, IsArrangement}

-- ---- one section

module _ (pieces : List Piece) (row : List ℕ × List ℕ) where
  in_bare : piece_in (map bare pieces) row ≡ (λ j. bare (piece_in pieces row j))
  in_bare = fun_ext (λ j. get_or-map bare pieces (get_or row.1 j 0) no_piece)

  same_size : (j : ℕ) → (piece_in (map bare pieces) row j).size ≡ (piece_in pieces row j).size
  same_size j = λ i. (in_bare i j).size

  same_init : (j : ℕ) → (piece_in (map bare pieces) row j).init ≡ (piece_in pieces row j).init
  same_init j = λ i. (in_bare i j).init

  same_alignment : (j : ℕ) → alignment_in (map bare pieces) row j ≡ alignment_in pieces row j
  same_alignment j = λ i. cond (same_name row.0 (codes ".pdata")) 4 (in_bare i j).align

  same_end : (place : ℕ → ℕ) (j : ℕ) → piece_end (map bare pieces) row place j ≡ piece_end pieces row place j
  same_end place j = λ i. place j + (in_bare i j).size

  same_floor : (start : ℕ) (place : ℕ → ℕ) (j : ℕ) → piece_floor (map bare pieces) row start place j ≡ piece_floor pieces row start place j
  same_floor start place zero = refl
  same_floor start place (suc j) = same_end place j

  initialised_bare : (start : ℕ) (place : ℕ → ℕ) (end : ℕ) → IsInitialisedEnd pieces row start place end → IsInitialisedEnd (map bare pieces) row start place end
  initialised_bare start place end (inl none) = inl (λ j lt. same_init j ∙ none.0 j lt, none.1)
  initialised_bare start place end (inr last) =
      inr (
        last.0,
        last.1,
        same_init last.0 ∙ last.2,
        λ j above lt. same_init j ∙ last.3 j above lt,
        last.4 ∙ sym (same_end place last.0),
      )

  section_bare : (before files : ℕ) (placed : Placed) (place : ℕ → ℕ) → IsPlacedSection pieces row before files placed place → IsPlacedSection (map bare pieces) row before files placed place
  section_bare before files placed place is = record {
    start = is.start;
    each = λ j lt.
        subst (λ (step : ℕ). IsLeastMultiple step (piece_floor (map bare pieces) row placed.rva place j) (place j)) (sym (same_alignment j))
        (subst (λ (low : ℕ). IsLeastMultiple (alignment_in pieces row j) low (place j)) (sym (same_floor placed.rva place j)) (is.each j lt));
    size_of_bytes = λ some.
        is.size_of_bytes (some.0, some.1, omega (arith, some.2, same_size some.0)) ∙ sym (same_floor placed.rva place (length row.1));
    size_of_none = λ none. is.size_of_none (λ j lt. sym (same_size j) ∙ none j lt);
    initialised_end = is.initialised_end;
    is_initialised_end = initialised_bare placed.rva place is.initialised_end is.is_initialised_end;
    raw = is.raw;
    file = is.file;
  }

-- ---- all sections

arrangement_bare : (pieces : List Piece) (sections : List OutSection) (reloc : Bool) (headers : ℕ) (placed : ℕ → Placed) (place : ℕ → ℕ → ℕ) (image : ℕ) → IsArrangement pieces sections reloc headers placed place image → IsArrangement (map bare pieces) sections reloc headers placed place image
arrangement_bare pieces sections reloc headers placed place image is = record {
  of_headers = is.of_headers;
  each = λ i lt. section_bare pieces (row_at sections i) _ _ (placed i) (place i) (is.each i lt);
  of_image = is.of_image;
}

-- the layout of some pieces is that of the same pieces without their bytes
pub layout_bare : (pieces : List Piece) (sections : List OutSection) (reloc : Bool) (layout : Layout) → IsLayout pieces sections reloc layout → IsLayout (map bare pieces) sections reloc layout
layout_bare pieces sections reloc layout is =
    let held = is.standing in
    record {
      standing = record {
        place = held.place;
        arranged = arrangement_bare pieces sections reloc layout.headers _ held.place layout.image held.arranged;
        section_for_each = held.section_for_each;
        rva_for_each = held.rva_for_each ∙ sym (length-map pieces bare);
        written = held.written;
      };
      unplaced = is.unplaced;
    }

-- and so is the size of their image
pub size_bare : (pieces : List Piece) (sections : List OutSection) (reloc : Bool) (size : ℕ) → HasImageSize pieces sections reloc size → HasImageSize (map bare pieces) sections reloc size
size_bare pieces sections reloc size is = record {
  headers = is.headers;
  placed = is.placed;
  place = is.place;
  arranged = arrangement_bare pieces sections reloc is.headers is.placed is.place size is.arranged;
}

-- where pieces stand once, they do so without their bytes
pub stand_bare : (pieces : List Piece) (sections : List OutSection) → StandOnce pieces sections → StandOnce (map bare pieces) sections
stand_bare pieces sections standing = record {
  some = standing.some;
  within = λ i d lt. subst (λ (count : ℕ). get_or (all_pieces sections) i d < count) (sym (length-map pieces bare)) (standing.within i d lt);
  once = standing.once;
}
