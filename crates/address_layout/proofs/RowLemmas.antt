-- Sections with the same names and pieces, in the same order, are laid out alike.
use Rattle.std.proofs.Common.{◌≡◌, ℕ, ◌+◌, ◌*◌, ◌<◌, cond, Bool, List, [], length, get_or, map, sym, ap, ◌∙◌, subst, arith}
use Rattle.std.specs.List.{Contains, flat_map}
use Rattle.std.proofs.lemmas.List.{length-map}
use Rattle.std.proofs.lemmas.List.Folds.{flat_map-map}
use Rattle.std.proofs.lemmas.Simd.{map-map}
use Rattle.section_group.specs.declared.piece.OutSection.{OutSection}
use Rattle.section_group.specs.declared.piece.Piece.{Piece}
use Rattle.section_group.specs.Uniqueness.{SectionRow, row_of, rows_of}
use Rattle.address_layout.specs.declared.layout.Layout.{Layout}
use Rattle.address_layout.specs.declared.layout.Placed.{Placed}
use Rattle.address_layout.specs.Layout.{all_pieces, IsLayout, HasImageSize}
use Rattle.address_layout.specs.Places.{IsLeastMultiple, section_row, row_at, IsPlacedSection, end_before, file_before, IsArrangement}

-- a row without its flags
abbrev named_pieces : SectionRow → List ℕ × List ℕ
named_pieces row = (row.name, row.pieces)

rows_named : (sections : List OutSection) → map named_pieces (rows_of sections) ≡ map section_row sections
rows_named sections = map-map named_pieces row_of sections

rows_pieces : (sections : List OutSection) → flat_map (λ (row : SectionRow). row.pieces) (rows_of sections) ≡ all_pieces sections
rows_pieces sections = flat_map-map (λ (row : SectionRow). row.pieces) row_of sections

module _ (sections others : List OutSection) (same : rows_of sections ≡ rows_of others) where
  same_count : length sections ≡ length others
  same_count = sym (length-map sections row_of) ∙ ap length same ∙ length-map others row_of

  same_row : (i : ℕ) → row_at sections i ≡ row_at others i
  same_row i =
      ap (λ (rows : List (List ℕ × List ℕ)). get_or rows i ([], [])) (sym (rows_named sections) ∙ ap (map named_pieces) same ∙ rows_named others)

  same_pieces : all_pieces sections ≡ all_pieces others
  same_pieces = sym (rows_pieces sections) ∙ ap (flat_map (λ (row : SectionRow). row.pieces)) same ∙ rows_pieces others

  arrangement_same_rows : (pieces : List Piece) (reloc : Bool) (headers : ℕ) (placed : ℕ → Placed) (place : ℕ → ℕ → ℕ) (image : ℕ) → IsArrangement pieces sections reloc headers placed place image → IsArrangement pieces others reloc headers placed place image
  arrangement_same_rows pieces reloc headers placed place image is = record {
    of_headers = subst (λ (count : ℕ). IsLeastMultiple 512 (328 + 40 * (count + cond reloc 1 0)) headers) same_count is.of_headers;
    each = λ i lt.
        subst (λ (row : List ℕ × List ℕ). IsPlacedSection pieces row (end_before headers placed i) (file_before headers placed i) (placed i) (place i)) (same_row i)
        (is.each i (omega (arith, same_count)));
    of_image = subst (λ (count : ℕ). IsLeastMultiple 4096 (end_before headers placed count) image) same_count is.of_image;
  }

-- sections with the same rows have one layout
pub layout_same_rows : (pieces : List Piece) (sections others : List OutSection) (reloc : Bool) (layout : Layout) → rows_of sections ≡ rows_of others → IsLayout pieces sections reloc layout → IsLayout pieces others reloc layout
layout_same_rows pieces sections others reloc layout same is = record {
  standing = let held = is.standing in record {
    place = held.place;
    arranged = arrangement_same_rows sections others same pieces reloc layout.headers _ held.place layout.image held.arranged;
    section_for_each = held.section_for_each ∙ same_count sections others same;
    rva_for_each = held.rva_for_each;
    written = λ i j lt.
        subst (λ (row : List ℕ × List ℕ). j < length row.1 → get_or layout.pieces.items (get_or row.1 j 0) 0 ≡ held.place i j) (same_row sections others same i)
        (held.written i j (omega (arith, same_count sections others same)));
  };
  unplaced = λ k apart.
      is.unplaced k (λ there. apart (subst (λ (indexes : List ℕ). Contains indexes k) (same_pieces sections others same) there));
}

-- and images of one size
pub size_same_rows : (pieces : List Piece) (sections others : List OutSection) (reloc : Bool) (size : ℕ) → rows_of sections ≡ rows_of others → HasImageSize pieces sections reloc size → HasImageSize pieces others reloc size
size_same_rows pieces sections others reloc size same is = record {
  headers = is.headers;
  placed = is.placed;
  place = is.place;
  arranged = arrangement_same_rows sections others same pieces reloc is.headers is.placed is.place size is.arranged;
}
