-- What is placed is a layout, or shows the size of an image that is too large.
use Rattle.std.proofs.Common.{◌≡◌, ℕ, ◌+◌, ◌*◌, ◌<◌, ◌≤◌, Bool, List, [], ◌∷◌, length, get_or, take, refl, sym, ap, ◌∙◌, subst, arith, length-append}
use Rattle.std.specs.List.{All, Contains}
use Rattle.std.proofs.lemmas.List.{take_all}
use Rattle.std.proofs.lemmas.List.Elements.{All-head, All-tail}
use Rattle.std.proofs.lemmas.List.FromFn.{get_or-map-range_with_len, length-map-range_with_len}
use Rattle.section_group.specs.declared.piece.Piece.{Piece}
use Rattle.section_group.specs.declared.piece.OutSection.{OutSection}
use Rattle.address_layout.specs.declared.layout.Placed.{Placed}
use Rattle.address_layout.specs.declared.layout.Layout.{Layout}
use Rattle.address_layout.specs.Places.{row_at, section_count, end_before, file_before, IsArrangement}
use Rattle.address_layout.specs.Growth.{CanGrow}
use Rattle.address_layout.specs.Layout.{all_pieces, placed_at, IsAlignment, StandOnce, IsLayout, HasImageSize}
use Rattle.address_layout.specs.Rounded.{rounded, place_of, start_of, saturated_placed, placed_of, AreSections}
use Rattle.address_layout.proofs.ArrangementLemmas.{whole_arrangement, fits, file_fits}

-- there are no more sections than pieces that stand
pub sections_few : (sections : List OutSection) → All (λ section. 0 < length section.pieces.items) sections → length sections ≤ length (all_pieces sections)
sections_few [] some = omega arith
sections_few (s ∷ ss) some =
    let here = All-head (λ (section : OutSection). 0 < length section.pieces.items) s ss some in
    let rest = sections_few ss (All-tail (λ (section : OutSection). 0 < length section.pieces.items) s ss some) in
    omega (arith, here, rest, length-append s.pieces.items (all_pieces ss))

pub size_is : (pieces : List Piece) (sections : List OutSection) (reloc : Bool) (headers end file : ℕ) (placed : List Placed) (rvas : List ℕ) (image : ℕ) → All (λ piece. IsAlignment piece.align) pieces → StandOnce pieces sections → headers ≡ rounded 512 (328 + 40 * section_count sections reloc) → AreSections pieces sections headers (length sections) end file placed rvas → image ≡ rounded 4096 end → HasImageSize pieces sections reloc image
size_is pieces sections reloc headers end file placed rvas image aligned standing is_headers are is_image = record {
  headers = headers;
  placed = placed_of pieces sections headers;
  place = λ i j. place_of pieces (row_at sections i) (start_of pieces sections headers i) j;
  arranged = subst (IsArrangement pieces sections reloc headers (placed_of pieces sections headers) (λ i j. place_of pieces (row_at sections i) (start_of pieces sections headers i) j)) (sym (is_image ∙ ap (rounded 4096) are.is_end)) (whole_arrangement pieces sections reloc headers (placed_of pieces sections headers) aligned standing is_headers (λ i lt. refl));
}

pub layout_is : (pieces : List Piece) (sections : List OutSection) (reloc : Bool) (headers end file : ℕ) (placed : List Placed) (rvas : List ℕ) (layout : Layout) → All (λ piece. IsAlignment piece.align) pieces → StandOnce pieces sections → length sections ≤ 96 → headers ≡ rounded 512 (328 + 40 * section_count sections reloc) → AreSections pieces sections headers (length sections) end file placed rvas → layout.headers ≡ headers → layout.sections.items ≡ placed → layout.pieces.items ≡ rvas → layout.image ≡ rounded 4096 end → layout.image ≤ 536870912 → IsLayout pieces sections reloc layout
layout_is pieces sections reloc headers end file placed rvas layout aligned standing few is_headers are same_headers same_sections same_pieces is_image small =
    let image = is_image ∙ ap (rounded 4096) are.is_end in
    let fit = fits pieces sections headers aligned standing few (subst (λ (n : ℕ). n ≤ 536870912) image small) in
    let f = λ (i : ℕ). saturated_placed (placed_of pieces sections headers i) in
    let n = length sections in
    let agree = λ (i : ℕ) (lt : i < n).
    ap (λ (ps : List Placed). get_or ps i (record { rva = 0; size = 0; raw = 0; file = 0 })) (same_sections ∙ are.is_placed)
    ∙ get_or-map-range_with_len f 0 n i i (record { rva = 0; size = 0; raw = 0; file = 0 }) lt (omega arith) ∙ fit.placed i lt
    in
    let arranged = whole_arrangement pieces sections reloc headers (placed_at layout.sections.items) aligned standing is_headers agree in
    record {
      standing = record {
        place = λ i j. place_of pieces (row_at sections i) (start_of pieces sections headers i) j;
        arranged =
            subst (λ (h : ℕ). IsArrangement pieces sections reloc h (placed_at layout.sections.items) (λ i j. place_of pieces (row_at sections i) (start_of pieces sections headers i) j) layout.image) (sym same_headers)
            (subst (IsArrangement pieces sections reloc headers (placed_at layout.sections.items) (λ i j. place_of pieces (row_at sections i) (start_of pieces sections headers i) j)) (sym image) arranged);
        section_for_each = ap length (same_sections ∙ are.is_placed) ∙ length-map-range_with_len f 0 n;
        rva_for_each = ap length same_pieces ∙ are.room;
        written = λ i j lt below. ap (λ (rs : List ℕ). get_or rs (get_or (row_at sections i).1 j 0) 0) same_pieces ∙ are.written i j lt below ∙ fit.place i j lt below;
      };
      unplaced = λ k apart.
          let whole_list : take n sections ≡ sections = take_all n sections (omega arith) in
          ap (λ (rs : List ℕ). get_or rs k 0) same_pieces ∙ are.unplaced k (λ there. apart (subst (λ (ss : List OutSection). Contains (all_pieces ss) k) whole_list there));
    }

-- the section of base relocations can follow
pub can_grow : (pieces : List Piece) (sections : List OutSection) (reloc : Bool) (headers end file : ℕ) (placed : List Placed) (rvas : List ℕ) (layout : Layout) → All (λ piece. IsAlignment piece.align) pieces → StandOnce pieces sections → length sections ≤ 96 → headers ≡ rounded 512 (328 + 40 * section_count sections reloc) → AreSections pieces sections headers (length sections) end file placed rvas → layout.headers ≡ headers → layout.sections.items ≡ placed → layout.pieces.items ≡ rvas → layout.image ≡ rounded 4096 end → layout.image ≤ 536870912 → CanGrow layout
can_grow pieces sections reloc headers end file placed rvas layout aligned standing few is_headers are same_headers same_sections same_pieces is_image small =
    let made = layout_is pieces sections reloc headers end file placed rvas layout aligned standing few is_headers are same_headers same_sections same_pieces is_image small in
    let image = is_image ∙ ap (rounded 4096) are.is_end in
    let fit = fits pieces sections headers aligned standing few (subst (λ (n : ℕ). n ≤ 536870912) image small) in
    let n = length sections in
    let agree = λ (i : ℕ) (lt : i < n).
    ap (λ (ps : List Placed). get_or ps i (record { rva = 0; size = 0; raw = 0; file = 0 })) (same_sections ∙ are.is_placed)
    ∙ get_or-map-range_with_len (λ k. saturated_placed (placed_of pieces sections headers k)) 0 n i i (record { rva = 0; size = 0; raw = 0; file = 0 }) lt (omega arith) ∙ fit.placed i lt
    in
    let file_end = file_fits pieces sections headers (placed_at layout.sections.items) aligned standing few (subst (λ (n : ℕ). n ≤ 536870912) image small) agree in
    record {
      small = small;
      within = subst (λ (k : ℕ). end_before layout.headers (placed_at layout.sections.items) k ≤ layout.image) (sym made.standing.section_for_each) made.standing.arranged.of_image.above;
      file = subst (λ (k : ℕ). file_before layout.headers (placed_at layout.sections.items) k < 4294967296) (sym made.standing.section_for_each) (subst (λ (h : ℕ). file_before h (placed_at layout.sections.items) n < 4294967296) (sym same_headers) file_end);
    }
