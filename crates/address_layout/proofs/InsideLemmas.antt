-- Where things end: pieces inside their sections, sections inside the image.
use Rattle.std.proofs.Common.{◌≡◌, ℕ, zero, suc, ◌+◌, ◌^◌, ◌<◌, ◌≤◌, Bool, IsTrue, List, [], ◌∷◌, length, get_or, sym, ap, ◌∙◌, inl, inr, arith}
use Rattle.std.specs.List.{Contains}
use Rattle.std.proofs.lemmas.Bool.{cases_lt, true≢false}
use Rattle.std.proofs.lemmas.List.{get_or_default}
use Rattle.std.proofs.lemmas.List.Elements.{Contains-append_cases}
use Rattle.section_group.specs.declared.piece.OutSection.{OutSection}
use Rattle.section_group.specs.declared.piece.Piece.{Piece}
use Rattle.section_group.specs.SectionOrder.{no_piece}
use Rattle.link_base.specs.Limits.{IMAGE_LIMIT}
use Rattle.address_layout.specs.declared.layout.Layout.{Layout}
use Rattle.address_layout.specs.declared.layout.Placed.{Placed}
use Rattle.address_layout.specs.Layout.{all_pieces, placed_at, HoldsArrangement}
use Rattle.address_layout.specs.Places.{row_at, piece_in, piece_end, piece_floor, IsPlacedSection, end_before, IsArrangement}

-- ---- one section

module _ {pieces : List Piece} {row : List ℕ × List ℕ} {before files : ℕ} {placed : Placed} {place : ℕ → ℕ} (is : IsPlacedSection pieces row before files placed place) where
  -- a piece stands at or above the end of the one before it, the first at or above the section's start
  pub places_ascend : (j : ℕ) → j < length row.1 → piece_floor pieces row placed.rva place j ≤ place j
  places_ascend j lt = (is.each j lt).above

  floors_grow : (i j : ℕ) → i ≤ j → j ≤ length row.1 → piece_floor pieces row placed.rva place i ≤ piece_floor pieces row placed.rva place j
  floors_grow i zero le within = let same : i ≡ zero = omega arith in let e = ap (piece_floor pieces row placed.rva place) same in omega (arith, e)
  floors_grow i (suc j) le within =
      elim (cases_lt j i) [
        | inl above ↦ let same : i ≡ suc j = omega arith in let e = ap (piece_floor pieces row placed.rva place) same in omega (arith, e)
        | inr below ↦ omega (arith, floors_grow i j below (omega arith), places_ascend j (omega arith))
      ]

  -- a piece with bytes ends inside its section
  pub piece_end_inside : (j : ℕ) → j < length row.1 → 0 < (piece_in pieces row j).size → piece_end pieces row place j ≤ placed.rva + placed.size
  piece_end_inside j lt some =
      let whole = is.size_of_bytes (j, lt, some) in
      omega (arith, whole, floors_grow (suc j) (length row.1) lt (omega arith))

  -- an initialised piece ends inside the raw data of its section
  pub initialised_end_inside : (j : ℕ) → j < length row.1 → IsTrue (piece_in pieces row j).init → piece_end pieces row place j ≤ placed.rva + placed.raw
  initialised_end_inside j lt init =
      elim (is.is_initialised_end) [
        | inl none ↦ absurd (true≢false (sym init ∙ none.0 j lt))
        | inr last ↦ elim (cases_lt last.0 j) [
          | inl above ↦ absurd (true≢false (sym init ∙ last.3 j above lt))
          | inr below ↦
              omega (arith, floors_grow (suc j) (suc last.0) (omega (arith, below)) last.1, last.4, is.raw.above)
        ]
      ]

-- ---- all sections

ends_grow : (pieces : List Piece) (sections : List OutSection) (reloc : Bool) (headers : ℕ) (placed : ℕ → Placed) (place : ℕ → ℕ → ℕ) (image : ℕ) → IsArrangement pieces sections reloc headers placed place image → (i j : ℕ) → i ≤ j → j ≤ length sections → end_before headers placed i ≤ end_before headers placed j
ends_grow pieces sections reloc headers placed place image is i zero le within = let same : i ≡ zero = omega arith in let e = ap (end_before headers placed) same in omega (arith, e)
ends_grow pieces sections reloc headers placed place image is i (suc j) le within =
    elim (cases_lt j i) [
      | inl above ↦ let same : i ≡ suc j = omega arith in let e = ap (end_before headers placed) same in omega (arith, e)
      | inr below ↦
          let before = ends_grow pieces sections reloc headers placed place image is i j below (omega arith) in
          omega (arith, before, (is.each j (omega arith)).start.above)
    ]

-- each section ends inside the image
pub all_ends_inside : (pieces : List Piece) (sections : List OutSection) (reloc : Bool) (layout : Layout) (i : ℕ) → HoldsArrangement pieces sections reloc layout → i < length sections → (placed_at layout.sections.items i).rva + (placed_at layout.sections.items i).size ≤ layout.image
all_ends_inside pieces sections reloc layout i is lt =
    let placed = placed_at layout.sections.items in
    let up = ends_grow pieces sections reloc layout.headers placed is.place layout.image is.arranged (suc i) (length sections) lt (omega arith) in
    omega (arith, up, is.arranged.of_image.above)

-- ---- where a piece stands

pub record StandsAt (sections : List OutSection) (k : ℕ) : Type 0 where
  pub section : ℕ
  pub there : section < length sections
  pub number : ℕ
  pub within : number < length (row_at sections section).1
  pub is : get_or (row_at sections section).1 number 0 ≡ k

pub stands_at : (sections : List OutSection) (k : ℕ) → Contains (all_pieces sections) k → StandsAt sections k
stands_at [] k there = absurd (omega (arith, there.1))
stands_at (s ∷ ss) k there =
    elim (Contains-append_cases s.pieces.items (all_pieces ss) k there) [
      | inl here ↦ record {
        section = 0;
        there = omega arith;
        number = here.0;
        within = here.1;
        is = get_or_default s.pieces.items here.0 0 k here.1 ∙ here.2;
      }
      | inr later ↦
          let rest = stands_at ss k later in
          record {
            section = suc rest.section;
            there = omega (arith, rest.there);
            number = rest.number;
            within = rest.within;
            is = rest.is;
          }
    ]

-- an RVA inside a piece, or at its end, is one of 32 bits
pub name_fits : (pieces : List Piece) (sections : List OutSection) (reloc : Bool) (layout : Layout) (k value : ℕ) → HoldsArrangement pieces sections reloc layout → layout.image ≤ IMAGE_LIMIT → Contains (all_pieces sections) k → get_or layout.pieces.items k 0 < 2 ^ 32 → value ≤ (get_or pieces k no_piece).size → get_or layout.pieces.items k 0 + value < 2 ^ 32
name_fits pieces sections reloc layout k value is small there fits le =
    elim (cases_lt 0 (get_or pieces k no_piece).size) [
      | inl some ↦
          let at = stands_at sections k there in
          let size : (piece_in pieces (row_at sections at.section) at.number).size ≡ (get_or pieces k no_piece).size = ap (λ (n : ℕ). (get_or pieces n no_piece).size) at.is in
          let place : get_or layout.pieces.items k 0 ≡ is.place at.section at.number = ap (λ (n : ℕ). get_or layout.pieces.items n 0) (sym at.is) ∙ is.written at.section at.number at.there at.within in
          let inside = piece_end_inside (is.arranged.each at.section at.there) at.number at.within (omega (arith, some, size)) in
          let within = all_ends_inside pieces sections reloc layout at.section is at.there in
          omega (arith, size, place, inside, within)
      | inr none ↦ omega (arith, none)
    ]
