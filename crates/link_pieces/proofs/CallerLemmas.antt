-- What callers may cite of the pieces of a link: what each is, and the one that a section, a common or a slot is.
use Rattle.std.proofs.Common.{◌≡◌, ℕ, suc, ◌+◌, ◌-◌, ◌<◌, ◌≤◌, Bool, true, false, eqb, ltb, List, [], ◌∷◌, length, map, filter, get_or, Option, Some, None, inl, inr, refl, sym, ap, subst, ◌∙◌, eq-eqb, arith}
use Rattle.std.proofs.Math.Bool.{and-false}
use Rattle.std.specs.List.{All, Contains, list_any}
use Rattle.std.proofs.lemmas.Bool.{cases_lt, false≢true, eqb-true, ltb-true, lt-ltb, le-ltb, and_parts, ne_eqb}
use Rattle.std.proofs.lemmas.List.{get_or_append_left, get_or-append_right, length-append}
use Rattle.std.proofs.lemmas.List.Elements.{All-map, All-weaker, All-append, All-contains_itself, All-filter}
use Rattle.std.proofs.Math.ListN.{get_or-map}
use Rattle.link_base.proofs.CallerLemmas.{first_below-none, first_below-some}
use Rattle.link_base.proofs.RangeLemmas.{all_kept, all_joined}
use Rattle.coff_records.specs.ObjectFile.{section_total}
use Rattle.section_group.specs.declared.piece.Piece.{Piece}
use Rattle.section_group.specs.BarePieces.{bare}
use Rattle.section_group.specs.SectionOrder.{no_piece}
use Rattle.module_view.specs.Module.{module_at}
use Rattle.link_pieces.specs.LinkParts.{LinkParts}
use Rattle.module_view.specs.SymbolLists.{commons_of}
use Rattle.link_pieces.specs.Commons.{FIRST_COMMON, is_meant_common, meant_commons, common_piece}
use Rattle.link_pieces.specs.Pieces.{is_linked, linked_sections, piece_of, pieces_in, module_pieces, link_pieces, IsPieceOf}
use Rattle.link_pieces.specs.LinkerPieces.{linker_pieces, IsLinkerNumber, IsLinkerPiece}
use Rattle.link_pieces.specs.TablePieces.{KeptParts, tables_of, table_sizes, whole_pieces, table_index, is_table, IsLinkTable}
use Rattle.link_pieces.proofs.LinkerLemmas.{linker_pieces_are}
use Rattle.link_pieces.proofs.TableLemmas.{tables_are, later_any, table_made}
use Rattle.link_pieces.specs.PieceIndex.{is_section, is_numbered, is_section_of, is_common_of, holds, piece_index, common_index, linker_index, slot_index}
use Rattle.std.specs.Option.{option_and_then}
use Rattle.synthetic_sections.specs.LinkerPieces.{FIRST_THUNK, FIRST_LOCAL_SLOT, size_at}
use Rattle.link_pieces.specs.LocalSlots.{slot_names, slot_number}

-- ---- what each piece is

section_pieces : (link : LinkParts) (m : ℕ) → m < length link.modules → All (IsPieceOf link) (map (piece_of m (module_at link.modules m).bytes) (linked_sections link m (module_at link.modules m).bytes))
section_pieces link m within =
    let bytes = (module_at link.modules m).bytes in
    all_kept (IsPieceOf link) (piece_of m bytes) (is_linked link m bytes) 1 (section_total bytes) (λ section first last linked.
    inl (record {
      within = within;
      is = inl (record { first = first; last = omega (arith, last); linked = linked; is = refl });
    }))

common_pieces : (link : LinkParts) (m : ℕ) → m < length link.modules → All (IsPieceOf link) (map (common_piece link.modules m) (meant_commons link m (module_at link.modules m).bytes))
common_pieces link m within =
    let commons = commons_of (module_at link.modules m).bytes in
    All-map (IsPieceOf link) (common_piece link.modules m) (meant_commons link m (module_at link.modules m).bytes)
    (All-weaker (Contains commons) (λ common. IsPieceOf link (common_piece link.modules m common)) (λ common own.
    inl (record {
      within = within;
      is = inr (record { common = common; own = own; is = refl });
    })) (filter (is_meant_common link m) commons)
    (All-filter (is_meant_common link m) (Contains commons) commons (All-contains_itself commons)))

module_pieces_are : (link : LinkParts) → All (IsPieceOf link) (module_pieces link)
module_pieces_are link =
    all_joined (IsPieceOf link) (λ m. pieces_in link m (module_at link.modules m).bytes) 0 (length link.modules) (λ m low high.
    let bytes = (module_at link.modules m).bytes in
    let within : m < length link.modules = omega arith in
    All-append (IsPieceOf link) (map (piece_of m bytes) (linked_sections link m bytes)) (map (common_piece link.modules m) (meant_commons link m bytes)) (section_pieces link m within) (common_pieces link m within))

pub pieces_are : (link : LinkParts) → All (IsPieceOf link) (link_pieces link)
pieces_are link =
    All-append (IsPieceOf link) (module_pieces link) (linker_pieces link) (module_pieces_are link)
    (All-weaker (IsLinkerPiece link) (IsPieceOf link) (λ piece is. inr is) (linker_pieces link) (linker_pieces_are link))

pub piece_is : (link : LinkParts) (k : ℕ) → k < length (link_pieces link) → IsPieceOf link (get_or (link_pieces link) k no_piece)
piece_is link k lt = pieces_are link k no_piece lt

-- none of them is a table
pub no_table : (link : LinkParts) (k : ℕ) → k < length (link_pieces link) → is_table (length link.modules) (get_or (link_pieces link) k no_piece) ≡ false
no_table link k lt =
    let piece = get_or (link_pieces link) k no_piece in
    let count = length link.modules in
    elim (piece_is link k lt) [
      | inl of_module ↦ rw (ne_eqb piece.«module» count (λ same. omega (arith, of_module.within, same))) refl
      | inr of_linker ↦ rw (le-ltb piece.number FIRST_THUNK (above count (length (slot_names link)) piece.number of_linker.numbered), and-false (eqb piece.«module» count)) refl
    ]
  where
    above : (modules slots number : ℕ) → IsLinkerNumber modules slots number → FIRST_THUNK ≤ number
    above modules slots number (inl jump) = jump.0
    above modules slots number (inr slot) = omega (arith, slot.0)

same_place : (position number : ℕ) (piece : Piece) → is_numbered position number piece ≡ true → (piece.«module» ≡ position) × (piece.number ≡ number)
same_place position number piece e =
    let both = and_parts (eqb piece.«module» position) (eqb piece.number number) e in
    (eqb-true piece.«module» position both.0, eqb-true piece.number number both.1)

-- ---- the tables behind them

-- a piece behind those of the link is one of the eight, and as long as its bytes will be
pub table_is : (link : KeptParts) (k : ℕ) → length (link_pieces link.parts) ≤ k → k < length (whole_pieces link) → IsLinkTable link (get_or (whole_pieces link) k no_piece)
table_is link k behind lt =
    let pieces = link_pieces link.parts in
    let tables = tables_of link in
    subst (IsLinkTable link) (sym (get_or-append_right pieces tables (length pieces) k no_piece refl behind))
    (tables_are link (k - length pieces) no_piece (omega (arith, behind, lt, length-append pieces tables)))

-- a piece of the link is the same among all
pub whole_at : (link : KeptParts) (k : ℕ) → k < length (link_pieces link.parts) → get_or (whole_pieces link) k no_piece ≡ get_or (link_pieces link.parts) k no_piece
whole_at link k lt = get_or_append_left (link_pieces link.parts) (tables_of link) no_piece k lt

-- one that has bytes is there
pub table_there : (link : KeptParts) (number : ℕ) → number < 9 → 0 < size_at (table_sizes link) number → table_index link number ≡ None → ⊥
table_there link number few sized none =
    let test = is_numbered (length link.parts.modules) number in
    let pieces = whole_pieces link in
    let none_passes = first_below-none (length pieces) (holds test pieces) none in
    let there = later_any test (link_pieces link.parts) (tables_of link) (table_made link number few sized) in
    false≢true (sym (no_any test pieces none_passes) ∙ there)
  where
    no_any : (test : Piece → Bool) (pieces : List Piece) → ((k : ℕ) → k < length pieces → test (get_or pieces k no_piece) ≡ false) → list_any test pieces ≡ false
    no_any test [] each = refl
    no_any test (piece ∷ pieces) each =
        rw (each 0 (omega arith)) (no_any test pieces (λ k lt. each (suc k) (omega (arith, lt))))

-- and is one of those behind the pieces of the link
pub table_found : (link : KeptParts) (number k : ℕ) → number < 9 → table_index link number ≡ Some k → (length (link_pieces link.parts) ≤ k) × (k < length (whole_pieces link))
table_found link number k few e =
    let count = length link.parts.modules in
    let pieces = link_pieces link.parts in
    let found = first_below-some (length (whole_pieces link)) k (holds (is_numbered count number) (whole_pieces link)) e in
    elim (cases_lt k (length pieces)) [
      | inl inside ↦
          let here : is_numbered count number (get_or pieces k no_piece) ≡ true = ap (is_numbered count number) (sym (whole_at link k inside)) ∙ found.1.0 in
          let same = same_place count number (get_or pieces k no_piece) here in
          let piece = get_or pieces k no_piece in
          let told : is_table count piece ≡ true = rw (eq-eqb piece.«module» count same.0, lt-ltb piece.number FIRST_THUNK (omega (arith, few, same.1))) refl in
          absurd (false≢true (sym (no_table link.parts k inside) ∙ told))
      | inr behind ↦ (behind, found.0)
    ]

-- a piece without its bytes is one of the link
pub bare_at : (link : LinkParts) (pieces : List Piece) (k : ℕ) → map bare pieces ≡ link_pieces link → bare (get_or pieces k no_piece) ≡ get_or (link_pieces link) k no_piece
bare_at link pieces k same =
    sym (get_or-map bare pieces k no_piece) ∙ ap (λ (ps : List Piece). get_or ps k no_piece) same

-- ---- the piece that a section is

-- it is there, and is that section
pub record IsFoundAt (link : LinkParts) (position section k : ℕ) : Type 0 where
  pub within : k < length (link_pieces link)
  pub is : get_or (link_pieces link) k no_piece ≡ piece_of position (module_at link.modules position).bytes section

pub found_piece : (link : LinkParts) (position section k : ℕ) → piece_index link position section ≡ Some k → IsFoundAt link position section k
found_piece link position section k e =
    let pieces = link_pieces link in
    let count = length link.modules in
    let found = first_below-some (length pieces) k (holds (is_section_of count position section) pieces) e in
    let piece = get_or pieces k no_piece in
    let parts = and_parts (is_section count piece) (is_numbered position section piece) found.1.0 in
    let own = and_parts (ltb piece.«module» count) (ltb piece.number FIRST_COMMON) parts.0 in
    let inside = ltb-true piece.«module» count own.0 in
    let small = ltb-true piece.number FIRST_COMMON own.1 in
    let same = same_place position section piece parts.1 in
    elim (piece_is link k found.0) [
      | inl of_module ↦ elim of_module.is [
        | inl whole ↦
            record {
              within = found.0;
              is = whole.is ∙ ap (λ (m : ℕ). piece_of m (module_at link.modules m).bytes piece.number) same.0 ∙ ap (piece_of position (module_at link.modules position).bytes) same.1;
            }
        | inr common ↦
            let number : piece.number ≡ FIRST_COMMON + common.common.symbol = ap (λ (p : Piece). p.number) common.is in
            absurd (omega (arith, small, number))
      ]
      | inr of_linker ↦ absurd (omega (arith, inside, of_linker.of_linker))
    ]

-- a common's piece is there
pub found_common : (link : LinkParts) (position symbol k : ℕ) → common_index link position symbol ≡ Some k → k < length (link_pieces link)
found_common link position symbol k e =
    (first_below-some (length (link_pieces link)) k (holds (is_common_of position symbol) (link_pieces link)) e).0

-- one that the linker makes is there
pub found_linker : (link : LinkParts) (number k : ℕ) → linker_index link number ≡ Some k → k < length (link_pieces link)
found_linker link number k e =
    (first_below-some (length (link_pieces link)) k (holds (is_numbered (length link.modules) number) (link_pieces link)) e).0

-- and so is the slot of a name
pub found_slot : (link : LinkParts) (name : List ℕ) (k : ℕ) → slot_index link name ≡ Some k → k < length (link_pieces link)
found_slot link name k e = go (slot_number (slot_names link) name) e
  where
    go : (number : Option ℕ) → option_and_then (λ slot. linker_index link (FIRST_LOCAL_SLOT + slot)) number ≡ Some k → k < length (link_pieces link)
    go None e = absurd cc
    go (Some slot) e = found_linker link (FIRST_LOCAL_SLOT + slot) k e
