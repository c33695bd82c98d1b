-- A layout holds its arrangement when entries of pieces that stand in no section are written.
use Rattle.std.proofs.Common.{◌≡◌, ℕ, zero, suc, ◌<◌, Bool, List, [], ◌∷◌, length, get_or, ap, sym, ◌∙◌, subst, arith}
use Rattle.std.specs.List.{Contains}
use Rattle.std.proofs.lemmas.List.Elements.{Contains-get_or, Contains-append_left, Contains-append_right}
use Rattle.section_group.specs.declared.piece.Piece.{Piece}
use Rattle.section_group.specs.declared.piece.OutSection.{OutSection}
use Rattle.address_layout.specs.declared.layout.Placed.{Placed}
use Rattle.address_layout.specs.declared.layout.Layout.{Layout}
use Rattle.address_layout.specs.Places.{row_at, IsArrangement, end_before, file_before}
use Rattle.address_layout.specs.Layout.{all_pieces, placed_at, HoldsArrangement, IsRewritten}
use Rattle.address_layout.specs.Growth.{CanGrow, last_end, raw_end}

-- a piece of a section stands
pub piece_stands : (sections : List OutSection) (i j : ℕ) → i < length sections → j < length (row_at sections i).1 → Contains (all_pieces sections) (get_or (row_at sections i).1 j 0)
piece_stands [] i j lt below = absurd (omega arith)
piece_stands (s ∷ ss) zero j lt below = Contains-append_left s.pieces.items (all_pieces ss) (get_or s.pieces.items j 0) (Contains-get_or s.pieces.items j 0 below)
piece_stands (s ∷ ss) (suc i) j lt below =
    Contains-append_right s.pieces.items (all_pieces ss) (get_or (row_at ss i).1 j 0) (piece_stands ss i j (omega arith) below)

pub rewritten_holds : (pieces : List Piece) (sections : List OutSection) (reloc : Bool) (old new : Layout) → HoldsArrangement pieces sections reloc old → IsRewritten sections old new → HoldsArrangement pieces sections reloc new
rewritten_holds pieces sections reloc old new held same = record {
  place = held.place;
  arranged =
      subst (λ (h : ℕ). IsArrangement pieces sections reloc h (placed_at new.sections.items) held.place new.image) (sym same.headers)
      (subst (λ (ps : List Placed). IsArrangement pieces sections reloc old.headers (placed_at ps) held.place new.image) (sym same.section_places)
      (subst (λ (n : ℕ). IsArrangement pieces sections reloc old.headers (placed_at old.sections.items) held.place n) (sym same.image) held.arranged));
  section_for_each = ap length same.section_places ∙ held.section_for_each;
  rva_for_each = same.rva_for_each ∙ held.rva_for_each;
  written = λ i j lt below. same.placed (get_or (row_at sections i).1 j 0) (piece_stands sections i j lt below) ∙ held.written i j lt below;
}

-- and the section of base relocations can still follow
pub rewritten_can_grow : (sections : List OutSection) (old new : Layout) → CanGrow old → IsRewritten sections old new → CanGrow new
rewritten_can_grow sections old new grow same =
    let ends : last_end new ≡ last_end old = ap (λ (h : ℕ). end_before h (placed_at new.sections.items) (length new.sections.items)) same.headers ∙ ap (λ (ps : List Placed). end_before old.headers (placed_at ps) (length ps)) same.section_places in
    let file : raw_end new ≡ raw_end old = ap (λ (h : ℕ). file_before h (placed_at new.sections.items) (length new.sections.items)) same.headers ∙ ap (λ (ps : List Placed). file_before old.headers (placed_at ps) (length ps)) same.section_places in
    record {
      small = omega (arith, same.image, grow.small);
      within = omega (arith, ends, same.image, grow.within);
      file = omega (arith, file, grow.file);
    }
