-- The rows of the pieces that the linker makes, one piece more at a time.
use Rattle.std.proofs.Common.{◌≡◌, ℕ, zero, suc, ◌+◌, ◌-◌, ◌<◌, ◌≤◌, Bool, true, false, cond, eqb, ltb, List, length, map, get_or, replicate, Option, Some, None, inl, inr, refl, sym, ap, ◌∙◌, eq-eqb, arith}
use Rattle.std.specs.Option.{option_or}
use Rattle.std.proofs.lemmas.Bool.{ne_eqb}
use Rattle.std.proofs.lemmas.Bool.Decides.{eqb_tells}
use Rattle.std.proofs.lemmas.List.{length-replicate}
use Rattle.link_base.specs.Bytes.{first_below}
use Rattle.link_base.specs.Limits.{MODULE_LIMIT}
use Rattle.section_group.specs.declared.piece.Piece.{Piece}
use Rattle.section_group.specs.BarePieces.{bare}
use Rattle.module_view.specs.Module.{ModuleView}
use Rattle.synthetic_sections.specs.LinkerPieces.{FIRST_THUNK, FIRST_LOCAL_SLOT}
use Rattle.link_pieces.specs.LinkerPieces.{IsLinkerNumber}
use Rattle.link_pieces.specs.PieceIndex.{LinkerView, is_numbered, holds, linker_indexed}
use Rattle.link_pieces.specs.Rows.{HasLinkerRows, HasLinkerRoom}
use Rattle.link_pieces.proofs.IndexLemmas.{index_more, index_same}

-- ---- one number more

-- counted from another number
shifted : (number n first : ℕ) → first ≤ number → first ≤ n → eqb (number - first) (n - first) ≡ eqb number n
shifted number n first low least =
    elim (eqb_tells number n) [
      | inl same ↦ eq-eqb (number - first) (n - first) (omega (arith, same.1)) ∙ sym same.0
      | inr other ↦ ne_eqb (number - first) (n - first) (λ e. other.1 (omega (arith, e, low, least))) ∙ sym other.0
    ]

-- ---- rows with what is noted of the first pieces

pub record AreLinkerNoted (modules : List ModuleView) (places : ℕ) (pieces : List Piece) (count : ℕ) (rows : LinkerView) : Type 0 where
  pub made : length rows.made ≡ FIRST_THUNK + length modules
  pub slots : length rows.slots ≡ places
  pub noted : (n : ℕ) → linker_indexed rows n ≡ first_below count (holds (is_numbered (length modules) n) (map bare pieces))

abbrev nothing : Option ℕ
nothing = None

no_piece_at : (count n : ℕ) → get_or (replicate count nothing) n None ≡ None
no_piece_at zero n = refl
no_piece_at (suc count) zero = refl
no_piece_at (suc count) (suc n) = no_piece_at count n

both_none : (b : Bool) (first second : Option ℕ) → first ≡ None → second ≡ None → cond b first second ≡ None
both_none true first second e f = e
both_none false first second e f = f

pub no_linker_noted : (modules : List ModuleView) {count slots : ℕ} (places : ℕ) (pieces : List Piece) (rows : LinkerView) → HasLinkerRows count slots rows → count ≡ length modules → slots ≡ places → AreLinkerNoted modules places pieces 0 rows
unfolding first_below
no_linker_noted modules {count} {slots} places pieces rows has all same = record {
  made = ap length has.made ∙ length-replicate (FIRST_THUNK + count) None ∙ ap (λ (n : ℕ). FIRST_THUNK + n) all;
  slots = ap length has.slots ∙ length-replicate slots None ∙ same;
  noted = λ n.
      both_none (ltb n FIRST_LOCAL_SLOT) (get_or rows.made n None) (get_or rows.slots (n - FIRST_LOCAL_SLOT) None)
      (ap (λ (row : List (Option ℕ)). get_or row n None) has.made ∙ no_piece_at (FIRST_THUNK + count) n)
      (ap (λ (row : List (Option ℕ)). get_or row (n - FIRST_LOCAL_SLOT) None) has.slots ∙ no_piece_at slots (n - FIRST_LOCAL_SLOT));
}

-- a piece of the linker's has room
pub has_room : (modules : List ModuleView) (slots number : ℕ) (pieces : List Piece) (count : ℕ) (rows : LinkerView) → length modules ≤ MODULE_LIMIT → IsLinkerNumber (length modules) slots number → AreLinkerNoted modules slots pieces count rows → HasLinkerRoom rows number
has_room modules slots number pieces count rows few (inl made) are = record {
  made = λ below. omega (arith, made.1, are.made);
  slots = λ above. absurd (omega (arith, above, made.1, few));
}
has_room modules slots number pieces count rows few (inr slot) are = record {
  made = λ below. absurd (omega (arith, below, slot.0));
  slots = λ above. omega (arith, above, slot.1, are.slots);
}

-- one more that it makes
pub linker_more : (modules : List ModuleView) (slots : ℕ) (pieces : List Piece) (k : ℕ) (piece : Piece) (rows after : LinkerView) → k < length pieces → piece ≡ get_or pieces k piece → piece.«module» ≡ length modules → length after.made ≡ length rows.made → length after.slots ≡ length rows.slots → ((n : ℕ) → linker_indexed after n ≡ option_or (linker_indexed rows n) (cond (eqb piece.number n) (Some k) None)) → AreLinkerNoted modules slots pieces k rows → AreLinkerNoted modules slots pieces (k + 1) after
linker_more modules slots pieces k piece rows after lt read same made slot noted are = record {
  made = made ∙ are.made;
  slots = slot ∙ are.slots;
  noted = λ n.
      index_more (is_numbered (length modules) n) pieces k piece (eqb piece.number n) (linker_indexed rows n) (linker_indexed after n) lt read (passes n) (are.noted n) (noted n);
}
  where
    passes : (n : ℕ) → eqb piece.number n ≡ is_numbered (length modules) n (bare piece)
    passes n = rw (eq-eqb piece.«module» (length modules) same) refl

-- one that it does not make
pub linker_same : (modules : List ModuleView) (slots : ℕ) (pieces : List Piece) (k : ℕ) (piece : Piece) (rows : LinkerView) → k < length pieces → piece ≡ get_or pieces k piece → (piece.«module» ≡ length modules → ⊥) → AreLinkerNoted modules slots pieces k rows → AreLinkerNoted modules slots pieces (k + 1) rows
linker_same modules slots pieces k piece rows lt read other are = record {
  made = are.made;
  slots = are.slots;
  noted = λ n. index_same (is_numbered (length modules) n) pieces k piece (linker_indexed rows n) lt read (fails n) (are.noted n);
}
  where
    fails : (n : ℕ) → is_numbered (length modules) n (bare piece) ≡ false
    fails n = rw (ne_eqb piece.«module» (length modules) other) refl
