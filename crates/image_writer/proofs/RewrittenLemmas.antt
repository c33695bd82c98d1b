-- What is laid out stays so when entries of pieces that stand in no section are written.
use Rattle.std.proofs.Common.{◌≡◌, ℕ, zero, suc, ◌<◌, ◌≤◌, List, length, get_or, sym, ap, ◌∙◌, subst, arith}
use Rattle.section_group.specs.declared.piece.Piece.{Piece}
use Rattle.section_group.specs.declared.piece.OutSection.{OutSection}
use Rattle.address_layout.specs.declared.layout.Placed.{Placed}
use Rattle.address_layout.specs.declared.layout.Layout.{Layout}
use Rattle.address_layout.specs.Places.{row_at, piece_floor, end_before, file_before}
use Rattle.address_layout.specs.Layout.{placed_at, IsRewritten}
use Rattle.address_layout.proofs.CallerLemmas.{piece_stands}
use Rattle.image_writer.specs.WrittenImage.{place_in, IsSectionLaidOut, IsLaidOut}

-- a section with other RVAs of pieces that are not its own
same_places : (pieces : List Piece) (rvas others : List ℕ) (row : List ℕ × List ℕ) (before file : ℕ) (placed : Placed) → ((j : ℕ) → j < length row.1 → place_in others row j ≡ place_in rvas row j) → IsSectionLaidOut pieces rvas row before file placed → IsSectionLaidOut pieces others row before file placed
same_places pieces rvas others row before file placed same is = record {
  aligned = is.aligned;
  above = is.above;
  ascending = ascending;
  in_raw = λ j lt init. omega (arith, is.in_raw j lt init, same j lt);
  in_size = λ j lt some. omega (arith, is.in_size j lt some, same j lt);
  file = is.file;
}
  where
    ascending : (j : ℕ) → j < length row.1 → piece_floor pieces row placed.rva (place_in others row) j ≤ place_in others row j
    ascending zero lt = omega (arith, is.ascending 0 lt, same 0 lt)
    ascending (suc j) lt = omega (arith, is.ascending (suc j) lt, same (suc j) lt, same j (omega arith))

pub rewritten_laid_out : (pieces : List Piece) (sections : List OutSection) (old new : Layout) → IsLaidOut pieces sections old → IsRewritten sections old new → IsLaidOut pieces sections new
rewritten_laid_out pieces sections old new out same =
    let At : List ℕ → ℕ → List Placed → ℕ → Type 0 = λ rvas headers placed i. IsSectionLaidOut pieces rvas (row_at sections i) (end_before headers (placed_at placed) i) (file_before headers (placed_at placed) i) (placed_at placed i) in
    record {
      headers = same.headers ∙ out.headers;
      few = out.few;
      section_for_each = ap length same.section_places ∙ out.section_for_each;
      rva_for_each = same.rva_for_each ∙ out.rva_for_each;
      within = out.within;
      each = λ i lt.
          subst (λ (h : ℕ). At new.pieces.items h new.sections.items i) (sym same.headers)
          (subst (λ (ps : List Placed). At new.pieces.items old.headers ps i) (sym same.section_places)
          (same_places pieces old.pieces.items new.pieces.items (row_at sections i) (end_before old.headers (placed_at old.sections.items) i) (file_before old.headers (placed_at old.sections.items) i) (placed_at old.sections.items i)
          (λ j below. same.placed (get_or (row_at sections i).1 j 0) (piece_stands sections i j lt below))
          (out.each i lt)));
      inside =
          subst (λ (n : ℕ). end_before new.headers (placed_at new.sections.items) (length new.sections.items) ≤ n) (sym same.image)
          (subst (λ (h : ℕ). end_before h (placed_at new.sections.items) (length new.sections.items) ≤ old.image) (sym same.headers)
          (subst (λ (ps : List Placed). end_before old.headers (placed_at ps) (length ps) ≤ old.image) (sym same.section_places) out.inside));
      small = omega (arith, same.image, out.small);
      file =
          subst (λ (h : ℕ). file_before h (placed_at new.sections.items) (length new.sections.items) < 4294967296) (sym same.headers)
          (subst (λ (ps : List Placed). file_before old.headers (placed_at ps) (length ps) < 4294967296) (sym same.section_places) out.file);
    }
