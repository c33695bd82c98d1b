-- What is written of the pieces of a plan and of the tables.
use Rattle.std.proofs.Common.{◌≡◌, ℕ, zero, suc, ◌<◌, ◌≤◌, Bool, true, false, cond, List, [], ◌++◌, length, map, get_or, refl, sym, ap, ◌∙◌, subst, arith}
use Rattle.std.specs.List.{All}
use Rattle.std.proofs.Math.ListN.{get_or-map}
use Rattle.std.proofs.lemmas.List.{length-map, ext_get_or}
use Rattle.std.proofs.lemmas.List as lists
use Rattle.section_group.specs.declared.piece.Piece.{Piece}
use Rattle.section_group.specs.declared.piece.OutSection.{OutSection}
use Rattle.section_group.specs.BarePieces.{bare}
use Rattle.section_group.specs.SectionOrder.{no_piece}
use Rattle.section_group.specs.PieceContents.{piece_contents, HasItsBytes}
use Rattle.address_layout.specs.declared.layout.Layout.{Layout}
use Rattle.address_layout.specs.declared.layout.Placed.{Placed}
use Rattle.address_layout.specs.Layout.{all_pieces}
use Rattle.address_layout.specs.Places.{row_at, piece_in, piece_floor}
use Rattle.image_writer.specs.declared.headers.Headers.{Headers}
use Rattle.image_writer.specs.ExpectedImage.{image_file}
use Rattle.image_writer.specs.WrittenImage.{layout_plan, at_each_base, place_in, IsSectionLaidOut, IsLaidOut, HasContents}
use Rattle.link_pieces.specs.TablePieces.{is_table, whole_piece}
use Rattle.link_pieces.proofs.CallerLemmas.{table_is}
use Rattle.link_words.specs.Outcome.{LinkOptions}
use Rattle.link_plan.specs.declared.planning.LinkPlan.{LinkPlan}
use Rattle.link_plan.specs.Plan.{IsPlanOf, kept_parts}
use Rattle.link_image.specs.declared.placement.Placement.{Placement}
use Rattle.link_image.specs.LinkedBytes.{tables_at, contents_at, placed_contents}
use Rattle.link_image.specs.Steps.{CanBeGiven, AreWhole, IsPlaced, IsWritten, given_contents, reloc_tables}
use Rattle.link_image.proofs.HeldLemmas.{table_behind, piece_count, planned_is, same_test, held_at, other_is, table_contents, all_held, length-placed, placed_read, placed_held}

-- ---- pieces with other bytes are laid out as they were

bare_same : (pieces others : List Piece) → map bare others ≡ map bare pieces → (k : ℕ) → bare (get_or others k no_piece) ≡ bare (get_or pieces k no_piece)
bare_same pieces others same k = sym (get_or-map bare others k no_piece) ∙ ap (λ (ps : List Piece). get_or ps k no_piece) same ∙ get_or-map bare pieces k no_piece

section_same : (pieces others : List Piece) (rvas : List ℕ) (row : List ℕ × List ℕ) (before file : ℕ) (placed : Placed) → map bare others ≡ map bare pieces → IsSectionLaidOut pieces rvas row before file placed → IsSectionLaidOut others rvas row before file placed
section_same pieces others rvas row before file placed same is = record {
  aligned = is.aligned;
  above = is.above;
  ascending = ascending;
  in_raw = λ j lt init. omega (arith, is.in_raw j lt (sym (ap (λ (p : Piece). p.init) (at j)) ∙ init), size j);
  in_size = λ j lt some. omega (arith, is.in_size j lt (omega (arith, some, size j)), size j);
  file = is.file;
}
  where
    at : (j : ℕ) → bare (piece_in others row j) ≡ bare (piece_in pieces row j)
    at j = bare_same pieces others same (get_or row.1 j 0)

    size : (j : ℕ) → (piece_in others row j).size ≡ (piece_in pieces row j).size
    size j = ap (λ (p : Piece). p.size) (at j)

    ascending : (j : ℕ) → j < length row.1 → piece_floor others row placed.rva (place_in rvas row) j ≤ place_in rvas row j
    ascending zero lt = is.ascending 0 lt
    ascending (suc j) lt = omega (arith, is.ascending (suc j) lt, size j)

same_count : (pieces others : List Piece) → map bare others ≡ map bare pieces → length others ≡ length pieces
same_count pieces others same = sym (length-map others bare) ∙ ap (λ (ps : List Piece). length ps) same ∙ length-map pieces bare

pub laid_same : (pieces others : List Piece) (sections : List OutSection) (layout : Layout) → map bare others ≡ map bare pieces → IsLaidOut pieces sections layout → IsLaidOut others sections layout
laid_same pieces others sections layout same is = record {
  headers = is.headers;
  few = is.few;
  section_for_each = is.section_for_each;
  rva_for_each = is.rva_for_each ∙ sym (same_count pieces others same);
  within = subst (λ (n : ℕ). All (λ k. k < n) (all_pieces sections)) (sym (same_count pieces others same)) is.within;
  each = λ i lt. section_same pieces others layout.pieces.items (row_at sections i) _ _ _ same (is.each i lt);
  inside = is.inside;
  small = is.small;
  file = is.file;
}

-- ---- the pieces of a plan with the bytes of their tables

pub whole_by : (position count : ℕ) (imports others tables : List (List ℕ)) (given pieces whole : List Piece) → position ≡ count → imports ≡ others → given ≡ pieces → AreWhole position imports tables given whole → AreWhole count others tables pieces whole
whole_by position count imports others tables given pieces whole at same is are =
    subst (λ (n : ℕ). AreWhole n others tables pieces whole) at
    (subst (λ (is : List (List ℕ)). AreWhole position is tables pieces whole) same
    (subst (λ (ps : List Piece). AreWhole position imports tables ps whole) is are))

module _ (options : LinkOptions) (plan : LinkPlan) (planned : IsPlanOf options plan.modules.items plan) where
  abbrev count : ℕ
  count = length plan.names.modules

  abbrev pieces : List Piece
  pieces = plan.pieces.items

  -- an import table has a place among the bytes of all
  pub can_be_given : (position : ℕ) → position ≡ length plan.names.modules → All (λ piece. is_table position piece ≡ true → CanBeGiven piece) plan.pieces.items
  can_be_given position same k d lt table = by (get_or plan.pieces.items k d) (lists.get_or_default plan.pieces.items k d no_piece lt)
    where
      here : is_table (length plan.names.modules) (get_or plan.pieces.items k no_piece) ≡ true
      here =
          ap (λ (n : ℕ). is_table n (get_or plan.pieces.items k no_piece)) (sym same)
          ∙ ap (is_table position) (sym (lists.get_or_default plan.pieces.items k d no_piece lt))
          ∙ table

      by : (piece : Piece) → piece ≡ get_or plan.pieces.items k no_piece → CanBeGiven piece
      by piece is =
          let test = sym (same_test options plan planned k lt) ∙ here in
          let table = table_is (kept_parts plan) k (table_behind (kept_parts plan) k test) (omega (arith, lt, piece_count options plan planned)) in
          let at = planned_is options plan planned k in
          record {
            few = omega (arith, ap (λ (p : Piece). p.number) is, ap (λ (p : Piece). p.number) at, table.few);
            init = ap (λ (p : Piece). p.init) is ∙ ap (λ (p : Piece). p.init) at ∙ table.init;
          }

  -- what the pieces are given is what they hold
  given_is : (layout : Layout) (k : ℕ) → k < length plan.pieces.items → given_contents (length plan.names.modules) (tables_at (kept_parts plan) layout) (get_or plan.pieces.items k no_piece) ≡ contents_at (kept_parts plan) layout k
  given_is layout k lt = by (is_table (length plan.names.modules) (whole_piece (kept_parts plan) k)) refl
    where
      test : is_table (length plan.names.modules) (get_or plan.pieces.items k no_piece) ≡ is_table (length plan.names.modules) (whole_piece (kept_parts plan) k)
      test = same_test options plan planned k lt

      number : (get_or plan.pieces.items k no_piece).number ≡ (whole_piece (kept_parts plan) k).number
      number = ap (λ (p : Piece). p.number) (planned_is options plan planned k)

      by : (b : Bool) → is_table (length plan.names.modules) (whole_piece (kept_parts plan) k) ≡ b → given_contents (length plan.names.modules) (tables_at (kept_parts plan) layout) (get_or plan.pieces.items k no_piece) ≡ contents_at (kept_parts plan) layout k
      by true table =
          ap (λ (b : Bool). cond b (get_or (tables_at (kept_parts plan) layout) (get_or plan.pieces.items k no_piece).number []) (piece_contents (get_or plan.pieces.items k no_piece))) (test ∙ table)
          ∙ ap (λ (n : ℕ). get_or (tables_at (kept_parts plan) layout) n []) number
          ∙ sym (table_contents (kept_parts plan) layout k table)
      by false other =
          ap (λ (b : Bool). cond b (get_or (tables_at (kept_parts plan) layout) (get_or plan.pieces.items k no_piece).number []) (piece_contents (get_or plan.pieces.items k no_piece))) (test ∙ other)
          ∙ sym (other_is options plan planned layout k other)

  all_given : (layout : Layout) → map (given_contents (length plan.names.modules) (tables_at (kept_parts plan) layout)) plan.pieces.items ≡ placed_contents (kept_parts plan) layout
  all_given layout =
      let given = given_contents (length plan.names.modules) (tables_at (kept_parts plan) layout) in
      let same = piece_count options plan planned in
      let placed = length-placed (kept_parts plan) layout in
      let mapped = length-map plan.pieces.items given in
      ext_get_or [] (map given plan.pieces.items) (placed_contents (kept_parts plan) layout) (mapped ∙ same ∙ sym placed) (λ k lt.
      let within : k < length plan.pieces.items = omega (arith, lt, mapped) in
      lists.get_or-map given plan.pieces.items k no_piece [] within
      ∙ given_is layout k within
      ∙ sym (placed_read (kept_parts plan) layout k (omega (arith, within, same))))

  module _ (placement : Placement) (placed : IsPlaced options plan placement) (whole : List Piece) (are : AreWhole (length plan.names.modules) (tables_at (kept_parts plan) placement.layout) (reloc_tables placement.table) plan.pieces.items whole) where
    abbrev contents : List (List ℕ)
    contents = placed_contents (kept_parts plan) placement.layout

    held_are : map piece_contents whole ≡ placed_contents (kept_parts plan) placement.layout ++ reloc_tables placement.table
    held_are = are.contents ∙ ap (λ (cs : List (List ℕ)). cs ++ reloc_tables placement.table) (all_given placement.layout)

    pub whole_laid : IsLaidOut whole placement.sections.items placement.layout
    whole_laid = laid_same (plan.pieces.items ++ are.rest) whole placement.sections.items placement.layout are.same (placed.laid are.rest are.holds)

    whole_bodies : (k : ℕ) → k < length whole → HasItsBytes whole k
    whole_bodies k lt init =
        let n = same_count (plan.pieces.items ++ are.rest) whole are.same in
        let same = bare_same (plan.pieces.items ++ are.rest) whole are.same k in
        let total = piece_count options plan planned in
        let held = all_held plan.pieces.items are.rest (placed_contents (kept_parts plan) placement.layout) (reloc_tables placement.table) (length-placed (kept_parts plan) placement.layout ∙ sym total) (placed_held (kept_parts plan) placement.layout plan.pieces.items total (held_at options plan planned placement.layout)) are.holds k (omega (arith, lt, n)) in
        sym (ap length (get_or-map piece_contents whole k no_piece))
        ∙ ap (λ (cs : List (List ℕ)). length (get_or cs k [])) held_are
        ∙ held.filled (sym (ap (λ (p : Piece). p.init) same) ∙ init)
        ∙ sym (ap (λ (p : Piece). p.size) same)

    pub whole_filled : HasContents whole placement.sections.items
    whole_filled = λ i d lt. whole_bodies (get_or (all_pieces placement.sections.items) i d) (whole_laid.within i d lt)

    -- the file
    pub written_with : (headers : Headers) (image : List ℕ) → image ≡ image_file (layout_plan headers placement.sections.items placement.layout (at_each_base (map piece_contents whole))) → IsWritten headers placement (kept_parts plan) image
    written_with headers image is = record {
      rest = are.rest;
      holds = are.holds;
      file = is ∙ ap (λ (cs : List (List ℕ)). image_file (layout_plan headers placement.sections.items placement.layout (at_each_base cs))) held_are;
    }
