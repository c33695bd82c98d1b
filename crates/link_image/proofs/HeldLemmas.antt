-- What pieces hold at their places: an import table its bytes, and any other piece what it has.
use Rattle.std.proofs.Common.{◌≡◌, ℕ, ◌-◌, ◌<◌, ◌≤◌, Bool, true, false, cond, ◌&&◌, IsTrue, List, [], ◌∷◌, ◌++◌, length, map, get_or, refl, sym, ap, ◌∙◌, subst, inl, inr, arith}
use Rattle.std.specs.List.{All, filter}
use Rattle.std.proofs.Math.ListN.{get_or-map}
use Rattle.std.proofs.lemmas.Bool.{cases_lt, le-ltb, false≢true}
use Rattle.std.proofs.lemmas.List.{length-map, length-append, get_or_append_left, get_or-append_right}
use Rattle.std.proofs.lemmas.List.Elements.{All-nil}
use Rattle.std.proofs.lemmas.List.FromFn.{get_or-map-range_with_len, length-map-range_with_len}
use Rattle.std.proofs.lemmas.List.Sorted.{All-permutation}
use Rattle.section_group.specs.declared.piece.Piece.{Piece}
use Rattle.section_group.specs.declared.piece.OutSection.{OutSection}
use Rattle.section_group.specs.BarePieces.{bare}
use Rattle.section_group.specs.SectionOrder.{no_piece}
use Rattle.section_group.specs.PieceContents.{piece_contents}
use Rattle.address_layout.specs.declared.layout.Layout.{Layout}
use Rattle.address_layout.specs.Layout.{all_pieces}
use Rattle.relocate.specs.declared.fix.Fix.{Fix}
use Rattle.relocate.specs.Field.{has_field}
use Rattle.relocate.specs.Judged.{AreTheFields, IsPatchable, ArePatchable}
use Rattle.image_writer.specs.WrittenImage.{HaveRoom}
use Rattle.link_pieces.specs.TablePieces.{KeptParts, kept_imports, is_table, whole_pieces, whole_contents, whole_piece}
use Rattle.link_pieces.specs.LinkParts.{LinkParts}
use Rattle.link_pieces.specs.Pieces.{link_pieces}
use Rattle.link_pieces.proofs.CallerLemmas.{no_table, whole_at, table_is}
use Rattle.module_view.specs.Module.{ModuleView}
use Rattle.link_imports.specs.Imports.{AreImports}
use Rattle.link_fields.specs.Fixes.{piece_fixes}
use Rattle.link_words.specs.Outcome.{LinkOptions}
use Rattle.link_plan.specs.declared.planning.LinkPlan.{LinkPlan}
use Rattle.link_plan.specs.Planned.{placed_fix, fixes_if, planned_fixes, plan_pieces, HaveFields}
use Rattle.link_resources.specs.LinkResources.{ResourcesView, resources_with, IsSized as IsSizedTree}
use Rattle.link_plan.specs.Plan.{IsPlanOf, plan_resources, kept_parts}
use Rattle.link_plan.proofs.CallerLemmas.{planned_at, table_at, plan_count}
use Rattle.link_debug.proofs.DataLemmas.{IsSized, sized}
use Rattle.link_exports.specs.Exports.{export_rows, dll_name, exports_of}
use Rattle.link_image.specs.LinkedBytes.{tables_at, contents_at, placed_contents}
use Rattle.link_image.proofs.ExportLemmas.{AreSized, length-tables}
use Rattle.link_image.specs.Steps.{HoldTables, IsHeld}

-- ---- by what a piece is

pub table_contents : (link : KeptParts) (layout : Layout) (k : ℕ) → is_table (length link.parts.modules) (whole_piece link k) ≡ true → contents_at link layout k ≡ get_or (tables_at link layout) (whole_piece link k).number []
unfolding contents_at
table_contents link layout k table =
    ap (λ (b : Bool). cond b (get_or (tables_at link layout) (whole_piece link k).number []) (get_or (whole_contents link) k [])) table

pub other_contents : (link : KeptParts) (layout : Layout) (k : ℕ) → is_table (length link.parts.modules) (whole_piece link k) ≡ false → contents_at link layout k ≡ get_or (whole_contents link) k []
unfolding contents_at
other_contents link layout k other =
    ap (λ (b : Bool). cond b (get_or (tables_at link layout) (whole_piece link k).number []) (get_or (whole_contents link) k [])) other

-- ---- fields

-- a table stands behind the pieces of the link
pub table_behind : (link : KeptParts) (k : ℕ) → is_table (length link.parts.modules) (whole_piece link k) ≡ true → length (link_pieces link.parts) ≤ k
table_behind link k table =
    elim (cases_lt k (length (link_pieces link.parts))) [
      | inl inside ↦
          absurd (false≢true (sym (no_table link.parts k inside) ∙ ap (is_table (length link.parts.modules)) (sym (whole_at link k inside)) ∙ table))
      | inr behind ↦ behind
    ]

-- and has no fields
pub table_fixes : (link : KeptParts) (k : ℕ) → is_table (length link.parts.modules) (whole_piece link k) ≡ true → planned_fixes link k ≡ []
table_fixes link k table =
    ap (λ (b : Bool). fixes_if (b && get_or link.kept k false) (map (placed_fix link) (piece_fixes link.parts k))) (le-ltb k (length (link_pieces link.parts)) (table_behind link k table))

no_element : (fixes : List Fix) → All (λ (fix : Fix). ⊥) fixes → fixes ≡ []
no_element [] none = refl
no_element (fix ∷ fixes) none = absurd (none 0 fix (omega arith))

nothing_patchable : (len : ℕ) → ArePatchable len []
nothing_patchable len = record {
  each = All-nil (IsPatchable len);
  apart = λ i j d lt below. absurd (omega (arith, below));
}

-- where there is a field there is a relocation
pub some_fixes : (fixes fields : List Fix) → AreTheFields fixes fields → 0 < length fields → 0 < length fixes
some_fixes (fix ∷ fixes) fields are some = omega arith
some_fixes [] fields are some =
    let none = no_element fields (All-permutation (λ (fix : Fix). ⊥) [] fields are (All-nil (λ (fix : Fix). ⊥))) in
    absurd (omega (arith, some, ap (λ (fs : List Fix). length fs) none))

-- fields that are judged for a piece without a place can be patched where it has one
pub patchable_at : (link : KeptParts) (layout : Layout) (fixups : List (List Fix)) (count : ℕ) → HaveFields link count fixups → (k : ℕ) → k < count → ArePatchable (length (contents_at link layout k)) (get_or fixups k [])
patchable_at link layout fixups count have k lt = by (is_table (length link.parts.modules) (whole_piece link k)) refl
  where
    by : (b : Bool) → is_table (length link.parts.modules) (whole_piece link k) ≡ b → ArePatchable (length (contents_at link layout k)) (get_or fixups k [])
    by true table =
        let none : All (λ (fix : Fix). ⊥) (filter has_field (planned_fixes link k)) = subst (λ (fixes : List Fix). All (λ (fix : Fix). ⊥) (filter has_field fixes)) (sym (table_fixes link k table)) (All-nil (λ (fix : Fix). ⊥)) in
        let empty = no_element (get_or fixups k []) (All-permutation (λ (fix : Fix). ⊥) (filter has_field (planned_fixes link k)) (get_or fixups k []) (have.fields k lt) none) in
        subst (ArePatchable (length (contents_at link layout k))) (sym empty) (nothing_patchable (length (contents_at link layout k)))
    by false other = subst (λ (bytes : List ℕ). ArePatchable (length bytes) (get_or fixups k [])) (sym (other_contents link layout k other)) (have.patchable k lt)

-- ---- the pieces of a plan

-- a piece in all but whether it is named
abbrev pub unnamed : Piece → Piece
unnamed piece = record piece { named = false }

-- those of a plan are in the link so
pub plan_at : (options : LinkOptions) (link : KeptParts) (k : ℕ) → unnamed (get_or (plan_pieces options link) k no_piece) ≡ unnamed (whole_piece link k)
plan_at options link k =
    elim (cases_lt k (length (link_pieces link.parts))) [
      | inl inside ↦ ap unnamed (planned_at options link k inside) ∙ ap unnamed (sym (whole_at link k inside))
      | inr behind ↦ ap unnamed (table_at options link k behind)
    ]

not_initialised : (piece : Piece) → piece.init ≡ false → piece_contents piece ≡ []
not_initialised piece off = rw off refl

module _ (options : LinkOptions) (plan : LinkPlan) (planned : IsPlanOf options plan.modules.items plan) where
  pub piece_count : length plan.pieces.items ≡ length (whole_pieces (kept_parts plan))
  piece_count = sym (length-map plan.pieces.items bare) ∙ ap (λ (ps : List Piece). length ps) planned.pieces_are ∙ plan_count options (kept_parts plan)

  pub planned_is : (k : ℕ) → unnamed (bare (get_or plan.pieces.items k no_piece)) ≡ unnamed (whole_piece (kept_parts plan) k)
  planned_is k =
      ap unnamed (sym (get_or-map bare plan.pieces.items k no_piece))
      ∙ ap (λ (ps : List Piece). unnamed (get_or ps k no_piece)) planned.pieces_are
      ∙ plan_at options (kept_parts plan) k

  -- the modules and the exports of the link
  names_modules : plan.modules.items ≡ plan.names.modules
  names_modules = sym (ap (λ (parts : LinkParts). parts.modules) planned.link_is.parts_are)

  pub names_count : length plan.modules.items ≡ length plan.names.modules
  names_count = ap (λ (views : List ModuleView). length views) names_modules

  pub exports_are : plan.names.exports ≡ exports_of options plan.modules.items
  exports_are = ap (λ (parts : LinkParts). parts.exports) planned.link_is.parts_are

  pub debug_sized : IsSized plan.names.debug
  debug_sized = subst IsSized (sym (ap (λ (parts : LinkParts). parts.debug) planned.link_is.parts_are)) (sized options)

  -- the resources, with the size of their tree
  pub resources_are : plan.names.resources ≡ resources_with options (plan_resources plan)
  resources_are = ap (λ (parts : LinkParts). parts.resources) planned.link_is.parts_are

  pub tree_sized : IsSizedTree plan.names.resources
  tree_sized = ap (λ (resources : ResourcesView). resources.size) resources_are

  pub both_sized : AreSized (kept_parts plan)
  both_sized = record { debug = debug_sized; tree = tree_sized }

  pub imports_are : AreImports plan.names.modules (kept_imports (kept_parts plan)) plan.imports
  imports_are = subst (λ (views : List ModuleView). AreImports views (kept_imports (kept_parts plan)) plan.imports) names_modules planned.imports

  pub same_test : (k : ℕ) → k < length plan.pieces.items → is_table (length plan.names.modules) (get_or plan.pieces.items k no_piece) ≡ is_table (length plan.names.modules) (whole_piece (kept_parts plan) k)
  same_test k lt = ap (is_table (length plan.names.modules)) (planned_is k)

  pub same_size : (k : ℕ) → k < length plan.pieces.items → (get_or plan.pieces.items k no_piece).size ≡ (whole_piece (kept_parts plan) k).size
  same_size k lt = ap (λ (p : Piece). p.size) (planned_is k)

  -- what one that is no table has
  pub other_is : (layout : Layout) (k : ℕ) → is_table (length plan.names.modules) (whole_piece (kept_parts plan) k) ≡ false → contents_at (kept_parts plan) layout k ≡ piece_contents (get_or plan.pieces.items k no_piece)
  other_is layout k other =
      other_contents (kept_parts plan) layout k other
      ∙ ap (λ (cs : List (List ℕ)). get_or cs k []) (sym planned.contents_are)
      ∙ get_or-map piece_contents plan.pieces.items k no_piece

  pub held_at : (layout : Layout) (k : ℕ) → k < length plan.pieces.items → IsHeld (get_or plan.pieces.items k no_piece) (contents_at (kept_parts plan) layout k)
  held_at layout k lt = by (is_table (length plan.names.modules) (whole_piece (kept_parts plan) k)) refl
    where
      by : (b : Bool) → is_table (length plan.names.modules) (whole_piece (kept_parts plan) k) ≡ b → IsHeld (get_or plan.pieces.items k no_piece) (contents_at (kept_parts plan) layout k)
      by true table =
          let is = table_is (kept_parts plan) k (table_behind (kept_parts plan) k table) (omega (arith, lt, piece_count)) in
          let init : (get_or plan.pieces.items k no_piece).init ≡ true = ap (λ (p : Piece). p.init) (planned_is k) ∙ is.init in
          record {
            filled = λ on. ap length (table_contents (kept_parts plan) layout k table) ∙ length-tables (kept_parts plan) layout (export_rows options plan.modules.items) (dll_name options.out) options.time exports_are planned.told both_sized (whole_piece (kept_parts plan) k).number ∙ sym is.size ∙ sym (same_size k lt);
            empty = λ off. absurd (false≢true (sym off ∙ init));
          }
      by false other =
          let contents = other_is layout k other in
          record {
            filled = λ on. ap length contents ∙ planned.bodies k lt (ap (λ (n : ℕ). is_table n (get_or plan.pieces.items k no_piece)) names_count ∙ same_test k lt ∙ other) on;
            empty = λ off. ap length (contents ∙ not_initialised (get_or plan.pieces.items k no_piece) off);
          }

  pub held_size : (layout : Layout) (k : ℕ) → k < length plan.pieces.items → length (contents_at (kept_parts plan) layout k) ≤ (get_or plan.pieces.items k no_piece).size
  held_size layout k lt = by (get_or plan.pieces.items k no_piece).init refl
    where
      by : (b : Bool) → (get_or plan.pieces.items k no_piece).init ≡ b → length (contents_at (kept_parts plan) layout k) ≤ (get_or plan.pieces.items k no_piece).size
      by true on = omega (arith, (held_at layout k lt).filled on)
      by false off = omega (arith, (held_at layout k lt).empty off)

-- ---- pieces with tables after them

rest_held : (tables : List (List ℕ)) (rest : List Piece) → HoldTables tables rest → (j : ℕ) → j < length rest → IsHeld (get_or rest j no_piece) (get_or tables j [])
rest_held tables rest holds j lt =
    let is : get_or tables j [] ≡ piece_contents (get_or rest j no_piece) = ap (λ (cs : List (List ℕ)). get_or cs j []) (sym holds.contents) ∙ get_or-map piece_contents rest j no_piece in
    record {
      filled = λ on. sym (holds.sizes j lt);
      empty = λ off. ap length (is ∙ not_initialised (get_or rest j no_piece) off);
    }

-- each has its bytes
pub all_held : (pieces rest : List Piece) (contents tables : List (List ℕ)) → length contents ≡ length pieces → ((k : ℕ) → k < length pieces → IsHeld (get_or pieces k no_piece) (get_or contents k [])) → HoldTables tables rest → (k : ℕ) → k < length (pieces ++ rest) → IsHeld (get_or (pieces ++ rest) k no_piece) (get_or (contents ++ tables) k [])
all_held pieces rest contents tables same held holds k lt =
    elim (cases_lt k (length pieces)) [
      | inl here ↦
          subst (λ (bytes : List ℕ). IsHeld (get_or (pieces ++ rest) k no_piece) bytes) (sym (get_or_append_left contents tables [] k (omega (arith, here, same))))
          (subst (λ (piece : Piece). IsHeld piece (get_or contents k [])) (sym (get_or_append_left pieces rest no_piece k here)) (held k here))
      | inr past ↦
          let n = length-append pieces rest in
          subst (λ (bytes : List ℕ). IsHeld (get_or (pieces ++ rest) k no_piece) bytes) (sym (get_or-append_right contents tables (length pieces) k [] same past))
          (subst (λ (piece : Piece). IsHeld piece (get_or tables (k - length pieces) [])) (sym (get_or-append_right pieces rest (length pieces) k no_piece refl past)) (rest_held tables rest holds (k - length pieces) (omega (arith, lt, n, past))))
    ]

-- so whatever is as long as that has room
pub have_room_for : (pieces rest : List Piece) (sections : List OutSection) (contents tables others : List (List ℕ)) → length contents ≡ length pieces → ((k : ℕ) → k < length pieces → IsHeld (get_or pieces k no_piece) (get_or contents k [])) → HoldTables tables rest → All (λ k. k < length (pieces ++ rest)) (all_pieces sections) → ((k : ℕ) → length (get_or others k []) ≡ length (get_or (contents ++ tables) k [])) → HaveRoom (pieces ++ rest) sections others
have_room_for pieces rest sections contents tables others same held holds within len = λ i d lt.
    let k = get_or (all_pieces sections) i d in
    fits (get_or (pieces ++ rest) k no_piece) (get_or others k []) (get_or (contents ++ tables) k []) (len k) (all_held pieces rest contents tables same held holds k (within i d lt))
  where
    fits : (piece : Piece) (bytes held : List ℕ) → length bytes ≡ length held → IsHeld piece held → (length bytes ≤ piece.size) × (0 < length bytes → IsTrue piece.init)
    fits piece bytes held len is = by piece.init refl
      where
        by : (b : Bool) → piece.init ≡ b → (length bytes ≤ piece.size) × (0 < length bytes → IsTrue piece.init)
        by true on = (omega (arith, len, is.filled on), λ some. on)
        by false off = (omega (arith, len, is.empty off), λ some. absurd (omega (arith, some, len, is.empty off)))

-- ---- the contents of all pieces

pub length-placed : (link : KeptParts) (layout : Layout) → length (placed_contents link layout) ≡ length (whole_pieces link)
unfolding placed_contents
length-placed link layout = length-map-range_with_len (contents_at link layout) 0 (length (whole_pieces link))

pub placed_read : (link : KeptParts) (layout : Layout) (k : ℕ) → k < length (whole_pieces link) → get_or (placed_contents link layout) k [] ≡ contents_at link layout k
unfolding placed_contents
placed_read link layout k lt = get_or-map-range_with_len (contents_at link layout) 0 (length (whole_pieces link)) k k [] lt (omega arith)

-- what holds of what each piece holds
pub placed_held : (link : KeptParts) (layout : Layout) (pieces : List Piece) → length pieces ≡ length (whole_pieces link) → ((k : ℕ) → k < length pieces → IsHeld (get_or pieces k no_piece) (contents_at link layout k)) → (k : ℕ) → k < length pieces → IsHeld (get_or pieces k no_piece) (get_or (placed_contents link layout) k [])
placed_held link layout pieces same held k lt =
    subst (IsHeld (get_or pieces k no_piece)) (sym (placed_read link layout k (omega (arith, lt, same)))) (held k lt)
