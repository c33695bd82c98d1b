-- The fields that hold addresses, of the pieces of a plan at their places.
use Rattle.std.proofs.Common.{◌≡◌, ℕ, ◌<◌, ◌≤◌, ◌^◌, Bool, List, length, get_or, inl, sym, subst, arith}
use Rattle.std.specs.List.{All, Contains}
use Rattle.section_group.specs.declared.piece.Piece.{Piece}
use Rattle.section_group.specs.declared.piece.OutSection.{OutSection}
use Rattle.section_group.specs.SectionOrder.{no_piece}
use Rattle.address_layout.specs.declared.layout.Layout.{Layout}
use Rattle.address_layout.specs.Layout.{all_pieces}
use Rattle.address_layout.proofs.CallerLemmas.{stands}
use Rattle.link_pieces.specs.TablePieces.{whole_pieces}
use Rattle.link_words.specs.Outcome.{LinkOptions}
use Rattle.link_plan.specs.Planned.{planned_fixes}
use Rattle.link_plan.specs.declared.planning.LinkPlan.{LinkPlan}
use Rattle.link_plan.specs.Plan.{IsPlanOf, kept_parts}
use Rattle.link_image.specs.BaseFields.{AreBaseFields}
use Rattle.link_image.specs.LinkedBytes.{contents_at}
use Rattle.link_image.specs.LinkedImage.{link_input, AreGrouped, ArePlaced}
use Rattle.address_fields.specs.AddressFields.{Fits, all_fields}
use Rattle.link_image.proofs.HeldLemmas.{piece_count, held_size}
use Rattle.link_image.proofs.UsedLemmas.{fields_used}
use Rattle.link_image.proofs.SectionLemmas.{standing, used_there, needs_there}
use Rattle.link_image.proofs.BaseFieldLemmas.{all_fit, base_fields_are}

module _ (options : LinkOptions) (plan : LinkPlan) (sections : List OutSection) (reloc : Bool) (layout : Layout) (planned : IsPlanOf options plan.modules.items plan) (grouped : AreGrouped options (kept_parts plan) plan.pieces.items sections) (placed : ArePlaced plan.pieces.items sections reloc layout) where
  abbrev pieces : List Piece
  pieces = plan.pieces.items

  count : length plan.pieces.items ≡ length (whole_pieces (kept_parts plan))
  count = piece_count options plan planned

  sizes : (k : ℕ) → k < length plan.pieces.items → length (contents_at (kept_parts plan) layout k) ≤ (get_or plan.pieces.items k no_piece).size
  sizes k lt = held_size options plan planned layout k lt

  stand : (k : ℕ) → k < length plan.pieces.items → 0 < length (planned_fixes (kept_parts plan) k) → 0 < (get_or plan.pieces.items k no_piece).size → Contains (all_pieces sections) k
  stand k lt field some =
      stands (link_input options (kept_parts plan) plan.pieces.items) sections k grouped.grouping (used_there options (kept_parts plan) plan.pieces.items k lt (fields_used options (kept_parts plan) k planned.link_is.kept_are field)) (needs_there (link_input options (kept_parts plan) plan.pieces.items) k (inl some))

  few : layout.image ≤ 2 ^ 31
  few = omega (arith, placed.within)

  pub plan_fit : All (Fits layout.pieces.items plan.fixes.items) (all_pieces sections)
  plan_fit = all_fit (kept_parts plan) plan.pieces.items plan.fixes.items sections reloc layout count planned.fields sizes placed.layout_of.standing (standing options (kept_parts plan) plan.pieces.items sections grouped) stand few

  pub plan_fields : AreBaseFields (kept_parts plan) layout.pieces.items (all_fields layout.pieces.items plan.fixes.items sections)
  plan_fields = base_fields_are (kept_parts plan) plan.pieces.items plan.fixes.items sections reloc layout count planned.fields sizes placed.layout_of.standing (standing options (kept_parts plan) plan.pieces.items sections grouped) stand few

  pub plan_within : All (λ k. k < length layout.pieces.items) (all_pieces sections)
  plan_within = subst (λ (n : ℕ). All (λ k. k < n) (all_pieces sections)) (sym placed.layout_of.standing.rva_for_each) (standing options (kept_parts plan) plan.pieces.items sections grouped).within

  pub plan_fixes : All (λ k. k < length plan.fixes.items) (all_pieces sections)
  plan_fixes = subst (λ (n : ℕ). All (λ k. k < n) (all_pieces sections)) (sym planned.fields.for_each) (standing options (kept_parts plan) plan.pieces.items sections grouped).within
