-- The fields of a piece: what it holds with them patched, and values that do not fit.
use Rattle.std.proofs.Common.{◌≡◌, ℕ, ◌<◌, Bool, true, false, List, length, get_or, Some, None, option_map, refl, sym, ap, ◌∙◌, inl, arith}
use Rattle.std.proofs.lemmas.List.{nil_from_length}
use Rattle.std.specs.List.{All}
use Rattle.std.proofs.Math.ListN.{get_or-map}
use Rattle.link_base.specs.declared.fault.Fault.{Fault}
use Rattle.section_group.specs.declared.piece.Piece.{Piece}
use Rattle.section_group.specs.declared.piece.OutSection.{OutSection}
use Rattle.section_group.specs.BarePieces.{bare}
use Rattle.section_group.specs.SectionOrder.{no_piece}
use Rattle.section_group.specs.Uniqueness.{rows_of}
use Rattle.address_layout.specs.declared.layout.Layout.{Layout}
use Rattle.relocate.specs.declared.fix.Fix.{Fix}
use Rattle.relocate.specs.declared.range.RelocRange.{RelocRange}
use Rattle.relocate.specs.Judged.{AreTheFields, ArePatchable}
use Rattle.relocate.specs.Field.{no_fix}
use Rattle.relocate.specs.PatchedBytes.{patched_bytes, range_fault}
use Rattle.relocate.specs.Value.{fits}
use Rattle.relocate.proofs.PatchLemmas.{within_at}
use Rattle.relocate.proofs.CallerLemmas.{bytes_in_any_order, range_in_any_order, no_range_in_any_order, nothing_patched}
use Rattle.link_pieces.specs.TablePieces.{KeptParts, whole_pieces, whole_piece}
use Rattle.link_plan.specs.Planned.{used_pieces, planned_fixes}
use Rattle.link_plan.proofs.CallerLemmas.{planned_numbered}
use Rattle.piece_bytes.specs.Owners.{section_of}
use Rattle.link_image.specs.LinkedBytes.{contents_at, linked_bytes, out_of_range, piece_range_fault}
use Rattle.link_image.specs.Steps.{IsHeld, IsReady, RefusesRange}
use Rattle.link_image.proofs.HeldLemmas.{unnamed, plan_at}
use Rattle.link_image.proofs.StandsLemmas.{OwnerAt, owner_at, pieces_count, rva_there, owner_at_piece, length_owner}

module _ (link : KeptParts) (pieces : List Piece) (fixups : List (List Fix)) (sections : List OutSection) (layout : Layout) (owner : List ℕ) (tables : List (List ℕ)) (ready : IsReady link pieces fixups sections layout owner tables) where
  -- ---- a piece

  pub size_here : (k : ℕ) → k < length pieces → (get_or pieces k no_piece).init ≡ true → length (contents_at link layout k) ≡ (get_or pieces k no_piece).size
  size_here k lt init = (ready.held k lt).filled init

  pub total_is : length pieces ≡ length (whole_pieces link)
  total_is = pieces_count link pieces fixups sections layout owner tables ready

  -- its section
  pub owned : (k : ℕ) → k < length pieces → get_or (used_pieces link) k false ≡ true → 0 < (get_or pieces k no_piece).size → OwnerAt sections k
  owned k lt kept some = owner_at sections k (ready.stands k lt kept (inl some))

  pub owner_here : (k : ℕ) → k < length pieces → get_or owner k 0 ≡ section_of (rows_of sections) k
  owner_here k lt = owner_at_piece link pieces fixups sections layout owner tables ready k lt

  pub rva_here : (k : ℕ) → k < length pieces → k < length layout.pieces.items
  rva_here k lt = rva_there link pieces fixups sections layout owner tables ready k lt

  pub owners_there : (k : ℕ) → k < length pieces → k < length owner
  owners_there k lt = let same = length_owner link pieces fixups sections layout owner tables ready in omega (arith, rva_here k lt, same)

  -- ---- its fields, in the order of their places

  pub same_bytes : (base k : ℕ) (fields : List Fix) → k < length pieces → AreTheFields (planned_fixes link k) fields → ArePatchable (length (contents_at link layout k)) fields → patched_bytes base (get_or layout.pieces.items k 0) layout owner fields (contents_at link layout k) ≡ linked_bytes link (rows_of sections) layout base k
  same_bytes base k fields lt are patchable =
      bytes_in_any_order base (get_or layout.pieces.items k 0) layout owner (planned_fixes link k) fields (contents_at link layout k) (length (contents_at link layout k)) are patchable
      ∙ ap (λ (os : List ℕ). patched_bytes base (get_or layout.pieces.items k 0) layout os (planned_fixes link k) (contents_at link layout k)) ready.owner_is

  -- a piece of the plan in all but whether it is named
  pub piece_so : (k : ℕ) → k < length pieces → unnamed (bare (get_or pieces k no_piece)) ≡ unnamed (whole_piece link k)
  piece_so k lt =
      ap unnamed (sym (get_or-map bare pieces k no_piece)) ∙ ap (λ (ps : List Piece). unnamed (get_or ps k no_piece)) ready.pieces_are ∙ plan_at ready.options link k

  same_place : (k : ℕ) (range : RelocRange) → k < length pieces → out_of_range (get_or pieces k no_piece) range ≡ out_of_range (whole_piece link k) range
  same_place k range lt = ap (λ (p : Piece). out_of_range p range) (piece_so k lt)

  pub range_here : (base k : ℕ) (fields : List Fix) (fault : Fault) → k < length pieces → AreTheFields (planned_fixes link k) fields → RefusesRange base (get_or layout.pieces.items k 0) layout owner fields (contents_at link layout k) (get_or pieces k no_piece) fault → piece_range_fault link (rows_of sections) layout base k ≡ Some fault
  range_here base k fields fault lt are refuses =
      let rva = get_or layout.pieces.items k 0 in
      let range = range_in_any_order base rva layout owner (planned_fixes link k) fields (contents_at link layout k) refuses.range are (planned_numbered link k) refuses.least in
      ap (option_map (out_of_range (whole_piece link k))) (ap (λ (os : List ℕ). range_fault base rva layout os (planned_fixes link k) (contents_at link layout k)) (sym ready.owner_is) ∙ range)
      ∙ ap (λ (f : Fault). Some f) (sym (same_place k refuses.range lt) ∙ sym refuses.is)

  pub no_range_here : (base k : ℕ) (fields : List Fix) → k < length pieces → AreTheFields (planned_fixes link k) fields → All (λ fix. fits base (get_or layout.pieces.items k 0) layout owner (contents_at link layout k) fix ≡ true) fields → piece_range_fault link (rows_of sections) layout base k ≡ None
  no_range_here base k fields lt are all =
      let rva = get_or layout.pieces.items k 0 in
      ap (option_map (out_of_range (whole_piece link k))) (ap (λ (os : List ℕ). range_fault base rva layout os (planned_fixes link k) (contents_at link layout k)) (sym ready.owner_is) ∙ no_range_in_any_order base rva layout owner (planned_fixes link k) fields (contents_at link layout k) are all)

  -- a piece without fields has the bytes of its section, at each base
  pub nothing_linked : (base k : ℕ) (fields : List Fix) → k < length pieces → AreTheFields (planned_fixes link k) fields → ArePatchable (length (contents_at link layout k)) fields → length fields ≡ 0 → linked_bytes link (rows_of sections) layout base k ≡ contents_at link layout k
  nothing_linked base k fields lt are patchable none =
      sym (same_bytes base k fields lt are patchable)
      ∙ ap (λ (fs : List Fix). patched_bytes base (get_or layout.pieces.items k 0) layout owner fs (contents_at link layout k)) (nil_from_length fields none)
      ∙ nothing_patched base (get_or layout.pieces.items k 0) layout owner (contents_at link layout k)

  -- and no value out of range
  pub no_field : (base rva : ℕ) (bytes : List ℕ) (fields : List Fix) → length fields ≡ 0 → All (λ fix. fits base rva layout owner bytes fix ≡ true) fields
  no_field base rva bytes fields none = λ i d lt. absurd (omega (arith, lt, none))

  -- one with a field has bytes
  pub some_bytes : (k : ℕ) (fields : List Fix) → ArePatchable (length (contents_at link layout k)) fields → 0 < length fields → 0 < length (contents_at link layout k)
  some_bytes k fields patchable some =
      let each = patchable.each 0 (get_or fields 0 no_fix) some in
      let inside = within_at (length (contents_at link layout k)) (get_or fields 0 (get_or fields 0 no_fix)) each in
      let wide = each.some in
      omega (arith, inside, wide)

  pub initialised : (k : ℕ) → k < length pieces → 0 < length (contents_at link layout k) → ((get_or pieces k no_piece).init ≡ true) × (0 < (get_or pieces k no_piece).size)
  initialised k lt some = by (get_or pieces k no_piece) (ready.held k lt)
    where
      by : (piece : Piece) → IsHeld piece (contents_at link layout k) → (piece.init ≡ true) × (0 < piece.size)
      by piece held = go piece.init refl
        where
          go : (b : Bool) → piece.init ≡ b → (piece.init ≡ true) × (0 < piece.size)
          go true on = (on, omega (arith, some, held.filled on))
          go false off = absurd (omega (arith, some, held.empty off))
