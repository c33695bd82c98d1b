-- The memory of a layout at another base is its own with the fields raised that hold addresses, where each of these lies in a
-- piece and no other byte of a piece depends on the base.
use Rattle.std.proofs.Common.{◌≡◌, ℕ, ◌+◌, ◌*◌, ◌%◌, ◌^◌, ◌<◌, Bool, true, false, cond, List, [], length, get_or, slice_index, drop, sym, ap, ◌∙◌, subst, arith}
use Rattle.std.proofs.lemmas.List.{get_or-drop}
use Rattle.link_base.specs.Bytes.{bytes_at, number_at, number_bytes}
use Rattle.link_base.proofs.CallerLemmas.{number_at-drop}
use Rattle.link_base.proofs.PutLemmas.{number_at-same}
use Rattle.section_group.specs.declared.piece.Piece.{Piece}
use Rattle.section_group.specs.declared.piece.OutSection.{OutSection}
use Rattle.address_layout.specs.declared.layout.Layout.{Layout}
use Rattle.address_layout.specs.Places.{row_at}
use Rattle.base_reloc.specs.declared.field.BaseField.{BaseField}
use Rattle.base_reloc.specs.Blocks.{width_of, raised_all}
use Rattle.base_reloc.specs.PageBlocks.{LieWithin}
use Rattle.base_reloc.specs.Raising.{IsOutsideAll, ShareNoByte, HoldRaisedBytes}
use Rattle.base_reloc.proofs.CallerLemmas.{raised_by_bytes}
use Rattle.image_writer.specs.declared.headers.Headers.{Headers}
use Rattle.image_writer.specs.ExpectedImage.{expected_image}
use Rattle.image_writer.specs.WrittenImage.{layout_plan, HaveRoom, IsLaidOut}
use Rattle.image_writer.specs.MovedContents.{AreMoved}
use Rattle.image_writer.specs.PieceInFile.{piece_at}
use Rattle.image_writer.proofs.PatchLemmas.{bytes_are}
use Rattle.image_writer.proofs.MemoryLemmas.{length_memory, piece_inside_memory, piece_in_memory, same_in_memory}

module _ (headers : Headers) (pieces : List Piece) (sections : List OutSection) (layout : Layout) (contents : ℕ → List (List ℕ)) (out : IsLaidOut pieces sections layout) where
  abbrev memory : ℕ → List ℕ
  memory base = expected_image (layout_plan headers sections layout contents) base

  -- the bytes of a piece stand in the memory
  pub bytes_in_memory : (base i j : ℕ) → HaveRoom pieces sections (contents base) → i < length sections → j < length (row_at sections i).1 → bytes_at (memory base) (get_or layout.pieces.items (piece_at sections i j) 0) (length (get_or (contents base) (piece_at sections i j) [])) ≡ get_or (contents base) (piece_at sections i j) []
  bytes_in_memory base i j room there below =
      bytes_are (memory base) (get_or layout.pieces.items (piece_at sections i j) 0) (get_or (contents base) (piece_at sections i j) [])
      (λ some. let at = piece_inside_memory headers pieces sections layout contents out base room i j there below some in omega (arith, at.high, length_memory headers pieces sections layout contents out base))
      (λ t inside. piece_in_memory headers pieces sections layout contents out base room i j t there below inside)

  module _ (base other delta : ℕ) (room : HaveRoom pieces sections (contents base)) (other_room : HaveRoom pieces sections (contents other)) (same : (k : ℕ) → length (get_or (contents other) k []) ≡ length (get_or (contents base) k [])) (fields : List BaseField) (moved : AreMoved sections layout (contents base) (contents other) delta fields) where
    blank : BaseField
    blank = record { rva = 0; wide = false }

    -- a field lies in a piece, so it lies in the memory
    within : LieWithin layout.image fields
    within n d lt =
        let at = moved.each n d lt in
        let k = piece_at sections at.section at.number in
        let some : 0 < width_of (get_or fields n d) = positive (get_or fields n d) in
        let here = piece_inside_memory headers pieces sections layout contents out base room at.section at.number at.there at.below (omega (arith, at.inside, some)) in
        omega (arith, at.is, at.inside, here.high)
      where
        positive : (field : BaseField) → 0 < width_of field
        positive field = go field.wide
          where
            go : (b : Bool) → 0 < cond b 8 4
            go true = omega arith
            go false = omega arith

    pub lie_within : LieWithin layout.image fields
    lie_within = within

    -- its number in the memory is that in its piece
    number_here : (n : ℕ) (d : BaseField) (lt : n < length fields) → number_at (width_of (get_or fields n d)) (memory base) (get_or fields n d).rva ≡ number_at (width_of (get_or fields n d)) (get_or (contents base) (piece_at sections (moved.each n d lt).section (moved.each n d lt).number) []) (moved.each n d lt).at
    number_here n d lt =
        let field = get_or fields n d in
        let at = moved.each n d lt in
        let k = piece_at sections at.section at.number in
        let start = get_or layout.pieces.items k 0 in
        ap (number_at (width_of field) (memory base)) at.is
        ∙ sym (number_at-drop (width_of field) start at.at (memory base))
        ∙ number_at-same (width_of field) at.at (drop start (memory base)) (get_or (contents base) k []) (λ t low high. get_or-drop start (memory base) t 0 ∙ piece_in_memory headers pieces sections layout contents out base room at.section at.number t at.there at.below (omega (arith, high, at.inside)))

    hold : HoldRaisedBytes delta (memory base) (memory other) fields
    hold n d t lt low =
        let field = get_or fields n d in
        let at = moved.each n d lt in
        let k = piece_at sections at.section at.number in
        let start = get_or layout.pieces.items k 0 in
        ap (slice_index (memory other)) (moved_on field.rva start at.at t at.is)
        ∙ piece_in_memory headers pieces sections layout contents out other other_room at.section at.number (at.at + t) at.there at.below (omega (arith, low, at.inside, same k))
        ∙ at.raised t low
        ∙ ap (λ (x : ℕ). slice_index (number_bytes (width_of field) ((x + delta) % 2 ^ (8 * width_of field))) t) (sym (number_here n d lt))
      where
        moved_on : (rva start at t : ℕ) → rva ≡ start + at → rva + t ≡ start + (at + t)
        moved_on rva start at t e = omega (arith, e)

    pub moved_memory : ShareNoByte fields → memory other ≡ raised_all delta (memory base) fields
    moved_memory apart =
        let len = length_memory headers pieces sections layout contents out in
        sym (raised_by_bytes fields (memory base) (memory other) delta (len other ∙ sym (len base)) (subst (λ (n : ℕ). LieWithin n fields) (sym (len base)) within) apart
        (λ rva outside. same_in_memory headers pieces sections layout contents out base other rva (λ k. record {
          same_length = same k;
          same_byte = λ t at inside. moved.stays k t (subst (λ (r : ℕ). IsOutsideAll r fields) (sym at) outside) inside;
        }))
        hold)
