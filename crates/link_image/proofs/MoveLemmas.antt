-- The contents of the pieces of a link at two bases: the fields that hold addresses move with the base, and no other byte
-- depends on it.
use Rattle.std.proofs.Common.{◌≡◌, ℕ, ◌+◌, ◌*◌, ◌%◌, ◌^◌, ◌<◌, ◌≤◌, Bool, true, false, cond, List, [], ◌++◌, length, length-append, get_or, slice_index, eqb, Option, Some, inl, inr, refl, sym, ap, ◌∙◌, subst, arith}
use Rattle.std.specs.List.{All}
use Rattle.std.proofs.lemmas.Bool.{cases_lt, false≢true}
use Rattle.std.proofs.lemmas.List.{length-map, get_or_append_left, get_or-append_right}
use Rattle.std.proofs.lemmas.List.Elements.{All-from_get_or}
use Rattle.link_base.specs.Bytes.{number_at, number_bytes}
use Rattle.section_group.specs.declared.piece.Piece.{Piece}
use Rattle.section_group.specs.declared.piece.OutSection.{OutSection}
use Rattle.section_group.specs.BarePieces.{bare}
use Rattle.section_group.specs.SectionOrder.{no_piece}
use Rattle.section_group.specs.Uniqueness.{SectionRow, rows_of}
use Rattle.address_layout.specs.declared.layout.Layout.{Layout}
use Rattle.address_layout.specs.Layout.{all_pieces}
use Rattle.base_reloc.specs.declared.field.BaseField.{BaseField}
use Rattle.base_reloc.specs.Blocks.{width_of}
use Rattle.base_reloc.specs.Raising.{IsOutside, IsOutsideAll}
use Rattle.pe_loader.specs.LoadedImage.{base_delta}
use Rattle.relocate.specs.declared.fix.Fix.{Fix}
use Rattle.relocate.specs.Field.{field_width, field_end, no_fix, fix_at}
use Rattle.relocate.specs.Judged.{AreTheFields, ArePatchable}
use Rattle.relocate.specs.Value.{IsOutside as IsOutsideFix}
use Rattle.relocate.specs.PatchedBytes.{is_based}
use Rattle.relocate.proofs.OrderLemmas.{IsAmong}
use Rattle.relocate.proofs.CallerLemmas.{bytes_moved, byte_stays, ends_within, based_width, field_among, among_fields}
use Rattle.image_writer.specs.WrittenImage.{HaveRoom}
use Rattle.image_writer.specs.MovedContents.{HaveOneLength, IsMoved, AreMoved}
use Rattle.image_writer.specs.PieceInFile.{piece_at}
use Rattle.pdata_table.specs.Rows.{HasWholeRows}
use Rattle.pdata_table.specs.SortedContents.{joined, is_among, sorted_contents}
use Rattle.pdata_table.proofs.CallerLemmas.{length-sorted_at, sorted_agree}
use Rattle.link_pieces.specs.TablePieces.{KeptParts, whole_pieces}
use Rattle.link_plan.specs.Planned.{planned_fixes, HaveFields}
use Rattle.link_plan.proofs.CallerLemmas.{plan_count}
use Rattle.piece_bytes.specs.Owners.{section_of}
use Rattle.address_fields.specs.AddressFields.{base_field}
use Rattle.link_image.specs.BaseFields.{holds_address, IsBaseField, AreBaseFields}
use Rattle.link_image.specs.LinkedBytes.{owners_in, contents_at, placed_contents, linked_bytes, linked_contents, image_contents, with_bytes}
use Rattle.link_image.specs.NamedSections.{pdata_pieces}
use Rattle.link_image.specs.Steps.{IsHeld, IsReady}
use Rattle.link_image.proofs.HeldLemmas.{patchable_at, have_room_for, length-placed, placed_read, placed_held}
use Rattle.link_image.proofs.UsedLemmas.{fields_used}
use Rattle.link_image.proofs.StandsLemmas.{OwnerAt, owner_at}
use Rattle.link_image.proofs.SortLemmas.{joined_whole}
use Rattle.link_image.proofs.IdentityLemmas.{other_read, length_with, byte_with, IsReplaced}
use Rattle.link_image.proofs.PieceMoves.{linked_read, length_linked, length_sorted, front_read, piece_read, table_read, length_piece, based_some, based_has_field, piece_stays, image_stays}

-- ---- a field that holds an address

-- the bytes of a number and a delta stand in new bytes where the number stands in old ones
abbrev AreRaised : List ℕ → List ℕ → ℕ → ℕ → ℕ → Type 0
AreRaised old new delta at width =
    (t : ℕ) → t < width → slice_index new (at + t) ≡ slice_index (number_bytes width ((number_at width old at + delta) % 2 ^ (8 * width))) t

-- a field that holds an address ends inside the old bytes, and is raised
abbrev RaisesFix : List ℕ → List ℕ → ℕ → Fix → Type 0
RaisesFix old new delta fix =
    is_based fix ≡ true → (field_end fix ≤ length old) × AreRaised old new delta fix.at (field_width fix.kind)

width_is : (rva : ℕ) (fix : Fix) → is_based fix ≡ true → width_of (base_field rva fix) ≡ field_width fix.kind
width_is rva fix based =
    elim (based_width fix based) [
      | inl wide ↦ ap (λ (kind : ℕ). cond (eqb kind 1) 8 4) wide.0 ∙ sym wide.1
      | inr narrow ↦ ap (λ (kind : ℕ). cond (eqb kind 1) 8 4) narrow.0 ∙ sym narrow.1
    ]

outside_fix : (rva t : ℕ) (fix : Fix) → is_based fix ≡ true → IsOutside (rva + t) (base_field rva fix) → IsOutsideFix t fix
outside_fix rva t fix based (inl before) = inl (omega (arith, before))
outside_fix rva t fix based (inr behind) = inr (let w = width_is rva fix based in omega (arith, behind, w))

-- ---- what is ready

module _ (link : KeptParts) (pieces : List Piece) (fixups : List (List Fix)) (sections : List OutSection) (layout : Layout) (owner : List ℕ) (tables : List (List ℕ)) (ready : IsReady link pieces fixups sections layout owner tables) where
  abbrev rows : List SectionRow
  rows = rows_of sections

  abbrev count : ℕ
  count = length (whole_pieces link)

  abbrev contents : ℕ → List (List ℕ)
  contents base = image_contents link rows layout tables base

  abbrev bytes_of : ℕ → ℕ → List ℕ
  bytes_of base k = linked_bytes link rows layout base k

  count_is : length pieces ≡ count
  count_is = sym (length-map pieces bare) ∙ ap (λ (ps : List Piece). length ps) ready.pieces_are ∙ plan_count ready.options link

  abbrev linked : ℕ → List (List ℕ)
  linked base = linked_contents link rows layout base

  abbrev table_pieces : List ℕ
  table_pieces = pdata_pieces rows

  linked_at : (base k : ℕ) → k < count → length (get_or (linked base) k []) ≡ length (contents_at link layout k)
  linked_at base k lt = ap length (linked_read link rows layout base k lt) ∙ length_piece link rows layout base k

  -- the exception table has whole rows
  pub rows_whole : (base : ℕ) → HasWholeRows (joined (linked base) table_pieces)
  rows_whole base =
      joined_whole (linked base) table_pieces (λ k among.
      let row = ready.rows_are k among in
      ap (λ (n : ℕ). n % 12) (linked_at base k (omega (arith, row.there, count_is))) ∙ row.rows)

  length_at : (base k : ℕ) → k < count → length (get_or (contents base) k []) ≡ length (contents_at link layout k)
  length_at base k lt =
      ap length (front_read link rows layout base tables k lt)
      ∙ length-sorted_at table_pieces (linked base) k (omega (arith, lt, length_linked link rows layout base)) (rows_whole base)
      ∙ linked_at base k lt

  -- each piece and each table has one length
  pub one_length : HaveOneLength contents
  one_length base other k =
      elim (cases_lt k count) [
        | inl lt ↦ length_at base k lt ∙ sym (length_at other k lt)
        | inr le ↦ ap length (table_read link rows layout base tables k le) ∙ sym (ap length (table_read link rows layout other tables k le))
      ]

  -- ---- room

  length_held : (base k : ℕ) → length (get_or (contents base) k []) ≡ length (get_or (placed_contents link layout ++ tables) k [])
  length_held base k =
      let placed = length-placed link layout in
      elim (cases_lt k count) [
        | inl lt ↦
            length_at base k lt
            ∙ sym (ap length (placed_read link layout k lt))
            ∙ sym (ap length (get_or_append_left (placed_contents link layout) tables [] k (omega (arith, lt, placed))))
        | inr le ↦
            ap length (table_read link rows layout base tables k le)
            ∙ sym (ap length (get_or-append_right (placed_contents link layout) tables count k [] placed le))
      ]

  -- the contents have their room at each base
  pub contents_room : (base : ℕ) → HaveRoom (pieces ++ ready.rest) sections (contents base)
  contents_room base =
      have_room_for pieces ready.rest sections (placed_contents link layout) tables (contents base) (length-placed link layout ∙ sym count_is) (placed_held link layout pieces count_is ready.held) ready.holds ready.laid.within (length_held base)

  -- ---- fields

  have : HaveFields link (length (whole_pieces link)) fixups
  have = subst (λ (n : ℕ). HaveFields link n fixups) count_is ready.fields

  are_fields : (k : ℕ) → k < count → AreTheFields (planned_fixes link k) (get_or fixups k [])
  are_fields k lt = have.fields k lt

  are_patchable : (k : ℕ) → k < count → ArePatchable (length (contents_at link layout k)) (get_or fixups k [])
  are_patchable k lt = patchable_at link layout fixups count have k lt

  -- so the contents are the same at each base
  pub contents_stay : holds_address link ≡ false → (base other : ℕ) → contents base ≡ contents other
  contents_stay = image_stays link fixups rows layout have tables

  -- ---- fields that hold addresses

  read_at : (base k place : ℕ) → place ≡ k → k < count → is_among k table_pieces ≡ false → get_or (contents base) place [] ≡ bytes_of base k
  read_at base k place is lt other = ap (λ (j : ℕ). get_or (contents base) j []) is ∙ piece_read link rows layout base tables k lt other

  -- a piece with a field that holds an address is none of the exception table
  based_apart : (k i : ℕ) → i < length (planned_fixes link k) → is_based (fix_at (planned_fixes link k) i) ≡ true → is_among k table_pieces ≡ false
  based_apart k i within based = by (is_among k table_pieces) refl
    where
      by : (b : Bool) → is_among k (pdata_pieces (rows_of sections)) ≡ b → b ≡ false
      by false e = refl
      by true among =
          let none = (ready.rows_are k among).unbased i no_fix within (based_has_field (fix_at (planned_fixes link k) i) based) in
          absurd (false≢true (sym none ∙ based))

  -- the pieces of the exception table hold the same at each base
  rows_stay : (own base k : ℕ) → k < count → is_among k table_pieces ≡ true → get_or (contents base) k [] ≡ get_or (contents own) k []
  rows_stay own base k lt among =
      front_read link rows layout base tables k lt
      ∙ sorted_agree table_pieces (linked base) (linked own) k (omega (arith, lt, length_linked link rows layout base)) (omega (arith, lt, length_linked link rows layout own)) (λ p there.
      let row = ready.rows_are p there in
      let within : p < count = omega (arith, row.there, count_is) in
      linked_read link rows layout base p within
      ∙ piece_stays link fixups rows layout have base own p within row.unbased
      ∙ sym (linked_read link rows layout own p within))
      among
      ∙ sym (front_read link rows layout own tables k lt)

  -- a piece with a field has bytes, so it stands in a section
  stands_at : (k : ℕ) → k < count → 0 < length (planned_fixes link k) → 0 < length (contents_at link layout k) → OwnerAt sections k
  stands_at k lt field some =
      let within : k < length pieces = omega (arith, lt, count_is) in
      owner_at sections k (ready.stands k within (fields_used ready.options link k ready.kept_are field) (inl (sized (get_or pieces k no_piece) (ready.held k within))))
    where
      sized : (piece : Piece) → IsHeld piece (contents_at link layout k) → 0 < piece.size
      sized piece held = by piece.init refl
        where
          by : (b : Bool) → piece.init ≡ b → 0 < piece.size
          by true on = omega (arith, some, held.filled on)
          by false off = absurd (omega (arith, some, held.empty off))

  module _ (own base : ℕ) (low : own < 2 ^ 64) where
    abbrev delta : ℕ
    delta = base_delta own base

    -- each judged field of a piece is raised, so each field of its relocations is
    judged_raised : (k : ℕ) → k < count → All (RaisesFix (bytes_of own k) (bytes_of base k) delta) (get_or fixups k [])
    judged_raised k lt =
        All-from_get_or (RaisesFix (bytes_of own k) (bytes_of base k) delta) (get_or fixups k []) no_fix (λ i within based. (
          let end = ends_within (length (contents_at link layout k)) (get_or fixups k []) i (are_patchable k lt) within in omega (arith, end, length_piece link rows layout own k),
          bytes_moved own base (get_or layout.pieces.items k 0) layout (owners_in rows layout) (planned_fixes link k) (get_or fixups k []) (contents_at link layout k) (are_fields k lt) (are_patchable k lt) low i within based,
        ))

    fix_raised : (k i : ℕ) → k < count → i < length (planned_fixes link k) → RaisesFix (bytes_of own k) (bytes_of base k) delta (fix_at (planned_fixes link k) i)
    fix_raised k i lt within based =
        among_fields (RaisesFix (bytes_of own k) (bytes_of base k) delta) (planned_fixes link k) (get_or fixups k []) i (are_fields k lt) (judged_raised k lt) within (based_has_field (fix_at (planned_fixes link k) i) based) based

    field_moved : (field : BaseField) → (here : IsBaseField link layout.pieces.items field) → (moved : IsMoved sections layout (contents own) (contents base) delta field) × (piece_at sections moved.section moved.number ≡ here.piece)
    field_moved field here =
        let k = here.piece in
        let fix : Fix = fix_at (planned_fixes link k) here.index in
        let raised = fix_raised k here.index here.there here.within here.based in
        let some : 0 < field_width fix.kind = based_some fix here.based in
        let end = raised.0 in
        let at : OwnerAt sections k = stands_at k here.there (omega (arith, here.within)) (omega (arith, some, end, length_piece link rows layout own k)) in
        let place = piece_at sections (section_of rows k) at.number in
        let apart = based_apart k here.index here.within here.based in
        let was = read_at own k place at.is here.there apart in
        let is = read_at base k place at.is here.there apart in
        let width : width_of field ≡ field_width fix.kind = ap width_of here.is ∙ width_is (get_or layout.pieces.items k 0) fix here.based in (
          record {
            section = section_of rows k;
            number = at.number;
            at = fix.at;
            there = at.there;
            below = at.within;
            is = ap (λ (f : BaseField). f.rva) here.is ∙ ap (λ (j : ℕ). get_or layout.pieces.items j 0 + fix.at) (sym at.is);
            inside = let len = ap (λ (bs : List ℕ). length bs) was in omega (arith, width, len, end);
            raised = subst (AreRaised (get_or (contents own) place []) (get_or (contents base) place []) delta fix.at) (sym width)
                (subst (λ (old : List ℕ). AreRaised old (get_or (contents base) place []) delta fix.at (field_width fix.kind)) (sym was)
                (subst (λ (new : List ℕ). AreRaised (bytes_of own k) new delta fix.at (field_width fix.kind)) (sym is) raised.1));
          },
          at.is,
        )

    module _ (fields : List BaseField) (are : AreBaseFields link layout.pieces.items fields) where
      -- a byte outside all fields is in no judged field that holds an address
      outside_judged : (k t : ℕ) → k < count → IsOutsideAll (get_or layout.pieces.items k 0 + t) fields → (i : ℕ) → i < length (get_or fixups k []) → is_based (fix_at (get_or fixups k []) i) ≡ true → IsOutsideFix t (fix_at (get_or fixups k []) i)
      unfolding IsAmong
      outside_judged k t lt outside i within based =
          let rva = get_or layout.pieces.items k 0 in
          let fix : Fix = fix_at (get_or fixups k []) i in
          let among = (field_among (planned_fixes link k) (get_or fixups k []) i (are_fields k lt) within).1 in
          let field : BaseField = base_field rva fix in
          let listed = are.all field (record {
            piece = k;
            index = among.0;
            there = lt;
            within = among.1;
            based = ap is_based among.2 ∙ based;
            is = ap (base_field rva) (sym among.2);
          }) in
          outside_fix rva t fix based (subst (IsOutside (rva + t)) listed.2 (outside listed.0 field listed.1))

      others_stay : (k t : ℕ) → IsOutsideAll (get_or layout.pieces.items k 0 + t) fields → slice_index (get_or (contents base) k []) t ≡ slice_index (get_or (contents own) k []) t
      others_stay k t outside =
          elim (cases_lt k count) [
            | inl lt ↦ by (is_among k table_pieces) refl lt
            | inr le ↦ ap (λ (bs : List ℕ). slice_index bs t) (table_read link rows layout base tables k le ∙ sym (table_read link rows layout own tables k le))
          ]
        where
          by : (b : Bool) → is_among k (pdata_pieces (rows_of sections)) ≡ b → k < length (whole_pieces link) → slice_index (get_or (image_contents link (rows_of sections) layout tables base) k []) t ≡ slice_index (get_or (image_contents link (rows_of sections) layout tables own) k []) t
          by true among lt = ap (λ (bs : List ℕ). slice_index bs t) (rows_stay own base k lt among)
          by false other lt =
              ap (λ (bs : List ℕ). slice_index bs t) (piece_read link (rows_of sections) layout base tables k lt other)
              ∙ byte_stays own base (get_or layout.pieces.items k 0) layout (owners_in (rows_of sections) layout) (planned_fixes link k) (get_or fixups k []) (contents_at link layout k) (are_fields k lt) (are_patchable k lt) t (outside_judged k t lt outside)
              ∙ sym (ap (λ (bs : List ℕ). slice_index bs t) (piece_read link (rows_of sections) layout own tables k lt other))

  -- the fields that hold addresses are moved, and no other byte is
  pub contents_moved : (own base : ℕ) (fields : List BaseField) → own < 2 ^ 64 → AreBaseFields link layout.pieces.items fields → AreMoved sections layout (contents own) (contents base) (base_delta own base) fields
  contents_moved own base fields low are = record {
    each = λ n d lt. (field_moved own base low (get_or fields n d) (are.listed n d lt)).0;
    stays = λ k t outside lt. others_stay own base low fields are k t outside;
  }

  -- ---- with other bytes in the place of a piece without fields

  module _ (place : Option ℕ) (bytes : List ℕ) (fits : (d : ℕ) → place ≡ Some d → IsReplaced link layout bytes d) where
    abbrev replaced : ℕ → List (List ℕ)
    replaced base = with_bytes place bytes (image_contents link (rows_of sections) layout tables base)

    inside : (base d : ℕ) → place ≡ Some d → d < length (contents base)
    inside base d is = omega (arith, (fits d is).there, length-append (sorted_contents (pdata_pieces rows) (linked base)) tables, length_sorted link rows layout base)

    length_replaced : (base k : ℕ) → length (get_or (replaced base) k []) ≡ length (get_or (contents base) k [])
    length_replaced base k =
        length_with place bytes (contents base) (λ d is. (inside base d is, (fits d is).long ∙ sym (length_at base d (fits d is).there))) k

    pub replaced_length : HaveOneLength replaced
    replaced_length base other k = length_replaced base k ∙ one_length base other k ∙ sym (length_replaced other k)

    pub replaced_room : (base : ℕ) → HaveRoom (pieces ++ ready.rest) sections (replaced base)
    replaced_room base = λ i d lt.
        let room = contents_room base i d lt in
        let len = length_replaced base (get_or (all_pieces sections) i d) in
        (omega (arith, room.0, len), λ some. room.1 (omega (arith, some, len)))

    pub replaced_stay : holds_address link ≡ false → (base other : ℕ) → replaced base ≡ replaced other
    replaced_stay none base other = ap (with_bytes place bytes) (contents_stay none base other)

    moved_with : (own base delta : ℕ) (field : BaseField) (moved : IsMoved sections layout (contents own) (contents base) delta field) → (place ≡ Some (piece_at sections moved.section moved.number) → ⊥) → IsMoved sections layout (replaced own) (replaced base) delta field
    moved_with own base delta field moved apart =
        let k = piece_at sections moved.section moved.number in
        let was = other_read place bytes (contents own) k apart in
        let is = other_read place bytes (contents base) k apart in
        record {
          section = moved.section;
          number = moved.number;
          at = moved.at;
          there = moved.there;
          below = moved.below;
          is = moved.is;
          inside = omega (arith, moved.inside, ap (λ (bs : List ℕ). length bs) was);
          raised = λ t lt.
              ap (λ (bs : List ℕ). slice_index bs (moved.at + t)) is
              ∙ moved.raised t lt
              ∙ ap (λ (bs : List ℕ). slice_index (number_bytes (width_of field) ((number_at (width_of field) bs moved.at + delta) % 2 ^ (8 * width_of field))) t) (sym was);
        }

    pub replaced_moved : (own base : ℕ) (fields : List BaseField) → own < 2 ^ 64 → AreBaseFields link layout.pieces.items fields → AreMoved sections layout (replaced own) (replaced base) (base_delta own base) fields
    replaced_moved own base fields low are = record {
      each = λ n d lt.
          let here = are.listed n d lt in
          let moved = field_moved own base low (get_or fields n d) here in
          moved_with own base (base_delta own base) (get_or fields n d) moved.0 (λ is.
          omega (arith, here.within, ap (λ (fixes : List Fix). length fixes) (fits here.piece (is ∙ ap Some moved.1)).fixed));
      stays = λ k t outside lt. byte_with place bytes (contents own) (contents base) k t (λ d is. (inside own d is, inside base d is)) (others_stay own base low fields are k t outside);
    }
