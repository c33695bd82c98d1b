-- The bytes of a piece at two bases: the fields that hold addresses move with the base, and no other byte depends on it.
use Rattle.std.proofs.Common.{◌≡◌, ℕ, ◌+◌, ◌-◌, ◌*◌, ◌%◌, ◌^◌, ◌<◌, ◌≤◌, Bool, true, false, List, [], ◌++◌, length, get_or, slice_index, inl, inr, refl, sym, ap, ◌∙◌, subst, lt-ltb, arith}
use Rattle.std.specs.List.{list_any, range_with_len}
use Rattle.std.proofs.lemmas.Bool.{false≢true}
use Rattle.std.proofs.lemmas.List.{get_or_append_left, get_or-append_right, ext_get_or}
use Rattle.std.proofs.lemmas.List.Elements.{All-from_get_or}
use Rattle.std.proofs.lemmas.List.Folds.{list_any_at}
use Rattle.std.proofs.lemmas.List.FromFn.{get_or-range_with_len, length-range_with_len, get_or-map-range_with_len, length-map-range_with_len}
use Rattle.link_base.specs.Bytes.{number_at}
use Rattle.section_group.specs.Uniqueness.{SectionRow}
use Rattle.address_layout.specs.declared.layout.Layout.{Layout}
use Rattle.pe_loader.specs.LoadedImage.{base_delta}
use Rattle.relocate.specs.declared.fix.Fix.{Fix}
use Rattle.relocate.specs.Field.{field_width, has_field, no_fix, fix_at}
use Rattle.relocate.specs.Judged.{AreTheFields, ArePatchable}
use Rattle.relocate.specs.Value.{IsOutside as IsOutsideFix}
use Rattle.relocate.specs.PatchedBytes.{is_based, HaveNoBased}
use Rattle.relocate.proofs.OrderLemmas.{IsAmong}
use Rattle.relocate.proofs.CallerLemmas.{length_patched, bytes_stay, fields_suited, field_moved, byte_stays, based_width, field_among, among_fields}
use Rattle.pdata_table.specs.SortedContents.{is_among, sorted_contents}
use Rattle.pdata_table.proofs.CallerLemmas.{length-sorted, sorted_beside}
use Rattle.link_pieces.specs.TablePieces.{KeptParts, whole_pieces}
use Rattle.link_plan.specs.Planned.{planned_fixes, HaveFields}
use Rattle.link_image.specs.NamedSections.{pdata_pieces}
use Rattle.link_image.specs.BaseFields.{piece_holds_address, holds_address}
use Rattle.link_image.specs.LinkedBytes.{owners_in, contents_at, linked_bytes, linked_contents, image_contents}
use Rattle.link_image.proofs.HeldLemmas.{patchable_at}

-- ---- the contents of a piece and a table

module _ (link : KeptParts) (rows : List SectionRow) (layout : Layout) (base : ℕ) where
  abbrev total : ℕ
  total = length (whole_pieces link)

  abbrev linked : List (List ℕ)
  linked = linked_contents link rows layout base

  pub linked_read : (k : ℕ) → k < total → get_or linked k [] ≡ linked_bytes link rows layout base k
  unfolding linked_contents
  linked_read k lt = get_or-map-range_with_len (linked_bytes link rows layout base) 0 total k k [] lt (omega arith)

  pub length_linked : length linked ≡ total
  unfolding linked_contents
  length_linked = length-map-range_with_len (linked_bytes link rows layout base) 0 total

  -- with the rows of the exception table in order
  abbrev sorted : List (List ℕ)
  sorted = sorted_contents (pdata_pieces rows) linked

  pub length_sorted : length sorted ≡ total
  length_sorted = length-sorted (pdata_pieces rows) linked ∙ length_linked

  pub front_read : (tables : List (List ℕ)) (k : ℕ) → k < total → get_or (image_contents link rows layout tables base) k [] ≡ get_or sorted k []
  front_read tables k lt = get_or_append_left sorted tables [] k (omega (arith, lt, length_sorted))

  -- a piece that is none of it
  pub piece_read : (tables : List (List ℕ)) (k : ℕ) → k < total → is_among k (pdata_pieces rows) ≡ false → get_or (image_contents link rows layout tables base) k [] ≡ linked_bytes link rows layout base k
  piece_read tables k lt other =
      front_read tables k lt ∙ sorted_beside (pdata_pieces rows) linked k (omega (arith, lt, length_linked)) other ∙ linked_read k lt

  pub table_read : (tables : List (List ℕ)) (k : ℕ) → total ≤ k → get_or (image_contents link rows layout tables base) k [] ≡ get_or tables (k - total) []
  table_read tables k le = get_or-append_right sorted tables total k [] length_sorted le

  pub length_piece : (k : ℕ) → length (linked_bytes link rows layout base k) ≡ length (contents_at link layout k)
  length_piece k = length_patched base (get_or layout.pieces.items k 0) layout (owners_in rows layout) (planned_fixes link k) (contents_at link layout k)

-- ---- a test that nothing passes

not_any : {A : Type 0} (test : A → Bool) (xs : List A) (i : ℕ) (d : A) → list_any test xs ≡ false → i < length xs → test (get_or xs i d) ≡ false
not_any test xs i d none lt = by (test (get_or xs i d)) refl
  where
    by : (b : Bool) → test (get_or xs i d) ≡ b → b ≡ false
    by false e = refl
    by true e = absurd (false≢true (sym none ∙ list_any_at test xs i d lt e))

-- ---- a field that holds an address

pub based_some : (fix : Fix) → is_based fix ≡ true → 0 < field_width fix.kind
based_some fix based =
    elim (based_width fix based) [
      | inl wide ↦ let w = wide.1 in omega (arith, w)
      | inr narrow ↦ let w = narrow.1 in omega (arith, w)
    ]

pub based_has_field : (fix : Fix) → is_based fix ≡ true → has_field fix ≡ true
based_has_field fix based = lt-ltb 0 (field_width fix.kind) (based_some fix based)

-- ---- judged fields

module _ (link : KeptParts) (fixups : List (List Fix)) (rows : List SectionRow) (layout : Layout) (have : HaveFields link (length (whole_pieces link)) fixups) where
  abbrev count : ℕ
  count = length (whole_pieces link)

  abbrev bytes_of : ℕ → ℕ → List ℕ
  bytes_of base k = linked_bytes link rows layout base k

  -- ---- no field holds an address

  holds_none : holds_address link ≡ false → (k : ℕ) → k < count → piece_holds_address link k ≡ false
  unfolding holds_address
  holds_none none k lt =
      let n = length-range_with_len 0 count in
      let at : get_or (range_with_len 0 count) k 0 ≡ k = get_or-range_with_len 0 count k 0 lt ∙ omega arith in
      ap (piece_holds_address link) (sym at) ∙ not_any (piece_holds_address link) (range_with_len 0 count) k 0 none (omega (arith, lt, n))

  none_based : holds_address link ≡ false → (k : ℕ) → k < count → HaveNoBased (planned_fixes link k)
  none_based none k lt = λ i d within some. not_any is_based (planned_fixes link k) i d (holds_none none k lt) within

  pub are_fields : (k : ℕ) → k < count → AreTheFields (planned_fixes link k) (get_or fixups k [])
  are_fields k lt = have.fields k lt

  pub are_patchable : (k : ℕ) → k < count → ArePatchable (length (contents_at link layout k)) (get_or fixups k [])
  are_patchable k lt = patchable_at link layout fixups count have k lt

  -- a piece of whose fields none holds an address
  pub piece_stays : (base other k : ℕ) → k < count → HaveNoBased (planned_fixes link k) → bytes_of base k ≡ bytes_of other k
  piece_stays base other k lt none =
      bytes_stay false false base other (get_or layout.pieces.items k 0) layout (owners_in rows layout) (planned_fixes link k) (contents_at link layout k)
      (fields_suited (planned_fixes link k) (get_or fixups k []) (length (contents_at link layout k)) (are_fields k lt) (are_patchable k lt))
      none

  pub linked_stay : holds_address link ≡ false → (base other : ℕ) → linked_contents link rows layout base ≡ linked_contents link rows layout other
  linked_stay none base other =
      ext_get_or [] (linked_contents link rows layout base) (linked_contents link rows layout other) (length_linked link rows layout base ∙ sym (length_linked link rows layout other)) (λ k lt.
      let within : k < count = omega (arith, lt, length_linked link rows layout base) in
      linked_read link rows layout base k within ∙ piece_stays base other k within (none_based none k within) ∙ sym (linked_read link rows layout other k within))

  -- so all contents are the same at each base, those of the tables too
  pub image_stays : (tables : List (List ℕ)) → holds_address link ≡ false → (base other : ℕ) → image_contents link rows layout tables base ≡ image_contents link rows layout tables other
  image_stays tables none base other = ap (λ (cs : List (List ℕ)). sorted_contents (pdata_pieces rows) cs ++ tables) (linked_stay none base other)

  -- ---- fields that hold addresses

  -- the number in a field is moved where the field holds an address
  abbrev MovesFix : ℕ → ℕ → ℕ → Fix → Type 0
  MovesFix own base k fix =
      is_based fix ≡ true
      → number_at (field_width fix.kind) (bytes_of base k) fix.at ≡ (number_at (field_width fix.kind) (bytes_of own k) fix.at + base_delta own base) % 2 ^ (8 * field_width fix.kind)

  pub fix_moves : (own base : ℕ) → own < 2 ^ 64 → (k i : ℕ) → k < count → i < length (planned_fixes link k) → MovesFix own base k (fix_at (planned_fixes link k) i)
  fix_moves own base low k i lt within based =
      among_fields (MovesFix own base k) (planned_fixes link k) (get_or fixups k []) i (are_fields k lt)
      (All-from_get_or (MovesFix own base k) (get_or fixups k []) no_fix (λ j inside. field_moved own base (get_or layout.pieces.items k 0) layout (owners_in rows layout) (planned_fixes link k) (get_or fixups k []) (contents_at link layout k) (are_fields k lt) (are_patchable k lt) low j inside))
      within (based_has_field (fix_at (planned_fixes link k) i) based) based

  -- a byte of no such field is the same
  pub byte_kept : (own base k t : ℕ) → k < count → ((i : ℕ) → i < length (planned_fixes link k) → is_based (fix_at (planned_fixes link k) i) ≡ true → IsOutsideFix t (fix_at (planned_fixes link k) i)) → slice_index (bytes_of base k) t ≡ slice_index (bytes_of own k) t
  unfolding IsAmong
  byte_kept own base k t lt outside =
      byte_stays own base (get_or layout.pieces.items k 0) layout (owners_in rows layout) (planned_fixes link k) (get_or fixups k []) (contents_at link layout k) (are_fields k lt) (are_patchable k lt) t (λ j inside based.
      let among = (field_among (planned_fixes link k) (get_or fixups k []) j (are_fields k lt) inside).1 in
      subst (IsOutsideFix t) among.2 (outside among.0 among.1 (ap is_based among.2 ∙ based)))
