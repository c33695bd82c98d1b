-- The fields that hold addresses, as they are listed, are all of a link, ascend and share no byte.
use Rattle.std.proofs.Common.{◌≡◌, ℕ, zero, suc, ◌+◌, ◌^◌, ◌<◌, ◌≤◌, Bool, true, false, cond, nat_lt, List, [], ◌∷◌, ◌++◌, length, get_or, filter, flat_map, refl, sym, ap, ◌∙◌, subst, inl, inr, arith}
use Rattle.std.specs.List.{All, Contains}
use Rattle.std.proofs.lemmas.List.Concat.{flat_map-append}
use Rattle.std.proofs.lemmas.List.Elements.{All-nil, All-append, All-map, All-filter, All-from_get_or, All-contains, filter_passes, Contains-get_or, Contains-append_left, Contains-append_right}
use Rattle.std.proofs.lemmas.List.Sorted.{All-permutation}
use Rattle.link_base.proofs.ListLemmas.{contains_map}
use Rattle.section_group.specs.declared.piece.Piece.{Piece}
use Rattle.section_group.specs.declared.piece.OutSection.{OutSection}
use Rattle.section_group.specs.SectionOrder.{no_piece}
use Rattle.address_layout.specs.declared.layout.Layout.{Layout}
use Rattle.address_layout.specs.Layout.{all_pieces, placed_at, StandOnce, HoldsArrangement}
use Rattle.address_layout.specs.Places.{row_at, piece_in, end_before}
use Rattle.address_layout.proofs.CallerLemmas.{places_ascend, piece_end_inside, all_ends_inside, stands_at, piece_stands}
use Rattle.base_reloc.specs.declared.field.BaseField.{BaseField}
use Rattle.relocate.specs.declared.fix.Fix.{Fix}
use Rattle.relocate.specs.Field.{field_end, has_field, no_fix, fix_at}
use Rattle.relocate.specs.PatchedBytes.{is_based}
use Rattle.relocate.proofs.CallerLemmas.{ends_within, based_width, among_fields}
use Rattle.link_pieces.specs.TablePieces.{KeptParts, whole_pieces}
use Rattle.link_plan.specs.Planned.{HaveFields, planned_fixes}
use Rattle.address_fields.specs.AddressFields.{base_field, Fits, fields_of, fields_at, section_fields, all_fields}
use Rattle.link_image.specs.BaseFields.{IsBaseField, AreBaseFields}
use Rattle.link_image.specs.LinkedBytes.{contents_at}
use Rattle.link_image.proofs.HeldLemmas.{patchable_at}
use Rattle.link_image.proofs.AscendLemmas.{Climb, climb_higher, climb_lower, climb_ascending, climb_apart, piece_climbs, section_climbs, all_climb, FieldsInside}

-- ---- lists

-- what holds of the elements that pass a test
all_passing : {X : Type 0} (test : X → Bool) (P : X → Type 0) (xs : List X) → All (λ x. test x ≡ true → P x) xs → All P (filter test xs)
all_passing test P xs all k d lt = All-filter test (λ x. test x ≡ true → P x) xs all k d lt (filter_passes test xs k d lt)

all_flat : {X A : Type 0} (P : A → Type 0) (f : X → List A) (xs : List X) → All (λ x. All P (f x)) xs → All P (flat_map f xs)
all_flat P f [] all = All-nil P
all_flat P f (x ∷ xs) all = All-append P (f x) (flat_map f xs) (λ k d lt. all 0 x (omega arith) k d lt) (all_flat P f xs (λ i d lt. all (suc i) d (omega arith)))

contains_flat : {X A : Type 0} (f : X → List A) (xs : List X) (x : X) (a : A) → Contains xs x → Contains (f x) a → Contains (flat_map f xs) a
contains_flat f [] x a there here = absurd (omega (arith, there.1))
contains_flat f (y ∷ xs) x a (zero, lt, is) here = Contains-append_left (f y) (flat_map f xs) a (subst (λ each. Contains (f each) a) (sym is) here)
contains_flat f (y ∷ xs) x a (suc k, lt, is) here = Contains-append_right (f y) (flat_map f xs) a (contains_flat f xs x a (k, omega (arith, lt), is) here)

contains_later : {X : Type 0} (passes : Bool) (y : X) (xs : List X) (x : X) → Contains xs x → Contains (cond passes (y ∷ xs) xs) x
contains_later true y xs x there = (suc there.0, omega (arith, there.1), there.2)
contains_later false y xs x there = there

contains_passing : {X : Type 0} (test : X → Bool) (xs : List X) (x : X) → Contains xs x → test x ≡ true → Contains (filter test xs) x
contains_passing test [] x there passes = absurd (omega (arith, there.1))
contains_passing test (y ∷ xs) x (zero, lt, is) passes =
    let here : test y ≡ true = ap test is ∙ passes in
    subst (λ (b : Bool). Contains (cond b (y ∷ filter test xs) (filter test xs)) x) (sym here) (0, omega arith, is)
contains_passing test (y ∷ xs) x (suc k, lt, is) passes =
    contains_later (test y) y (filter test xs) x (contains_passing test xs x (k, omega (arith, lt), is) passes)

-- the fields of all sections are those of all pieces that stand
fields_are : (rvas : List ℕ) (fixups : List (List Fix)) (sections : List OutSection) → all_fields rvas fixups sections ≡ flat_map (fields_at rvas fixups) (all_pieces sections)
unfolding all_fields section_fields
fields_are rvas fixups [] = refl
fields_are rvas fixups (s ∷ ss) =
    ap (λ (later : List BaseField). flat_map (fields_at rvas fixups) s.pieces.items ++ later) (fields_are rvas fixups ss)
    ∙ sym (flat_map-append (fields_at rvas fixups) s.pieces.items (all_pieces ss))

-- a relocation that holds an address has a field
has_its_field : (fix : Fix) → is_based fix ≡ true → has_field fix ≡ true
has_its_field fix based =
    elim (based_width fix based) [
      | inl wide ↦ ap (nat_lt 0) wide.1
      | inr narrow ↦ ap (nat_lt 0) narrow.1
    ]

-- ---- the fields of a link

module _ (link : KeptParts) (pieces : List Piece) (fixups : List (List Fix)) (sections : List OutSection) (reloc : Bool) (layout : Layout)
    (count : length pieces ≡ length (whole_pieces link))
    (fields : HaveFields link (length pieces) fixups)
    (sizes : (k : ℕ) → k < length pieces → length (contents_at link layout k) ≤ (get_or pieces k no_piece).size)
    (standing : HoldsArrangement pieces sections reloc layout)
    (once : StandOnce pieces sections)
    (stands : (k : ℕ) → k < length pieces → 0 < length (planned_fixes link k) → 0 < (get_or pieces k no_piece).size → Contains (all_pieces sections) k)
    (few : layout.image ≤ 2 ^ 31) where
  -- ---- a piece

  -- each field ends inside its piece
  end_inside : (k i : ℕ) → k < length pieces → i < length (get_or fixups k []) → field_end (fix_at (get_or fixups k []) i) ≤ (get_or pieces k no_piece).size
  end_inside k i lt within =
      let end = ends_within (length (contents_at link layout k)) (get_or fixups k []) i (patchable_at link layout fixups (length pieces) fields k lt) within in
      omega (arith, end, sizes k lt)

  -- a piece that has a field has a byte
  size_positive : (k i : ℕ) → k < length pieces → i < length (get_or fixups k []) → 0 < (get_or pieces k no_piece).size
  size_positive k i lt within =
      let some = ((patchable_at link layout fixups (length pieces) fields k lt).each i no_fix within).some in
      omega (arith, end_inside k i lt within, some)

  -- the fields of a piece lie in it, one after the other
  fields_inside : (k : ℕ) → k < length pieces → FieldsInside pieces layout.pieces.items fixups k
  fields_inside k lt =
      let rva = get_or layout.pieces.items k 0 in
      let len = length (contents_at link layout k) in
      let up = piece_climbs rva len 0 (get_or fixups k []) (patchable_at link layout fixups (length pieces) fields k lt) (omega arith) (λ i d within. omega arith) in
      climb_lower rva (rva + 0) (fields_at layout.pieces.items fixups k) (rva + (get_or pieces k no_piece).size) (omega arith)
      (climb_higher (rva + 0) (fields_at layout.pieces.items fixups k) (rva + len) (rva + (get_or pieces k no_piece).size) (omega (arith, sizes k lt)) up)

  -- ---- a piece that stands

  stands_below : (k : ℕ) → Contains (all_pieces sections) k → k < length pieces
  stands_below k there = All-contains (λ n. n < length pieces) (all_pieces sections) k once.within there

  -- one with bytes ends inside the image
  end_in_image : (k : ℕ) → Contains (all_pieces sections) k → 0 < (get_or pieces k no_piece).size → get_or layout.pieces.items k 0 + (get_or pieces k no_piece).size ≤ layout.image
  end_in_image k there some =
      let at = stands_at sections k there in
      let size : (piece_in pieces (row_at sections at.section) at.number).size ≡ (get_or pieces k no_piece).size = ap (λ (n : ℕ). (get_or pieces n no_piece).size) at.is in
      let place : get_or layout.pieces.items k 0 ≡ standing.place at.section at.number = ap (λ (n : ℕ). get_or layout.pieces.items n 0) (sym at.is) ∙ standing.written at.section at.number at.there at.within in
      let inside = piece_end_inside (standing.arranged.each at.section at.there) at.number at.within (omega (arith, some, size)) in
      let within = all_ends_inside pieces sections reloc layout at.section standing at.there in
      omega (arith, size, place, inside, within)

  fits : (k : ℕ) → Contains (all_pieces sections) k → Fits layout.pieces.items fixups k
  fits k there =
      let lt = stands_below k there in
      All-from_get_or (λ fix. get_or layout.pieces.items k 0 + fix.at < 2 ^ 32) (get_or fixups k []) no_fix
      (λ i within. omega (arith, few, end_in_image k there (size_positive k i lt within), end_inside k i lt within))

  -- the RVA of each field is a number of 32 bits
  pub all_fit : All (Fits layout.pieces.items fixups) (all_pieces sections)
  all_fit n d lt = fits (get_or (all_pieces sections) n d) (Contains-get_or (all_pieces sections) n d lt)

  -- ---- they ascend

  placed_below : (i j : ℕ) → i < length sections → j < length (row_at sections i).1 → get_or (row_at sections i).1 j 0 < length pieces
  placed_below i j lt within = stands_below (get_or (row_at sections i).1 j 0) (piece_stands sections i j lt within)

  row_climbs : (i : ℕ) → i < length sections → Climb (end_before layout.headers (placed_at layout.sections.items) i) (section_fields layout.pieces.items fixups (row_at sections i).1) (end_before layout.headers (placed_at layout.sections.items) (suc i))
  row_climbs i lt =
      let row = row_at sections i in
      let placed = placed_at layout.sections.items in
      let is = standing.arranged.each i lt in
      let low = end_before layout.headers placed i in
      section_climbs pieces layout.pieces.items fixups row.0 row.1 (standing.place i) (placed i).rva low ((placed i).rva + (placed i).size) is.start.above (omega (arith, is.start.above))
      (λ j within. standing.written i j lt within)
      (All-from_get_or (FieldsInside pieces layout.pieces.items fixups) row.1 0 (λ j within. fields_inside (get_or row.1 j 0) (placed_below i j lt within)))
      (places_ascend is)
      (piece_end_inside is)

  climbs : Climb layout.headers (all_fields layout.pieces.items fixups sections) (end_before layout.headers (placed_at layout.sections.items) (length sections))
  climbs = all_climb layout.pieces.items fixups sections (end_before layout.headers (placed_at layout.sections.items)) row_climbs

  -- ---- each is a field of a relocation that holds an address

  is_listed : (k : ℕ) → k < length pieces → All (IsBaseField link layout.pieces.items) (fields_at layout.pieces.items fixups k)
  is_listed k lt =
      let rva = get_or layout.pieces.items k 0 in
      let P : Fix → Type 0 = λ fix. is_based fix ≡ true → IsBaseField link layout.pieces.items (base_field rva fix) in
      let each : All P (planned_fixes link k) = All-from_get_or P (planned_fixes link k) no_fix (λ i within based. record {
        piece = k;
        index = i;
        there = omega (arith, count);
        within = within;
        based = based;
        is = refl;
      })
      in
      let kept : All P (get_or fixups k []) = All-permutation P (filter has_field (planned_fixes link k)) (get_or fixups k []) (fields.fields k lt) (All-filter has_field P (planned_fixes link k) each) in
      All-map (IsBaseField link layout.pieces.items) (base_field rva) (filter is_based (get_or fixups k []))
      (all_passing is_based (λ fix. IsBaseField link layout.pieces.items (base_field rva fix)) (get_or fixups k []) kept)

  listed : All (IsBaseField link layout.pieces.items) (all_fields layout.pieces.items fixups sections)
  listed =
      subst (All (IsBaseField link layout.pieces.items)) (sym (fields_are layout.pieces.items fixups sections))
      (all_flat (IsBaseField link layout.pieces.items) (fields_at layout.pieces.items fixups) (all_pieces sections)
      (λ n d lt. is_listed (get_or (all_pieces sections) n d) (once.within n d lt)))

  -- ---- and all of them are there

  contains_here : (k i : ℕ) → k < length pieces → i < length (planned_fixes link k) → is_based (fix_at (planned_fixes link k) i) ≡ true → Contains (fields_at layout.pieces.items fixups k) (base_field (get_or layout.pieces.items k 0) (fix_at (planned_fixes link k) i))
  contains_here k i lt within based =
      let rva = get_or layout.pieces.items k 0 in
      let kept = get_or fixups k [] in
      let P : Fix → Type 0 = λ fix. is_based fix ≡ true → Contains (fields_of rva kept) (base_field rva fix) in
      let each : All P kept = All-from_get_or P kept no_fix (λ n below here.
      contains_map (base_field rva) (filter is_based kept) (get_or kept n no_fix) (contains_passing is_based kept (get_or kept n no_fix) (Contains-get_or kept n no_fix below) here))
      in
      among_fields P (planned_fixes link k) kept i (fields.fields k lt) each within (has_its_field (fix_at (planned_fixes link k) i) based) based

  has_bytes : (k i : ℕ) → k < length pieces → i < length (planned_fixes link k) → is_based (fix_at (planned_fixes link k) i) ≡ true → 0 < (get_or pieces k no_piece).size
  has_bytes k i lt within based =
      let P : Fix → Type 0 = λ fix. 0 < (get_or pieces k no_piece).size in
      let each : All P (get_or fixups k []) = All-from_get_or P (get_or fixups k []) no_fix (λ n below. size_positive k n lt below) in
      among_fields P (planned_fixes link k) (get_or fixups k []) i (fields.fields k lt) each within (has_its_field (fix_at (planned_fixes link k) i) based)

  contained : (field : BaseField) → IsBaseField link layout.pieces.items field → Contains (all_fields layout.pieces.items fixups sections) field
  contained field at =
      let k = at.piece in
      let lt : k < length pieces = omega (arith, count, at.there) in
      let there = stands k lt (omega (arith, at.within)) (has_bytes k at.index lt at.within at.based) in
      let here = contains_here k at.index lt at.within at.based in
      subst (Contains (all_fields layout.pieces.items fixups sections)) (sym at.is)
      (subst (λ (all : List BaseField). Contains all (base_field (get_or layout.pieces.items k 0) (fix_at (planned_fixes link k) at.index))) (sym (fields_are layout.pieces.items fixups sections))
      (contains_flat (fields_at layout.pieces.items fixups) (all_pieces sections) k (base_field (get_or layout.pieces.items k 0) (fix_at (planned_fixes link k) at.index)) there here))

  pub base_fields_are : AreBaseFields link layout.pieces.items (all_fields layout.pieces.items fixups sections)
  base_fields_are =
      let all = all_fields layout.pieces.items fixups sections in
      let end = end_before layout.headers (placed_at layout.sections.items) (length sections) in
      record {
        ascending = climb_ascending layout.headers all end climbs;
        apart = climb_apart layout.headers all end climbs;
        listed = listed;
        all = contained;
      }
