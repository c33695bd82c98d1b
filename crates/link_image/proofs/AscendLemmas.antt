-- Fields one after the other: those of a piece, of the pieces of a section, and of all sections.
use Rattle.std.proofs.Common.{◌≡◌, ℕ, zero, suc, ◌+◌, ◌<◌, ◌≤◌, Bool, true, false, cond, eqb, List, [], ◌∷◌, ◌++◌, length, get_or, map, filter, refl, sym, ap, ◌∙◌, subst, inl, inr, arith}
use Rattle.std.specs.List.{All, AllPairs}
use Rattle.std.proofs.lemmas.Bool.{cases_lt}
use Rattle.std.proofs.lemmas.List.{get_or-map, length-map}
use Rattle.std.proofs.lemmas.List.Elements.{All-nil, All-cons, All-head, All-tail, All-weaker}
use Rattle.std.proofs.lemmas.List.Kept.{AllPairs-cons}
use Rattle.section_group.specs.declared.piece.Piece.{Piece}
use Rattle.section_group.specs.declared.piece.OutSection.{OutSection}
use Rattle.section_group.specs.SectionOrder.{no_piece}
use Rattle.address_layout.specs.Places.{row_at, piece_in, piece_end, piece_floor}
use Rattle.base_reloc.specs.declared.field.BaseField.{BaseField}
use Rattle.base_reloc.specs.Blocks.{width_of}
use Rattle.base_reloc.specs.PageBlocks.{IsAscending}
use Rattle.base_reloc.specs.Raising.{ShareNoByte}
use Rattle.relocate.specs.declared.fix.Fix.{Fix}
use Rattle.relocate.specs.Field.{field_width, field_end, no_fix}
use Rattle.relocate.specs.Judged.{IsPatchable, ArePatchable}
use Rattle.relocate.specs.PatchedBytes.{is_based}
use Rattle.relocate.proofs.CallerLemmas.{ends_within, based_width}
use Rattle.address_fields.specs.AddressFields.{base_field, fields_of, fields_at, section_fields, all_fields}

-- each field stands at or above the end of the one before it, the first at or above a low place, and the last ends at or
-- below a high place
unfoldable pub Climb : ℕ → List BaseField → ℕ → Type 0
Climb low [] high = low ≤ high
Climb low (field ∷ fields) high = (low ≤ field.rva) × Climb (field.rva + width_of field) fields high

-- ---- other ends

pub climb_lower : (low floor : ℕ) (fields : List BaseField) (high : ℕ) → low ≤ floor → Climb floor fields high → Climb low fields high
unfolding Climb
climb_lower low floor [] high le up = omega (arith, up)
climb_lower low floor (field ∷ fields) high le up = (omega (arith, up.0), up.1)

pub climb_higher : (low : ℕ) (fields : List BaseField) (high top : ℕ) → high ≤ top → Climb low fields high → Climb low fields top
unfolding Climb
climb_higher low [] high top le up = omega (arith, up)
climb_higher low (field ∷ fields) high top le up = (up.0, climb_higher (field.rva + width_of field) fields high top le up.1)

pub climb_ends : (low : ℕ) (fields : List BaseField) (high : ℕ) → Climb low fields high → low ≤ high
unfolding Climb
climb_ends low [] high up = up
climb_ends low (field ∷ fields) high up = omega (arith, up.0, climb_ends (field.rva + width_of field) fields high up.1)

pub climb_both : (low middle high : ℕ) (first second : List BaseField) → Climb low first middle → Climb middle second high → Climb low (first ++ second) high
unfolding Climb
climb_both low middle high [] second up above = climb_lower low middle second high up above
climb_both low middle high (field ∷ fields) second up above = (up.0, climb_both (field.rva + width_of field) middle high fields second up.1 above)

-- ---- a field has a byte

width_positive : (field : BaseField) → 0 < width_of field
width_positive field = by field.wide
  where
    by : (wide : Bool) → 0 < cond wide 8 4
    by true = omega arith
    by false = omega arith

-- where there is no room there is no field
pub climb_nothing : (low : ℕ) (fields : List BaseField) → Climb low fields low → fields ≡ []
unfolding Climb
climb_nothing low [] up = refl
climb_nothing low (field ∷ fields) up =
    let end = climb_ends (field.rva + width_of field) fields low up.1 in
    absurd (omega (arith, up.0, end, width_positive field))

-- ---- what a climb says of its fields

climb_above : (low : ℕ) (fields : List BaseField) (high : ℕ) → Climb low fields high → All (λ field. low ≤ field.rva) fields
unfolding Climb
climb_above low [] high up = All-nil (λ field. low ≤ field.rva)
climb_above low (field ∷ fields) high up =
    All-cons (λ each. low ≤ each.rva) field fields up.0
    (All-weaker (λ each. field.rva + width_of field ≤ each.rva) (λ each. low ≤ each.rva) (λ each above. omega (arith, up.0, above)) fields (climb_above (field.rva + width_of field) fields high up.1))

-- each ends before every later one begins
abbrev EndsBefore : BaseField → BaseField → Type 0
EndsBefore first second = first.rva + width_of first ≤ second.rva

climb_pairs : (low : ℕ) (fields : List BaseField) (high : ℕ) → Climb low fields high → AllPairs EndsBefore fields
unfolding Climb
climb_pairs low [] high up = λ i j d lt within. absurd (omega arith)
climb_pairs low (field ∷ fields) high up =
    AllPairs-cons EndsBefore field fields (climb_above (field.rva + width_of field) fields high up.1) (climb_pairs (field.rva + width_of field) fields high up.1)

pub climb_ascending : (low : ℕ) (fields : List BaseField) (high : ℕ) → Climb low fields high → IsAscending fields
climb_ascending low fields high up k lt =
    let inside : k + 1 < length fields = omega (arith, lt, length-map fields (λ (field : BaseField). field.rva)) in
    let none : BaseField = record { rva = 0; wide = false } in
    let first = get_or-map (λ (field : BaseField). field.rva) fields k none 0 (omega arith) in
    let second = get_or-map (λ (field : BaseField). field.rva) fields (k + 1) none 0 inside in
    let ends = climb_pairs low fields high up k (k + 1) none (omega arith) inside in
    omega (arith, first, second, ends, width_positive (get_or fields k none))

pub climb_apart : (low : ℕ) (fields : List BaseField) (high : ℕ) → Climb low fields high → ShareNoByte fields
climb_apart low fields high up j k d lt within = inl (climb_pairs low fields high up j k d lt within)

-- ---- the fields of a piece

width_is : (rva : ℕ) (fix : Fix) → is_based fix ≡ true → width_of (base_field rva fix) ≡ field_width fix.kind
width_is rva fix based =
    elim (based_width fix based) [
      | inl wide ↦ ap (λ (kind : ℕ). cond (eqb kind 1) 8 4) wide.0 ∙ sym wide.1
      | inr narrow ↦ ap (λ (kind : ℕ). cond (eqb kind 1) 8 4) narrow.0 ∙ sym narrow.1
    ]

patchable_tail : (len : ℕ) (fix : Fix) (fixups : List Fix) → ArePatchable len (fix ∷ fixups) → ArePatchable len fixups
patchable_tail len fix fixups patchable = record {
  each = All-tail (IsPatchable len) fix fixups patchable.each;
  apart = λ i j d lt within. patchable.apart (suc i) (suc j) d (omega arith) (omega arith);
}

-- with one more relocation in front
piece_step : (rva len low : ℕ) (fix : Fix) (fixups : List Fix) → low ≤ fix.at → Climb (rva + field_end fix) (fields_of rva fixups) (rva + len) → Climb (rva + low) (fields_of rva (fix ∷ fixups)) (rva + len)
unfolding Climb
piece_step rva len low fix fixups first rest = by (is_based fix) refl
  where
    by : (based : Bool) → is_based fix ≡ based → Climb (rva + low) (map (base_field rva) (cond based (fix ∷ filter is_based fixups) (filter is_based fixups))) (rva + len)
    by true e = (omega (arith, first), climb_lower (rva + fix.at + width_of (base_field rva fix)) (rva + field_end fix) (fields_of rva fixups) (rva + len) (omega (arith, width_is rva fix e)) rest)
    by false e = climb_lower (rva + low) (rva + field_end fix) (fields_of rva fixups) (rva + len) (omega (arith, first)) rest

pub piece_climbs : (rva len low : ℕ) (fixups : List Fix) → ArePatchable len fixups → low ≤ len → All (λ fix. low ≤ fix.at) fixups → Climb (rva + low) (fields_of rva fixups) (rva + len)
unfolding Climb
piece_climbs rva len low [] patchable le above = omega (arith, le)
piece_climbs rva len low (fix ∷ fixups) patchable le above =
    piece_step rva len low fix fixups (above 0 no_fix (omega arith))
    (piece_climbs rva len (field_end fix) fixups (patchable_tail len fix fixups patchable) (ends_within len (fix ∷ fixups) 0 patchable (omega arith)) (λ k d lt. patchable.apart 0 (suc k) d (omega arith) (omega arith)))

-- ---- the pieces of a section

-- each piece stands at or above the end of the one before it
abbrev pub Rise : List Piece → List ℕ → List ℕ → (ℕ → ℕ) → ℕ → Type 0
Rise pieces name indexes place start =
    (j : ℕ) → j < length indexes → piece_floor pieces (name, indexes) start place j ≤ place j

rise_on : (pieces : List Piece) (name : List ℕ) (k : ℕ) (indexes : List ℕ) (place : ℕ → ℕ) (start : ℕ) → Rise pieces name (k ∷ indexes) place start → Rise pieces name indexes (λ j. place (suc j)) (place 0 + (get_or pieces k no_piece).size)
rise_on pieces name k indexes place start up zero lt = up (suc zero) (omega arith)
rise_on pieces name k indexes place start up (suc j) lt = up (suc (suc j)) (omega arith)

-- a piece that has bytes ends at or below an end
abbrev pub EndBelow : List Piece → List ℕ → List ℕ → (ℕ → ℕ) → ℕ → Type 0
EndBelow pieces name indexes place end =
    (j : ℕ) → j < length indexes → 0 < (piece_in pieces (name, indexes) j).size → piece_end pieces (name, indexes) place j ≤ end

-- the fields of a piece lie in it
abbrev pub FieldsInside : List Piece → List ℕ → List (List Fix) → ℕ → Type 0
FieldsInside pieces rvas fixups k =
    Climb (get_or rvas k 0) (fields_at rvas fixups k) (get_or rvas k 0 + (get_or pieces k no_piece).size)

-- with one more piece in front; one that has no bytes has no fields
section_step : (pieces : List Piece) (rvas : List ℕ) (fixups : List (List Fix)) (k : ℕ) (indexes : List ℕ) (low end : ℕ) → low ≤ get_or rvas k 0 → low ≤ end → FieldsInside pieces rvas fixups k → (0 < (get_or pieces k no_piece).size → get_or rvas k 0 + (get_or pieces k no_piece).size ≤ end) → ((floor : ℕ) → floor ≤ get_or rvas k 0 + (get_or pieces k no_piece).size → floor ≤ end → Climb floor (section_fields rvas fixups indexes) end) → Climb low (section_fields rvas fixups (k ∷ indexes)) end
unfolding section_fields
section_step pieces rvas fixups k indexes low end first fits own last rest =
    let rva = get_or rvas k 0 in
    let size = (get_or pieces k no_piece).size in
    let here = fields_at rvas fixups k in
    elim (cases_lt 0 size) [
      | inl some ↦
          climb_both low (rva + size) end here (section_fields rvas fixups indexes) (climb_lower low rva here (rva + size) first own) (rest (rva + size) (omega arith) (last some))
      | inr none ↦
          let same : rva + size ≡ rva = omega (arith, none) in
          let nothing : here ≡ [] = climb_nothing rva here (subst (Climb rva here) same own) in
          subst (λ (front : List BaseField). Climb low (front ++ section_fields rvas fixups indexes) end) (sym nothing) (rest low (omega (arith, first)) fits)
    ]

pub section_climbs : (pieces : List Piece) (rvas : List ℕ) (fixups : List (List Fix)) (name indexes : List ℕ) (place : ℕ → ℕ) (start low end : ℕ) → low ≤ start → low ≤ end → ((j : ℕ) → j < length indexes → get_or rvas (get_or indexes j 0) 0 ≡ place j) → All (FieldsInside pieces rvas fixups) indexes → Rise pieces name indexes place start → EndBelow pieces name indexes place end → Climb low (section_fields rvas fixups indexes) end
unfolding Climb section_fields
section_climbs pieces rvas fixups name [] place start low end below fits same inside up ends = fits
section_climbs pieces rvas fixups name (k ∷ indexes) place start low end below fits same inside up ends =
    let here : get_or rvas k 0 ≡ place 0 = same 0 (omega arith) in
    let first : start ≤ place 0 = up 0 (omega arith) in
    section_step pieces rvas fixups k indexes low end (omega (arith, here, first)) fits (All-head (FieldsInside pieces rvas fixups) k indexes inside)
    (λ some. omega (arith, here, ends 0 (omega arith) some))
    (λ floor le under. section_climbs pieces rvas fixups name indexes (λ j. place (suc j)) (place 0 + (get_or pieces k no_piece).size) floor end (omega (arith, here, le)) under (λ j lt. same (suc j) (omega arith)) (All-tail (FieldsInside pieces rvas fixups) k indexes inside) (rise_on pieces name k indexes place start up) (λ j lt some. ends (suc j) (omega arith) some))

-- ---- all sections

pub all_climb : (rvas : List ℕ) (fixups : List (List Fix)) (sections : List OutSection) (floor : ℕ → ℕ) → ((i : ℕ) → i < length sections → Climb (floor i) (section_fields rvas fixups (row_at sections i).1) (floor (suc i))) → Climb (floor 0) (all_fields rvas fixups sections) (floor (length sections))
unfolding Climb all_fields
all_climb rvas fixups [] floor each = omega arith
all_climb rvas fixups (s ∷ ss) floor each =
    climb_both (floor 0) (floor 1) (floor (length (s ∷ ss))) (section_fields rvas fixups s.pieces.items) (all_fields rvas fixups ss) (each 0 (omega arith))
    (all_climb rvas fixups ss (λ i. floor (suc i)) (λ i lt. each (suc i) (omega arith)))
