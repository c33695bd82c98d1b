-- The fields that hold addresses, as they are listed piece by piece and section by section.
use Rattle.std.proofs.Common.{◌≡◌, ℕ, ◌+◌, ◌<◌, List, [], ◌∷◌, ◌++◌, length, take, get_or, append_assoc, append-nil, sym, ap, ◌∙◌, subst}
use Rattle.std.proofs.Math.Numerals.{suc-eq-add-one}
use Rattle.std.specs.List.{All, flat_map}
use Rattle.std.proofs.Math.Seq.{take-suc}
use Rattle.std.proofs.lemmas.Grind.{flat_map-append}
use Rattle.section_group.specs.declared.piece.OutSection.{OutSection}
use Rattle.base_reloc.specs.declared.field.BaseField.{BaseField}
use Rattle.relocate.specs.declared.fix.Fix.{Fix}
use Rattle.address_fields.specs.AddressFields.{Fits, fields_of, fields_at, section_fields, all_fields}

-- one piece more
pub section_more : (rvas : List ℕ) (fixups : List (List Fix)) (indexes : List ℕ) (n : ℕ) (rva : ℕ) (fixes : List Fix) (before start after : List BaseField) → n < length indexes
    → rva ≡ get_or rvas (get_or indexes n 0) 0 → fixes ≡ get_or fixups (get_or indexes n 0) []
    → before ≡ start ++ section_fields rvas fixups (take n indexes) → after ≡ before ++ fields_of rva fixes → after ≡ start ++ section_fields rvas fixups (take (n + 1) indexes)
unfolding section_fields
section_more rvas fixups indexes n rva fixes before start after lt at read was is =
    let f = fields_at rvas fixups in
    let k = get_or indexes n 0 in
    is
    ∙ ap (λ (xs : List BaseField). xs ++ fields_of rva fixes) was
    ∙ append_assoc start (flat_map f (take n indexes)) (fields_of rva fixes)
    ∙ ap (λ (xs : List BaseField). start ++ (flat_map f (take n indexes) ++ xs)) (ap (λ (r : ℕ). fields_of r fixes) at ∙ ap (fields_of (get_or rvas k 0)) read ∙ sym (append-nil (fields_at rvas fixups k)))
    ∙ ap (λ (xs : List BaseField). start ++ xs) (sym (flat_map-append f (take n indexes) (k ∷ [])) ∙ ap (flat_map f) (sym (take-suc indexes n 0 lt) ∙ ap (λ (m : ℕ). take m indexes) (suc-eq-add-one n)))

-- one section more
pub all_more : (rvas : List ℕ) (fixups : List (List Fix)) (sections : List OutSection) (n : ℕ) (section : OutSection) (before after : List BaseField) → n < length sections
    → section ≡ get_or sections n section
    → before ≡ all_fields rvas fixups (take n sections) → after ≡ before ++ section_fields rvas fixups section.pieces.items → after ≡ all_fields rvas fixups (take (n + 1) sections)
unfolding all_fields
all_more rvas fixups sections n section before after lt read was is =
    let f : OutSection → List BaseField = λ s. section_fields rvas fixups s.pieces.items in
    is
    ∙ ap (λ (xs : List BaseField). xs ++ f section) was
    ∙ ap (λ (xs : List BaseField). flat_map f (take n sections) ++ xs) (ap f read ∙ sym (append-nil (f (get_or sections n section))))
    ∙ sym (flat_map-append f (take n sections) (get_or sections n section ∷ []))
    ∙ ap (flat_map f) (sym (take-suc sections n section lt) ∙ ap (λ (m : ℕ). take m sections) (suc-eq-add-one n))

-- the fields of a piece fit
pub fit_here : (rvas : List ℕ) (fixups : List (List Fix)) (indexes : List ℕ) (n : ℕ) (fixes : List Fix) → n < length indexes → All (Fits rvas fixups) indexes → fixes ≡ get_or fixups (get_or indexes n 0) [] → All (λ fix. get_or rvas (get_or indexes n 0) 0 + fix.at < 4294967296) fixes
fit_here rvas fixups indexes n fixes lt fit read =
    subst (λ (fs : List Fix). All (λ fix. get_or rvas (get_or indexes n 0) 0 + fix.at < 4294967296) fs) (sym read) (fit n 0 lt)
