-- The bytes of fields that are raised, and that they settle a memory.
use Rattle.std.proofs.Common.{◌≡◌, ℕ, zero, suc, ◌+◌, ◌-◌, ◌*◌, ◌%◌, ◌^◌, ◌<◌, ◌≤◌, false, List, [], ◌∷◌, ◌++◌, length, take, drop, slice_index, get_or, sym, ap, ◌∙◌, inl, inr, arith, subst}
use Rattle.std.proofs.Math.Nat.{add-sub_of_le}
use Rattle.std.proofs.lemmas.Grind.{same_number_lists}
use Rattle.std.proofs.lemmas.List.{get_or_append_left, get_or-drop, drop_at, length-take-le}
use Rattle.link_base.specs.Bytes.{number_at, number_bytes}
use Rattle.link_base.proofs.CallerLemmas.{length-number_bytes}
use Rattle.link_base.proofs.PutLemmas.{number_at-same}
use Rattle.base_reloc.specs.declared.field.BaseField.{BaseField}
use Rattle.base_reloc.specs.Blocks.{width_of, raised, raised_all}
use Rattle.base_reloc.specs.PageBlocks.{LieWithin}
use Rattle.base_reloc.specs.Raising.{IsOutsideAll, ShareNoByte, HoldRaisedBytes}
use Rattle.base_reloc.proofs.RaisedLemmas.{raised_outside, length_raised_all, raised_elsewhere, inside_more, outside_first, outside_second}
use Rattle.base_reloc.proofs.SettledLemmas.{OfOne, of_one}

-- ---- one field

put_inside : (at end t : ℕ) (new bytes : List ℕ) → at ≤ length bytes → t < length new → slice_index (take at bytes ++ (new ++ drop end bytes)) (at + t) ≡ slice_index new t
put_inside at end t new bytes le lt =
    sym (get_or-drop at (take at bytes ++ (new ++ drop end bytes)) t 0)
    ∙ ap (λ (xs : List ℕ). slice_index xs t) (drop_at (take at bytes) (new ++ drop end bytes) at (length-take-le at bytes le))
    ∙ get_or_append_left new (drop end bytes) 0 t lt

raised_inside : (delta : ℕ) (memory : List ℕ) (field : BaseField) (t : ℕ) → field.rva + width_of field ≤ length memory → t < width_of field → slice_index (raised delta memory field) (field.rva + t) ≡ slice_index (number_bytes (width_of field) ((number_at (width_of field) memory field.rva + delta) % 2 ^ (8 * width_of field))) t
unfolding number_bytes
raised_inside delta memory field t le lt =
    let number = (number_at (width_of field) memory field.rva + delta) % 2 ^ (8 * width_of field) in
    put_inside field.rva (field.rva + width_of field) t (number_bytes (width_of field) number) memory (omega arith) (omega (arith, length-number_bytes (width_of field) number))

-- ---- all fields

-- each field holds the bytes of its number and the delta, where no two share a byte
pub raised_bytes : (delta : ℕ) (memory : List ℕ) (fields : List BaseField) → LieWithin (length memory) fields → ShareNoByte fields → HoldRaisedBytes delta memory (raised_all delta memory fields) fields
raised_bytes delta memory [] inside apart k d t lt low = absurd (omega arith)
raised_bytes delta memory (field ∷ others) inside apart zero d t lt low =
    raised_elsewhere delta (raised delta memory field) others (field.rva + t) (inside_more delta memory field others inside) (λ k e less. outside_second field (get_or others k e) (field.rva + t) (apart 0 (suc k) e (omega arith) (omega arith)) (omega arith) (omega arith))
    ∙ raised_inside delta memory field t (inside 0 field (omega arith)) low
raised_bytes delta memory (field ∷ others) inside apart (suc k) d t lt low =
    let other : BaseField = get_or others k d in
    raised_bytes delta (raised delta memory field) others (inside_more delta memory field others inside) (λ i j e a b. apart (suc i) (suc j) e (omega arith) (omega arith)) k d t (omega arith) low
    ∙ ap (λ (n : ℕ). slice_index (number_bytes (width_of other) ((n + delta) % 2 ^ (8 * width_of other))) t) (number_at-same (width_of other) other.rva (raised delta memory field) memory (λ i from to. raised_outside delta memory field i (inside 0 field (omega arith)) (outside_first field other i (apart 0 (suc k) d (omega arith) (omega arith)) from to)))

-- a memory in which no other byte differs is the raised one
pub raised_by_bytes : (fields : List BaseField) (old new : List ℕ) (delta : ℕ) → length new ≡ length old → LieWithin (length old) fields → ShareNoByte fields → ((rva : ℕ) → IsOutsideAll rva fields → slice_index new rva ≡ slice_index old rva) → HoldRaisedBytes delta old new fields → raised_all delta old fields ≡ new
unfolding OfOne
raised_by_bytes fields old new delta len within apart elsewhere each =
    let made = raised_all delta old fields in
    let long = length_raised_all delta old fields within in
    same_number_lists made new (long ∙ sym len) (λ rva lt.
    elim (of_one rva fields) [
      | inr none ↦ raised_elsewhere delta old fields rva within none ∙ sym (elsewhere rva none)
      | inl found ↦
          let k = found.0 in
          let blank : BaseField = record { rva = 0; wide = false } in
          let field = get_or fields k blank in
          let low = found.1.1.0 blank in
          let high = found.1.1.1 blank in
          let at : field.rva + (rva - field.rva) ≡ rva = add-sub_of_le low in
          let t : rva - field.rva < width_of field = omega (arith, low, high) in
          subst (λ (i : ℕ). slice_index made i ≡ slice_index new i) at
          (raised_bytes delta old fields within apart k blank (rva - field.rva) found.1.0 t ∙ sym (each k blank (rva - field.rva) found.1.0 t))
    ])
