-- What raising fields leaves of a memory.
use Rattle.std.proofs.Common.{◌≡◌, ℕ, zero, suc, ◌+◌, ◌*◌, ◌%◌, ◌^◌, ◌<◌, ◌≤◌, Bool, true, false, cond, List, [], ◌∷◌, ◌++◌, length, take, drop, get_or, slice_index, refl, sym, ap, ◌∙◌, inl, inr, arith}
use Rattle.std.proofs.Math.Nat.{mod-lt}
use Rattle.byteorder.specs.Endian.{little_bytes}
use Rattle.link_base.specs.Bytes.{number_at, number_bytes}
use Rattle.link_base.proofs.CallerLemmas.{length-number_bytes}
use Rattle.link_base.proofs.PutLemmas.{put_over, length-put_over, put_before, put_after, number_put, number_at-same}
use Rattle.base_reloc.specs.declared.field.BaseField.{BaseField}
use Rattle.base_reloc.specs.Blocks.{width_of, raised, raised_all}
use Rattle.base_reloc.specs.Raising.{IsOutside, IsOutsideAll, ArePartedBy, ShareNoByte, AreRaised}
use Rattle.base_reloc.proofs.TableLemmas.{Inside}

-- ---- one field

length-little_bytes : (width number : ℕ) → length (little_bytes width number) ≡ width
unfolding number_bytes
length-little_bytes width number = length-number_bytes width number

-- what a field holds when it is raised
raised_number : ℕ → List ℕ → BaseField → ℕ
raised_number delta memory field = (number_at (width_of field) memory field.rva + delta) % 2 ^ (8 * width_of field)

raised_put : (delta : ℕ) (memory : List ℕ) (field : BaseField) → raised delta memory field ≡ put_over field.rva (little_bytes (width_of field) (raised_number delta memory field)) memory
unfolding raised_number
raised_put delta memory field =
    ap (λ (k : ℕ). take field.rva memory ++ (little_bytes (width_of field) (raised_number delta memory field) ++ drop (field.rva + k) memory)) (sym (length-little_bytes (width_of field) (raised_number delta memory field)))

raised_room : (delta : ℕ) (memory : List ℕ) (field : BaseField) → field.rva + width_of field ≤ length memory → field.rva + length (little_bytes (width_of field) (raised_number delta memory field)) ≤ length memory
raised_room delta memory field le = omega (arith, length-little_bytes (width_of field) (raised_number delta memory field))

pub length-raised : (delta : ℕ) (memory : List ℕ) (field : BaseField) → field.rva + width_of field ≤ length memory → length (raised delta memory field) ≡ length memory
length-raised delta memory field le =
    ap length (raised_put delta memory field) ∙ length-put_over field.rva (little_bytes (width_of field) (raised_number delta memory field)) memory (raised_room delta memory field le)

pub raised_outside : (delta : ℕ) (memory : List ℕ) (field : BaseField) (i : ℕ) → field.rva + width_of field ≤ length memory → IsOutside i field → slice_index (raised delta memory field) i ≡ slice_index memory i
raised_outside delta memory field i le outside =
    let bytes : List ℕ = little_bytes (width_of field) (raised_number delta memory field) in
    let len = length-little_bytes (width_of field) (raised_number delta memory field) in
    let room = raised_room delta memory field le in
    ap (λ (xs : List ℕ). slice_index xs i) (raised_put delta memory field)
    ∙ elim outside [ inl lt ↦ put_before field.rva i bytes memory room lt | inr ge ↦ put_after field.rva i bytes memory room (omega (arith, len, ge)) ]

number_fits : (n : ℕ) (b : Bool) → n % 2 ^ (8 * cond b 8 4) < 256 ^ cond b 8 4
number_fits n true = mod-lt n (omega arith)
number_fits n false = mod-lt n (omega arith)

pub raised_holds : (delta : ℕ) (memory : List ℕ) (field : BaseField) → field.rva + width_of field ≤ length memory → number_at (width_of field) (raised delta memory field) field.rva ≡ (number_at (width_of field) memory field.rva + delta) % 2 ^ (8 * width_of field)
unfolding raised_number number_bytes
raised_holds delta memory field le =
    let number = raised_number delta memory field in
    ap (λ (xs : List ℕ). number_at (width_of field) xs field.rva) (raised_put delta memory field)
    ∙ number_put field.rva (width_of field) number memory (raised_room delta memory field le) (number_fits (number_at (width_of field) memory field.rva + delta) field.wide)

-- ---- all fields

pub inside_more : (delta : ℕ) (memory : List ℕ) (field : BaseField) (others : List BaseField) → Inside (length memory) (field ∷ others) → Inside (length (raised delta memory field)) others
inside_more delta memory field others inside k d lt =
    let len = length-raised delta memory field (inside 0 field (omega arith)) in
    let there = inside (suc k) d (omega arith) in
    omega (arith, len, there)

pub length_raised_all : (delta : ℕ) (memory : List ℕ) (fields : List BaseField) → Inside (length memory) fields → length (raised_all delta memory fields) ≡ length memory
length_raised_all delta memory [] inside = refl
length_raised_all delta memory (field ∷ others) inside =
    length_raised_all delta (raised delta memory field) others (inside_more delta memory field others inside) ∙ length-raised delta memory field (inside 0 field (omega arith))

-- a byte of no field stays
pub raised_elsewhere : (delta : ℕ) (memory : List ℕ) (fields : List BaseField) (i : ℕ) → Inside (length memory) fields → IsOutsideAll i fields → slice_index (raised_all delta memory fields) i ≡ slice_index memory i
raised_elsewhere delta memory [] i inside outside = refl
raised_elsewhere delta memory (field ∷ others) i inside outside =
    raised_elsewhere delta (raised delta memory field) others i (inside_more delta memory field others inside) (λ k d lt. outside (suc k) d (omega arith))
    ∙ raised_outside delta memory field i (inside 0 field (omega arith)) (outside 0 field (omega arith))

-- the bytes of a field are outside another that is parted from it
pub outside_second : (first second : BaseField) (i : ℕ) → ArePartedBy first second → first.rva ≤ i → i < first.rva + width_of first → IsOutside i second
outside_second first second i parted low high = elim parted [ inl before ↦ inl (omega arith) | inr behind ↦ inr (omega arith) ]

pub outside_first : (first second : BaseField) (i : ℕ) → ArePartedBy first second → second.rva ≤ i → i < second.rva + width_of second → IsOutside i first
outside_first first second i parted low high = elim parted [ inl before ↦ inr (omega arith) | inr behind ↦ inl (omega arith) ]

-- each field is raised where no two share a byte
pub raised_each : (delta : ℕ) (memory : List ℕ) (fields : List BaseField) → Inside (length memory) fields → ShareNoByte fields → AreRaised delta memory (raised_all delta memory fields) fields
raised_each delta memory [] inside apart k d lt = absurd (omega arith)
raised_each delta memory (field ∷ others) inside apart zero d lt =
    number_at-same (width_of field) field.rva (raised_all delta (raised delta memory field) others) (raised delta memory field) (λ i low high. raised_elsewhere delta (raised delta memory field) others i (inside_more delta memory field others inside) (λ k e less. outside_second field (get_or others k e) i (apart 0 (suc k) e (omega arith) (omega arith)) low high))
    ∙ raised_holds delta memory field (inside 0 field (omega arith))
raised_each delta memory (field ∷ others) inside apart (suc k) d lt =
    let other : BaseField = get_or others k d in
    let less : k < length others = omega arith in
    raised_each delta (raised delta memory field) others (inside_more delta memory field others inside) (λ i j e a b. apart (suc i) (suc j) e (omega arith) (omega arith)) k d less
    ∙ ap (λ (n : ℕ). (n + delta) % 2 ^ (8 * width_of other)) (number_at-same (width_of other) other.rva (raised delta memory field) memory (λ i low high. raised_outside delta memory field i (inside 0 field (omega arith)) (outside_first field other i (apart 0 (suc k) d (omega arith) (omega arith)) low high)))
