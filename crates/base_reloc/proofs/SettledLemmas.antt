-- A memory is another with its fields raised, where each field holds the raised number and no other byte differs.
use Rattle.std.proofs.Common.{◌≡◌, ℕ, zero, suc, ◌+◌, ◌-◌, ◌*◌, ◌%◌, ◌^◌, ◌<◌, ◌≤◌, ◌⊎◌, List, [], ◌∷◌, ◌++◌, length, take, drop, slice_index, get_or, sym, ap, ◌∙◌, subst, inl, inr, false, arith}
use Rattle.std.specs.Int.{byte_at, bytes_low_first}
use Rattle.std.proofs.lemmas.Bool.{cases_lt}
use Rattle.std.proofs.lemmas.Grind.{same_number_lists}
use Rattle.std.proofs.lemmas.List.{get_or_append_left, get_or-drop, drop_at, length-take-le}
use Rattle.byteorder.specs.Endian.{little_from, little_bytes}
use Rattle.byteorder.specs.Numbers.{length-bytes_low_first}
use Rattle.link_base.specs.Bytes.{number_at}
use Rattle.base_reloc.specs.declared.field.BaseField.{BaseField}
use Rattle.base_reloc.specs.Blocks.{width_of, raised, raised_all}
use Rattle.base_reloc.specs.PageBlocks.{LieWithin}
use Rattle.base_reloc.specs.Raising.{IsOutside, IsOutsideAll, ShareNoByte, AreRaised}
use Rattle.base_reloc.proofs.RaiseNothing.{HaveBytes}
use Rattle.base_reloc.proofs.RaisedLemmas.{length-raised, raised_outside, length_raised_all, raised_elsewhere, raised_each}

-- ---- a number settles its bytes

same_bytes : (width i : ℕ) (xs ys : List ℕ) → HaveBytes xs → HaveBytes ys → little_from i width xs ≡ little_from i width ys → (k : ℕ) → i ≤ k → k < i + width → slice_index xs k ≡ slice_index ys k
same_bytes zero i xs ys first second same k low high = absurd (omega arith)
same_bytes (suc width) i xs ys first second same k low high =
    let a = slice_index xs i in
    let b = slice_index ys i in
    let parts = both a b (little_from (suc i) width xs) (little_from (suc i) width ys) (first i) (second i) same in
    elim (cases_lt i k) [
      | inl later ↦ same_bytes width (suc i) xs ys first second parts.1 k (omega arith) (omega arith)
      | inr here ↦
          let at : k ≡ i = omega arith in
          ap (slice_index xs) at ∙ parts.0 ∙ ap (slice_index ys) (sym at)
    ]
  where
    both : (a b c d : ℕ) → a < 256 → b < 256 → a + 256 * c ≡ b + 256 * d → (a ≡ b) × (c ≡ d)
    both a b c d x y e = (omega (arith, x, y, e), omega (arith, x, y, e))

-- ---- raising leaves bytes

byte_small : (k x : ℕ) → byte_at k x < 256
byte_small zero x = omega arith
byte_small (suc k) x = omega arith

small_bytes : (j n x t : ℕ) → slice_index (bytes_low_first j n x) t < 256
small_bytes j zero x t = omega arith
small_bytes j (suc n) x zero = byte_small j x
small_bytes j (suc n) x (suc t) = small_bytes (suc j) n x t

inner_byte : (rva width value t : ℕ) (memory : List ℕ) → rva ≤ length memory → t < width → slice_index (take rva memory ++ (little_bytes width value ++ drop (rva + width) memory)) (rva + t) < 256
inner_byte rva width value t memory fits lt =
    let bytes : List ℕ = little_bytes width value in
    let whole : List ℕ = take rva memory ++ (bytes ++ drop (rva + width) memory) in
    let at : slice_index whole (rva + t) ≡ slice_index bytes t =
    sym (get_or-drop rva whole t 0)
    ∙ ap (λ (xs : List ℕ). slice_index xs t) (drop_at (take rva memory) (bytes ++ drop (rva + width) memory) rva (length-take-le rva memory fits))
    ∙ get_or_append_left bytes (drop (rva + width) memory) 0 t (omega (arith, length-bytes_low_first 0 width value, lt)) in
    omega (arith, at, small_bytes 0 width value t)

raised_small : (delta : ℕ) (memory : List ℕ) (field : BaseField) → field.rva + width_of field ≤ length memory → HaveBytes memory → HaveBytes (raised delta memory field)
raised_small delta memory field fits small k =
    elim (cases_lt k field.rva) [
      | inl before ↦ let same = raised_outside delta memory field k fits (inl before) in omega (arith, same, small k)
      | inr low ↦
          (elim (cases_lt k (field.rva + width_of field)) [
            | inl high ↦
                let at : field.rva + (k - field.rva) ≡ k = omega arith in
                subst (λ (n : ℕ). slice_index (raised delta memory field) n < 256) at
                (inner_byte field.rva (width_of field) ((number_at (width_of field) memory field.rva + delta) % 2 ^ (8 * width_of field)) (k - field.rva) memory (omega arith) (omega arith))
            | inr after ↦ let same = raised_outside delta memory field k fits (inr after) in omega (arith, same, small k)
          ])
    ]

all_small : (delta : ℕ) (memory : List ℕ) (fields : List BaseField) → LieWithin (length memory) fields → HaveBytes memory → HaveBytes (raised_all delta memory fields)
all_small delta memory [] within small = small
all_small delta memory (field ∷ fields) within small =
    let fits = within 0 field (omega arith) in
    all_small delta (raised delta memory field) fields (λ k d lt. omega (arith, length-raised delta memory field fits, within (suc k) d (omega arith))) (raised_small delta memory field fits small)

-- ---- a byte is of a field or of none

unfoldable pub OfOne : ℕ → List BaseField → Type 0
OfOne rva fields =
    (k : ℕ) × ((k < length fields) × (((d : BaseField) → (get_or fields k d).rva ≤ rva) × ((d : BaseField) → rva < (get_or fields k d).rva + width_of (get_or fields k d))))

outside_all : (rva : ℕ) (field : BaseField) (fields : List BaseField) → IsOutside rva field → IsOutsideAll rva fields → IsOutsideAll rva (field ∷ fields)
outside_all rva field fields here rest zero d lt = here
outside_all rva field fields here rest (suc k) d lt = rest k d (omega arith)

later_one : (rva : ℕ) (field : BaseField) (fields : List BaseField) → IsOutside rva field → OfOne rva fields ⊎ IsOutsideAll rva fields → OfOne rva (field ∷ fields) ⊎ IsOutsideAll rva (field ∷ fields)
unfolding OfOne
later_one rva field fields here (inl found) = inl (suc found.0, (omega (arith, found.1.0), found.1.1))
later_one rva field fields here (inr none) = inr (outside_all rva field fields here none)

pub of_one : (rva : ℕ) (fields : List BaseField) → OfOne rva fields ⊎ IsOutsideAll rva fields
unfolding OfOne
of_one rva [] = inr (λ k d lt. absurd (omega arith))
of_one rva (field ∷ fields) =
    elim (cases_lt rva field.rva) [
      | inl before ↦ later_one rva field fields (inl before) (of_one rva fields)
      | inr low ↦
          (elim (cases_lt rva (field.rva + width_of field)) [
            | inl high ↦ inl (0, (omega arith, ((λ d. low), (λ d. high))))
            | inr after ↦ later_one rva field fields (inr after) (of_one rva fields)
          ])
    ]

-- ---- the memory

pub raised_is : (fields : List BaseField) (old new : List ℕ) (delta : ℕ) → HaveBytes old → HaveBytes new → length new ≡ length old → LieWithin (length old) fields → ShareNoByte fields → ((rva : ℕ) → IsOutsideAll rva fields → slice_index new rva ≡ slice_index old rva) → AreRaised delta old new fields → raised_all delta old fields ≡ new
unfolding OfOne number_at
raised_is fields old new delta first second len within apart elsewhere each =
    let made = raised_all delta old fields in
    let long = length_raised_all delta old fields within in
    same_number_lists made new (long ∙ sym len) (λ rva lt.
    elim (of_one rva fields) [
      | inr none ↦ raised_elsewhere delta old fields rva within none ∙ sym (elsewhere rva none)
      | inl found ↦
          let k = found.0 in
          let blank : BaseField = record { rva = 0; wide = false } in
          let field = get_or fields k blank in
          let numbers = raised_each delta old fields within apart k blank found.1.0 ∙ sym (each k blank found.1.0) in
          same_bytes (width_of field) field.rva made new (all_small delta old fields within first) second numbers rva (found.1.1.0 blank) (found.1.1.1 blank)
    ])
