-- What raising some fields is to leave. Own.
use Rattle.std.specs.Prelude.{◌≡◌, ℕ, ◌+◌, ◌*◌, ◌%◌, ◌^◌, ◌<◌, ◌≤◌, ◌⊎◌, List, length, slice_index, slice_index_or}
use Rattle.link_base.specs.Bytes.{number_at, number_bytes}
use Rattle.base_reloc.specs.declared.field.BaseField.{BaseField}
use Rattle.base_reloc.specs.Blocks.{width_of}

-- a byte is none of a field's
abbrev pub IsOutside : ℕ → BaseField → Type 0
IsOutside rva field = (rva < field.rva) ⊎ (field.rva + width_of field ≤ rva)

-- nor of any field's
abbrev pub IsOutsideAll : ℕ → List BaseField → Type 0
IsOutsideAll rva fields = (k : ℕ) (d : BaseField) → k < length fields → IsOutside rva (slice_index_or fields k d)

-- one field ends before the other begins
abbrev pub ArePartedBy : BaseField → BaseField → Type 0
ArePartedBy first second = (first.rva + width_of first ≤ second.rva) ⊎ (second.rva + width_of second ≤ first.rva)

-- no two fields share a byte
abbrev pub ShareNoByte : List BaseField → Type 0
ShareNoByte fields =
    (j k : ℕ) (d : BaseField) → j < k → k < length fields → ArePartedBy (slice_index_or fields j d) (slice_index_or fields k d)

-- each field holds its number and the delta, modulo its width
abbrev pub AreRaised : ℕ → List ℕ → List ℕ → List BaseField → Type 0
AreRaised delta old new fields =
    (k : ℕ) (d : BaseField) → k < length fields → let field = slice_index_or fields k d in number_at (width_of field) new field.rva ≡ (number_at (width_of field) old field.rva + delta) % 2 ^ (8 * width_of field)

-- the bytes of that number stand in each field
abbrev pub HoldRaisedBytes : ℕ → List ℕ → List ℕ → List BaseField → Type 0
HoldRaisedBytes delta old new fields =
    (k : ℕ) (d : BaseField) (t : ℕ) → k < length fields → t < width_of (slice_index_or fields k d) → let field = slice_index_or fields k d in slice_index new (field.rva + t) ≡ slice_index (number_bytes (width_of field) ((number_at (width_of field) old field.rva + delta) % 2 ^ (8 * width_of field))) t
