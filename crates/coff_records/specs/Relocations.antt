-- The relocations of a section, 10 bytes each (PE Format, "COFF Relocations").
use Rattle.std.specs.Prelude.{ℕ, ◌+◌, ◌-◌, ◌*◌, ◌^◌, ◌<◌, ◌≤◌, if◌then◌else◌, List, length, map}
use Rattle.std.specs.List.{range_with_len}
use Rattle.link_base.specs.Bytes.{u16_at, u32_at}
use Rattle.link_base.specs.PeFormat.{SIZEOF_RELOCATION}
use Rattle.coff_records.specs.declared.relocation.Relocation.{Relocation}
use Rattle.coff_records.specs.Offsets.{RELOCATION_SYMBOL_TABLE_INDEX, RELOCATION_TYPE}
use Rattle.coff_records.specs.SectionHeader.{relocations_offset_in, relocation_field_in, has_overflow_count_in}

-- where the first relocation stands: a record that holds the count is none
unfoldable pub relocations_place : List ℕ → ℕ
relocations_place header =
    relocations_offset_in header + (if has_overflow_count_in header then SIZEOF_RELOCATION else 0)

-- how many there are; a count in the first record counts that record too
unfoldable pub relocation_count_in : List ℕ → List ℕ → ℕ
relocation_count_in file header =
    if has_overflow_count_in header then u32_at file (relocations_offset_in header) - 1 else relocation_field_in header

-- the relocation whose record begins at a place
abbrev pub relocation_at : List ℕ → ℕ → Relocation
relocation_at file place =
    record {
      at = u32_at file place;
      symbol = u32_at file (place + RELOCATION_SYMBOL_TABLE_INDEX);
      kind = u16_at file (place + RELOCATION_TYPE);
    }

-- `count` relocations that stand one after the other from a place on, from an index on
unfoldable pub relocations_from : List ℕ → ℕ → ℕ → ℕ → List Relocation
relocations_from file place index count =
    map (λ k. relocation_at file (place + SIZEOF_RELOCATION * k)) (range_with_len index count)

-- those that are still to be read are in the file: an invariant of the code
pub record HasRelocations (file : List ℕ) (place index left : ℕ) : Type 0 where
  pub whole : (k : ℕ) → k < index + left → place + SIZEOF_RELOCATION * k + SIZEOF_RELOCATION ≤ length file
  pub counted : index + left < 2 ^ 32
