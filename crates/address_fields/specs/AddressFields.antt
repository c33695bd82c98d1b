-- The fields of an image that hold addresses, as they are listed: section by section, piece by piece and in the order of the fields
-- (PE Format, "The .reloc Section (Image Only)", for what they are).
use Rattle.std.specs.Prelude.{◌<◌, ℕ, ◌+◌, ◌^◌, ◌==◌, List, [], map, slice_index, slice_index_or}
use Rattle.std.specs.List.{All, filter, flat_map}
use Rattle.link_base.specs.PeFormat.{REL_AMD64_ADDR64}
use Rattle.section_group.specs.declared.piece.OutSection.{OutSection}
use Rattle.relocate.specs.declared.fix.Fix.{Fix}
use Rattle.relocate.specs.PatchedBytes.{is_based}
use Rattle.base_reloc.specs.declared.field.BaseField.{BaseField}

-- the field of a relocation of a piece at an RVA, of eight bytes or of four
abbrev pub base_field : ℕ → Fix → BaseField
base_field rva fix = record { rva = rva + fix.at; wide = fix.kind == REL_AMD64_ADDR64 }

abbrev pub fields_of : ℕ → List Fix → List BaseField
fields_of rva fixes = map (base_field rva) (filter is_based fixes)

-- those of a piece, by the RVAs and the fields of all pieces
abbrev pub fields_at : List ℕ → List (List Fix) → ℕ → List BaseField
fields_at rvas fixups k = fields_of (slice_index rvas k) (slice_index_or fixups k [])

unfoldable pub section_fields : List ℕ → List (List Fix) → List ℕ → List BaseField
section_fields rvas fixups indexes = flat_map (fields_at rvas fixups) indexes

unfoldable pub all_fields : List ℕ → List (List Fix) → List OutSection → List BaseField
all_fields rvas fixups sections = flat_map (λ section. section_fields rvas fixups section.pieces.items) sections

-- the RVA of each field of a piece is a number of 32 bits
abbrev pub Fits : List ℕ → List (List Fix) → ℕ → Type 0
Fits rvas fixups k = All (λ fix. slice_index rvas k + fix.at < 2 ^ 32) (slice_index_or fixups k [])
