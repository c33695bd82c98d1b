-- A section contribution: the bytes that a module gives to a section of the image (LLVM, "The PDB DBI (Debug Info)
-- Stream", "Section Contribution Substream"). Its two checksums are written as 0 and are not read (own).
use Rattle.std.specs.Prelude.{ℕ, ◌+◌, ◌^◌, ◌<◌, ◌==◌, if◌then◌else◌, List, [], ◌∷◌, ◌++◌, Option, Some, None}
use Rattle.std.specs.List.{flat_map}
use Rattle.link_base.specs.Bytes.{u16_at, u32_at}
use Rattle.link_base.specs.Fields.{fields}
use Rattle.link_base.specs.declared.numbers.LeNumber.TheVariants.{U16, U32}
use Rattle.pdb_dbi.specs.declared.rows.Contribution.{Contribution}
use Rattle.pdb_dbi.specs.declared.form.Form.{Form}
use Rattle.pdb_dbi.specs.declared.form.Form.TheVariants.{Ver60, V2}

-- ---- the two forms

-- the first word of the part of contributions, by the form of the records
abbrev pub SECTION_CONTRIBUTIONS_VER60 : ℕ
SECTION_CONTRIBUTIONS_VER60 = 0xF12EBA2D

abbrev pub SECTION_CONTRIBUTIONS_V2 : ℕ
SECTION_CONTRIBUTIONS_V2 = 0xF13151E4

abbrev pub form_of_version : ℕ → Option Form
form_of_version version = if version == SECTION_CONTRIBUTIONS_VER60 then Some Ver60 else (if version == SECTION_CONTRIBUTIONS_V2 then Some V2 else None)

-- the bytes of a record
abbrev pub record_size : Form → ℕ
record_size Ver60 = 28
record_size V2 = 32

-- ---- a record that is written

-- each number fits its field
pub record FitsFields (row : Contribution) : Type 0 where
  pub section_fits : row.section < 2 ^ 16
  pub offset_fits : row.offset < 2 ^ 32
  pub size_fits : row.size < 2 ^ 32
  pub flags_fit : row.flags < 2 ^ 32
  pub module_fits : row.«module» < 2 ^ 16
  pub coff_fits : row.coff < 2 ^ 32

-- the fields of both forms: the section's number and two bytes of 0, the offset in it, the size, the flags, the module's
-- position and two bytes of 0, and two checksums
unfoldable pub record_ver60 : Contribution → List ℕ
record_ver60 row =
    fields (U16 row.section ∷ U16 0 ∷ U32 row.offset ∷ U32 row.size ∷ U32 row.flags ∷ U16 row.«module» ∷ U16 0 ∷ U32 0 ∷ U32 0 ∷ [])

-- and behind them the section's number in the object
unfoldable pub record_v2 : Contribution → List ℕ
record_v2 row = record_ver60 row ++ fields (U32 row.coff ∷ [])

-- the part of contributions, in the second form
unfoldable pub contribution_part : List Contribution → List ℕ
contribution_part list = fields (U32 SECTION_CONTRIBUTIONS_V2 ∷ []) ++ flat_map record_v2 list

-- the part in the first form, as other linkers write it
unfoldable pub first_part : List Contribution → List ℕ
first_part list = fields (U32 SECTION_CONTRIBUTIONS_VER60 ∷ []) ++ flat_map record_ver60 list

-- a contribution as the first form has it
abbrev pub without_coff : Contribution → Contribution
without_coff row = record row { coff = 0 }

-- ---- a record that is read

-- the section's number in the object, which the first form lacks
abbrev pub coff_at : Form → List ℕ → ℕ → ℕ
coff_at Ver60 part place = 0
coff_at V2 part place = u32_at part (place + 28)

unfoldable pub contribution_at : Form → List ℕ → ℕ → Contribution
contribution_at form part place = record {
  section = u16_at part place;
  offset = u32_at part (place + 4);
  size = u32_at part (place + 8);
  flags = u32_at part (place + 12);
  «module» = u16_at part (place + 16);
  coff = coff_at form part place;
}
