-- What is found in a mapped image that holds the export table of some rows. Own.
use Rattle.std.specs.Prelude.{◌≡◌, ◌≢◌, ℕ, ◌+◌, ◌^◌, ◌<◌, ◌≤◌, ◌⊎◌, Bool, false, ◌&&◌, not, nat_eq, List, [], length, position, find, Option, Some, None, option_map, All}
use Rattle.std.specs.List.{list_any}
use Rattle.link_base.specs.Bytes.{bytes_at, is_nul}
use Rattle.link_base.specs.NameText.{same_name}
use Rattle.export_tables.specs.declared.row.ExportRow.{ExportRow}
use Rattle.export_tables.specs.declared.row.ExportTo.{ExportTo}
use Rattle.export_tables.specs.declared.row.ExportTo.TheVariants.{Rva, Forward}
use Rattle.export_tables.specs.declared.exported.Exported.{Exported}
use Rattle.export_tables.specs.declared.exported.Exported.TheVariants as exported
use Rattle.export_tables.specs.ExportTable.{row_at, forward_len, forwarder_size}

-- ---- a mapped image with the table

-- these bytes stand at an RVA
abbrev pub Holds : List ℕ → ℕ → List ℕ → Type 0
Holds memory rva bytes = bytes_at memory rva (length bytes) ≡ bytes

-- ---- rows that can be read

-- no NUL cuts a text short
abbrev pub HasNoNul : List ℕ → Type 0
HasNoNul text = list_any is_nul text ≡ false

-- the text of a forwarder: that of an RVA is empty
abbrev pub forward_text : ExportTo → List ℕ
forward_text (Rva rva) = []
forward_text (Forward text) = text

-- an RVA has four bytes and is not 0, which stands for a hole, and does not lie in the table of this size at `rva`, where it
-- would be that of a forwarder
abbrev pub IsApart : ℕ → ℕ → ExportTo → Type 0
IsApart rva size (Rva address) = (address ≢ 0) × (address < 2 ^ 32) × ((address < rva) ⊎ (rva + size ≤ address))
IsApart rva size (Forward text) = Unit {0}

-- no name and no forwarder holds a NUL, no two rows have one name, and no RVA of a row is taken for something else
pub record AreReadable (rows : List ExportRow) (rva size : ℕ) : Type 0 where
  pub names : All (λ row. HasNoNul row.name) rows
  pub forwarders : All (λ row. HasNoNul (forward_text row.what)) rows
  pub differ : (i j : ℕ) → i < j → j < length rows → (row_at rows i).name ≢ (row_at rows j).name
  pub apart : All (λ row. IsApart rva size row.what) rows

-- ---- what is found

-- what a row exports, as it is found
abbrev pub exported_what : ExportTo → Exported
exported_what (Rva address) = exported.Address address
exported_what (Forward text) = exported.Forward text

abbrev pub exported_row : Option ExportRow → Exported
exported_row None = exported.Missing
exported_row (Some row) = exported_what row.what

-- a row has a name and is exported by it
abbrev pub is_exported_as : List ℕ → ExportRow → Bool
is_exported_as name row = not row.noname && same_name row.name name

-- what the row of a name exports
unfoldable pub exported_name : List ExportRow → List ℕ → Exported
exported_name rows name = exported_row (find (is_exported_as name) rows)

-- what the row that has an ordinal exports
unfoldable pub exported_ordinal : List ExportRow → List ℕ → ℕ → Exported
exported_ordinal rows ordinals ordinal = exported_row (option_map (row_at rows) (position (nat_eq ordinal) ordinals))

-- ---- rows of one size

-- two rows differ at most in what they export and in the ordinal that they ask for, and forwarders in their bytes
pub record SameSize (row other : ExportRow) : Type 0 where
  pub same_names : row.name ≡ other.name
  pub same_nonames : row.noname ≡ other.noname
  pub same_lens : forward_len row.what ≡ forward_len other.what
  pub same_sizes : forwarder_size row.what ≡ forwarder_size other.what
