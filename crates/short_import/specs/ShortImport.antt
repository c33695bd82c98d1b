-- A short import by its fields (PE Format, "Import Library Format" with "Import Header", "Import Type" and
-- "Import Name Type"): a header of 20 bytes, and behind it the data, which are the symbol and the name of the
-- DLL, each ended by a NUL.
use Rattle.std.specs.Prelude.{ℕ, ◌+◌, ◌/◌, ◌%◌, ◌==◌, if◌then◌else◌, List, [], length, unwrap_or}
use Rattle.link_base.specs.Bytes.{u16_at, u32_at, bytes_at, text_at}
use Rattle.short_import.specs.declared.import.ImportKind.{ImportKind}
use Rattle.short_import.specs.declared.import.ImportKind.TheVariants as kind
use Rattle.short_import.specs.declared.import.ImportBy.{ImportBy}
use Rattle.short_import.specs.declared.import.ImportBy.TheVariants as by
use Rattle.short_import.specs.Constants.{IMPORT_CODE, IMPORT_DATA, IMPORT_ORDINAL, IMPORT_NAME, IMPORT_NAME_NOPREFIX}
use Rattle.short_import.specs.Decoration.{no_prefix, undecorated}

-- ---- the header

abbrev pub machine_of : List ℕ → ℕ
machine_of bytes = u16_at bytes 6

abbrev pub data_size : List ℕ → ℕ
data_size bytes = u32_at bytes 12

-- the ordinal of an import by ordinal, and else the hint
abbrev pub ordinal_or_hint : List ℕ → ℕ
ordinal_or_hint bytes = u16_at bytes 16

abbrev pub type_field : List ℕ → ℕ
type_field bytes = u16_at bytes 18

-- bits 0 and 1
abbrev pub import_type : List ℕ → ℕ
import_type bytes = type_field bytes % 4

-- bits 2 to 4
abbrev pub name_type : List ℕ → ℕ
name_type bytes = type_field bytes / 4 % 8

-- ---- the texts

abbrev pub import_data : List ℕ → List ℕ
import_data bytes = bytes_at bytes 20 (data_size bytes)

-- the text at an offset, empty where none ends (own)
unfoldable pub text_from : List ℕ → ℕ → List ℕ
text_from bytes offset = unwrap_or (text_at bytes offset) []

unfoldable pub symbol_of : List ℕ → List ℕ
symbol_of bytes = text_from (import_data bytes) 0

-- behind the symbol and its NUL
unfoldable pub dll_of : List ℕ → List ℕ
dll_of bytes = text_from (import_data bytes) (length (symbol_of bytes) + 1)

-- ---- what the fields mean; a type and a name type that the format does not have are refused

abbrev pub kind_of_type : ℕ → ImportKind
kind_of_type number =
    if number == IMPORT_CODE then kind.Code
    else (if number == IMPORT_DATA then kind.Data else kind.Const)

abbrev pub by_of_type : ℕ → ℕ → List ℕ → ImportBy
by_of_type number field symbol =
    if number == IMPORT_ORDINAL then by.Ordinal field
    else (if number == IMPORT_NAME then by.Named field symbol
    else (if number == IMPORT_NAME_NOPREFIX then by.Named field (no_prefix symbol)
    else by.Named field (undecorated symbol)))

unfoldable pub import_kind : List ℕ → ImportKind
import_kind bytes = kind_of_type (import_type bytes)

unfoldable pub import_by : List ℕ → ImportBy
import_by bytes = by_of_type (name_type bytes) (ordinal_or_hint bytes) (symbol_of bytes)
