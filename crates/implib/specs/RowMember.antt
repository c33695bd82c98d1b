-- The member of a row: its name, and its data, which are a short import (PE Format, "Import Library Format").
use Rattle.std.specs.Prelude.{ℕ, ◌+◌, ◌*◌, nat_lt, if◌then◌else◌, List, [], ◌∷◌, ◌++◌, length, codes}
use Rattle.link_base.specs.Fields.{fields}
use Rattle.link_base.specs.PeFormat.{FILE_MACHINE_AMD64}
use Rattle.link_base.specs.declared.numbers.LeNumber.TheVariants.{U16, U32}
use Rattle.short_import.specs.Constants.{IMPORT_CODE, IMPORT_DATA, IMPORT_CONST, IMPORT_ORDINAL, IMPORT_NAME}
use Rattle.short_import.specs.declared.import.ImportBy.{ImportBy}
use Rattle.short_import.specs.declared.import.ImportBy.TheVariants.{Ordinal, Named}
use Rattle.short_import.specs.declared.import.ImportKind.{ImportKind}
use Rattle.short_import.specs.declared.import.ImportKind.TheVariants.{Code, Data, Const}
use Rattle.implib.specs.declared.row.LibraryRow.{LibraryRow}

-- the longest name that stands in a header with a slash behind it
abbrev pub SHORT_NAME_LIMIT : ℕ
SHORT_NAME_LIMIT = 15

-- the name of each row's member: that of the DLL, or the first of the long names
abbrev pub member_name : List ℕ → List ℕ
member_name dll = if nat_lt SHORT_NAME_LIMIT (length dll) then codes "/0" else dll ++ codes "/"

-- ---- the header of a short import

abbrev pub IMPORT_SIG1 : ℕ
IMPORT_SIG1 = 0

abbrev pub IMPORT_SIG2 : ℕ
IMPORT_SIG2 = 0xFFFF

abbrev pub SIZEOF_IMPORT_HEADER : ℕ
SIZEOF_IMPORT_HEADER = 20

abbrev pub kind_number : ImportKind → ℕ
kind_number Code = IMPORT_CODE
kind_number Data = IMPORT_DATA
kind_number Const = IMPORT_CONST

abbrev pub name_type : ImportBy → ℕ
name_type (Ordinal ordinal) = IMPORT_ORDINAL
name_type (Named hint name) = IMPORT_NAME

abbrev pub ordinal_or_hint : ImportBy → ℕ
ordinal_or_hint (Ordinal ordinal) = ordinal
ordinal_or_hint (Named hint name) = hint

-- the kind in bits 0 and 1, and the name type in bits 2 to 4
abbrev pub type_field : LibraryRow → ℕ
type_field row = kind_number row.kind + 4 * name_type row.by

-- ---- the data

-- a text, and its NUL
abbrev pub text_bytes : List ℕ → List ℕ
text_bytes text = text ++ 0 ∷ []

abbrev pub text_size : List ℕ → ℕ
text_size text = length text + 1

-- two signatures, the version, the machine, the time, the size of the texts, the ordinal or the hint, and the type
abbrev pub import_header : List ℕ → ℕ → LibraryRow → List ℕ
import_header dll time row =
    fields
    (U16 IMPORT_SIG1 ∷ U16 IMPORT_SIG2 ∷ U16 0 ∷ U16 FILE_MACHINE_AMD64 ∷ U32 time ∷ U32 (text_size row.symbol + text_size dll)
    ∷ U16 (ordinal_or_hint row.by) ∷ U16 (type_field row) ∷ [])

-- the header, the symbol, and the name of the DLL
unfoldable pub import_of : List ℕ → ℕ → LibraryRow → List ℕ
import_of dll time row = import_header dll time row ++ (text_bytes row.symbol ++ text_bytes dll)

abbrev pub import_size : List ℕ → LibraryRow → ℕ
import_size dll row = SIZEOF_IMPORT_HEADER + text_size row.symbol + text_size dll
