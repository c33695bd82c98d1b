-- What is wrong with a short import, as a table of conditions: the first that stands counts. Own; the fields
-- are those of the PE Format specification.
use Rattle.std.specs.Prelude.{ℕ, ◌+◌, Bool, ◌||◌, not, ◌==◌, nat_lt, List, [], ◌∷◌, length, Option}
use Rattle.link_base.specs.declared.kinds.import.ImpFault.{ImpFault}
use Rattle.link_base.specs.declared.kinds.import.ImpFault.TheVariants as fault
use Rattle.link_base.specs.PeFormat.{FILE_MACHINE_AMD64}
use Rattle.link_base.specs.Refusals.{shown, first_standing}
use Rattle.short_import.specs.Constants.{IMPORT_CONST, IMPORT_NAME_UNDECORATE}
use Rattle.short_import.specs.ShortImport.{machine_of, data_size, import_type, name_type, symbol_of, dll_of}

-- the header or the data leave the file; bytes behind the data are allowed
unfoldable pub is_cut : List ℕ → Bool
is_cut bytes = nat_lt (length bytes) 20 || nat_lt (length bytes) (20 + data_size bytes)

abbrev pub is_other_machine : List ℕ → Bool
is_other_machine bytes = not (machine_of bytes == FILE_MACHINE_AMD64)

abbrev pub has_other_type : List ℕ → Bool
has_other_type bytes = nat_lt IMPORT_CONST (import_type bytes)

abbrev pub has_other_name_type : List ℕ → Bool
has_other_name_type bytes = nat_lt IMPORT_NAME_UNDECORATE (name_type bytes)

-- the symbol, or the DLL's name behind it, is empty or does not end in the data
abbrev pub lacks_text : List ℕ → Bool
lacks_text bytes = (length (symbol_of bytes) == 0) || (length (dll_of bytes) == 0)

-- ---- the tables

-- the rows that the header decides
unfoldable pub header_fault : List ℕ → Option ImpFault
header_fault bytes =
    first_standing
    (shown (is_cut bytes) fault.Length
    ∷ shown (is_other_machine bytes) fault.Machine
    ∷ shown (has_other_type bytes) fault.Kind
    ∷ shown (has_other_name_type bytes) fault.NameType
    ∷ [])

-- and those that the texts do; none where the bytes are a short import
unfoldable pub import_fault : List ℕ → Option ImpFault
import_fault bytes = first_standing (header_fault bytes ∷ shown (lacks_text bytes) fault.Text ∷ [])
