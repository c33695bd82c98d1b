-- The numbers of the import library format, with the names of the PE Format specification less `IMAGE_`.
use Rattle.std.specs.Prelude.{ℕ}

-- ---- "Import Type"

abbrev pub IMPORT_CODE : ℕ
IMPORT_CODE = 0

abbrev pub IMPORT_DATA : ℕ
IMPORT_DATA = 1

abbrev pub IMPORT_CONST : ℕ
IMPORT_CONST = 2

-- ---- "Import Name Type"

abbrev pub IMPORT_ORDINAL : ℕ
IMPORT_ORDINAL = 0

abbrev pub IMPORT_NAME : ℕ
IMPORT_NAME = 1

abbrev pub IMPORT_NAME_NOPREFIX : ℕ
IMPORT_NAME_NOPREFIX = 2

abbrev pub IMPORT_NAME_UNDECORATE : ℕ
IMPORT_NAME_UNDECORATE = 3
