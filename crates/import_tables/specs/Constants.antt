-- The numbers of the import tables, by the PE Format specification less `IMAGE_`.
use Rattle.std.specs.Prelude.{ℕ}

-- "Import Directory Table"
abbrev pub SIZEOF_IMPORT_DESCRIPTOR : ℕ
SIZEOF_IMPORT_DESCRIPTOR = 20

-- "Import Lookup Table": the entries of an image of this form have eight bytes
abbrev pub SIZEOF_LOOKUP_ENTRY : ℕ
SIZEOF_LOOKUP_ENTRY = 8

-- bit 63 of an entry, for an import by ordinal
abbrev pub ORDINAL_FLAG64 : ℕ
ORDINAL_FLAG64 = 0x8000_0000_0000_0000
