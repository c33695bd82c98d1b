-- The string table of an object, after its symbol records: its first four bytes are its size, with themselves, and the texts
-- after them end with a NUL (PE Format, "COFF String Table").
use Rattle.std.specs.Prelude.{ℕ, ◌+◌, ◌*◌, Bool, ◌&&◌, not, ◌==◌, nat_le, nat_lt, if◌then◌else◌, List, length, Option, None, unwrap_or, []}
use Rattle.link_base.specs.Bytes.{u32_at, has_bytes, bytes_at, text_at}
use Rattle.link_base.specs.Limits.{NAME_LIMIT}
use Rattle.coff_records.specs.ObjectHeader.{symbols_offset, record_total, symbol_size}

abbrev pub SIZEOF_STRING_TABLE_SIZE : ℕ
SIZEOF_STRING_TABLE_SIZE = 4

unfoldable pub string_table_offset : List ℕ → ℕ
string_table_offset file = symbols_offset file + symbol_size file * record_total file

-- fewer than four bytes after the records, or no symbol table at all, are an absent string table (own)
abbrev pub has_string_table : List ℕ → Bool
has_string_table file =
    not (symbols_offset file == 0) && has_bytes file (string_table_offset file) SIZEOF_STRING_TABLE_SIZE

-- an absent table is an empty one (own)
unfoldable pub string_table_size : List ℕ → ℕ
string_table_size file = if has_string_table file then u32_at file (string_table_offset file) else 0

unfoldable pub string_table : List ℕ → List ℕ
string_table file = bytes_at file (string_table_offset file) (string_table_size file)

-- the text at an offset of a string table, after its size, where one ends in it
unfoldable pub text_in : List ℕ → ℕ → Option (List ℕ)
text_in strings offset = if nat_le SIZEOF_STRING_TABLE_SIZE offset then text_at strings offset else None

-- a text of more bytes than a name may have begins at an offset
unfoldable pub is_long_text : List ℕ → ℕ → Bool
is_long_text strings offset = nat_lt NAME_LIMIT (length (unwrap_or (text_in strings offset) []))
