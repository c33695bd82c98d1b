-- A member of a library, by the header of 60 bytes at an offset: its name field, its size and its data (PE Format,
-- "Archive Member Headers").
use Rattle.std.specs.Prelude.{ℕ, zero, suc, ◌+◌, ◌%◌, Bool, ◌||◌, not, ◌==◌, nat_lt, nat_eq, if◌then◌else◌, List, length, take, slice_index, Option, is_none, unwrap_or}
use lib.Pointwise.{pointwise}
use Rattle.link_base.specs.Bytes.{bytes_at}
use Rattle.link_base.specs.Decimal.{decimal_number}
use Rattle.lib_reader.specs.Constants.{SIZEOF_ARCHIVE_MEMBER_HDR, ARCHIVE_END}

-- ---- a field of text

-- the length of the first `n` bytes of a text without the blanks at their end
unfoldable pub trimmed_length : List ℕ → ℕ → ℕ
trimmed_length text zero = 0
trimmed_length text (suc n) = if slice_index text n == 32 then trimmed_length text n else suc n

-- a text without the blanks at its end
unfoldable pub trimmed : List ℕ → List ℕ
trimmed text = take (trimmed_length text (length text)) text

-- ---- the header

-- the text of the name field, the first 16 bytes
unfoldable pub name_text : List ℕ → ℕ → List ℕ
name_text bytes at = trimmed (bytes_at bytes at 16)

-- the number of the size field, ten bytes behind the name, date, owner and mode
unfoldable pub size_number : List ℕ → ℕ → Option ℕ
size_number bytes at = decimal_number (trimmed (bytes_at bytes (at + 48) 10))

abbrev pub size_of : List ℕ → ℕ → ℕ
size_of bytes at = unwrap_or (size_number bytes at) 0

-- the header leaves the file, or its last two bytes are not those that end a header
unfoldable pub header_is_bad : List ℕ → ℕ → Bool
header_is_bad bytes at =
    nat_lt (length bytes) (at + SIZEOF_ARCHIVE_MEMBER_HDR)
    || not (pointwise nat_eq (bytes_at bytes (at + 58) 2) ARCHIVE_END)

-- ---- the data, behind the header

abbrev pub data_place : ℕ → ℕ
data_place at = at + SIZEOF_ARCHIVE_MEMBER_HDR

abbrev pub data_of : List ℕ → ℕ → List ℕ
data_of bytes at = bytes_at bytes (data_place at) (size_of bytes at)

-- the size is no decimal number, or the data leave the file
unfoldable pub size_is_bad : List ℕ → ℕ → Bool
size_is_bad bytes at =
    is_none (size_number bytes at) || nat_lt (length bytes) (data_place at + size_of bytes at)

-- the least even number at or above one
abbrev pub even_from : ℕ → ℕ
even_from n = n + n % 2

-- the next header stands at the next even offset behind the data
unfoldable pub next_header : List ℕ → ℕ → ℕ
next_header bytes at = even_from (data_place at + size_of bytes at)
