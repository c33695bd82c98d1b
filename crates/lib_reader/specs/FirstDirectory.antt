-- The first linker member: a count, as many offsets of headers, and as many names, the numbers with the highest byte
-- first (PE Format, "First Linker Member").
use Rattle.std.specs.Prelude.{ℕ, ◌+◌, ◌*◌, Bool, ◌||◌, nat_lt, List, length, drop}
use Rattle.byteorder.specs.Endian.{big_number}

-- the number in the four bytes at an offset, the highest byte first
unfoldable pub big_u32_at : List ℕ → ℕ → ℕ
big_u32_at bytes offset = big_number 4 (drop offset bytes)

abbrev pub first_count : List ℕ → ℕ
first_count directory = big_u32_at directory 0

abbrev pub first_offset : List ℕ → ℕ → ℕ
first_offset directory index = big_u32_at directory (4 + 4 * index)

abbrev pub first_names_place : List ℕ → ℕ
first_names_place directory = 4 + 4 * first_count directory

-- the count or the offsets leave the member
unfoldable pub first_table_leaves : List ℕ → Bool
first_table_leaves directory =
    nat_lt (length directory) 4 || nat_lt (length directory) (first_names_place directory)
