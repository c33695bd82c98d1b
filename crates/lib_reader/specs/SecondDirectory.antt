-- The second linker member: a count of members and the offset of each one's header, a count of names and for each an
-- index into the offsets, from 1, and the names, the numbers with the lowest byte first (PE Format, "Second Linker
-- Member").
use Rattle.std.specs.Prelude.{ℕ, ◌+◌, ◌-◌, ◌*◌, Bool, ◌||◌, ◌&&◌, not, nat_lt, nat_le, List, length}
use Rattle.link_base.specs.Bytes.{u16_at, u32_at, all_below}

abbrev pub member_count : List ℕ → ℕ
member_count directory = u32_at directory 0

abbrev pub name_count_place : List ℕ → ℕ
name_count_place directory = 4 + 4 * member_count directory

abbrev pub second_count : List ℕ → ℕ
second_count directory = u32_at directory (name_count_place directory)

-- the index of a name's member, from 1
abbrev pub member_index : List ℕ → ℕ → ℕ
member_index directory index = u16_at directory (name_count_place directory + 4 + 2 * index)

abbrev pub second_offset : List ℕ → ℕ → ℕ
second_offset directory index = u32_at directory (4 + 4 * (member_index directory index - 1))

abbrev pub second_names_place : List ℕ → ℕ
second_names_place directory = name_count_place directory + 4 + 2 * second_count directory

-- a count, the offsets or the indices leave the member
unfoldable pub second_counts_leave : List ℕ → Bool
second_counts_leave directory =
    nat_lt (length directory) 4
    || (nat_lt (length directory) (name_count_place directory + 4)
    || nat_lt (length directory) (second_names_place directory))

-- the index of a name is one of the members'
unfoldable pub has_member : List ℕ → ℕ → Bool
has_member directory index =
    nat_lt 0 (member_index directory index) && nat_le (member_index directory index) (member_count directory)

unfoldable pub second_table_leaves : List ℕ → Bool
second_table_leaves directory =
    second_counts_leave directory || not (all_below (second_count directory) (has_member directory))
