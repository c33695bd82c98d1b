-- The name of a member, by the text of its name field and the data of the member of long names (PE Format, "Archive
-- Member Headers" and "Longnames Member").
use Rattle.std.specs.Prelude.{ℕ, ◌-◌, Bool, ◌||◌, ◌&&◌, not, ◌==◌, nat_lt, nat_eq, if◌then◌else◌, List, [], length, take, drop, slice_index, Option, Some, None, option_map, unwrap_or}
use Rattle.std.specs.List.{before_first, starts_with}
use lib.Pointwise.{pointwise}
use Rattle.lib_reader.specs.Constants.{ARCHIVE_LINKER_MEMBER, ARCHIVE_LONGNAMES_MEMBER, ARCHIVE_OTHER_MEMBER}
use Rattle.link_base.specs.Decimal.{decimal_number}

-- ---- special members

-- a linker member, which is a directory: `/`
abbrev pub names_directory : List ℕ → Bool
names_directory text = pointwise nat_eq text ARCHIVE_LINKER_MEMBER

-- the member of long names: `//`
abbrev pub names_long_names : List ℕ → Bool
names_long_names text = pointwise nat_eq text ARCHIVE_LONGNAMES_MEMBER

-- a member that holds none of the linker's own, as `/<HYBRIDMAP>/`
abbrev pub names_other : List ℕ → Bool
names_other text = starts_with nat_eq text ARCHIVE_OTHER_MEMBER

unfoldable pub names_special : List ℕ → Bool
names_special text = names_directory text || (names_long_names text || names_other text)

-- ---- long names

-- a text of the form `/n` refers to the offset n of the long names
unfoldable pub names_an_offset : List ℕ → Bool
names_an_offset text = (slice_index text 0 == 47) && not (names_special text)

-- a long name ends at a NUL or a newline
abbrev pub ends_long_name : ℕ → Bool
ends_long_name byte = (byte == 0) || (byte == 10)

-- a text without a slash at its end
unfoldable pub without_slash : List ℕ → List ℕ
without_slash text = if slice_index text (length text - 1) == 47 then take (length text - 1) text else text

-- the offset that a text `/n` writes, where it lies in the long names
abbrev pub inside : List ℕ → Option ℕ → Option ℕ
inside long_names None = None
inside long_names (Some offset) = if nat_lt offset (length long_names) then Some offset else None

unfoldable pub long_offset : List ℕ → List ℕ → Option ℕ
long_offset long_names text = inside long_names (decimal_number (drop 1 text))

-- the name at an offset of the long names: up to its end byte, or to the end of the member where none comes
unfoldable pub long_name_at : List ℕ → ℕ → List ℕ
long_name_at long_names offset = without_slash (before_first ends_long_name (drop offset long_names))

abbrev pub long_name : List ℕ → List ℕ → Option (List ℕ)
long_name long_names text = option_map (long_name_at long_names) (long_offset long_names text)

-- ---- the name

-- the name of a special member stands as it is
unfoldable pub member_name : List ℕ → List ℕ → List ℕ
member_name long_names text =
    if names_special text then text
    else (if names_an_offset text then unwrap_or (long_name long_names text) [] else without_slash text)
