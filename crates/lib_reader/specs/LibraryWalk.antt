-- The walk along the members at the start of a library: the directories, the member of long names and those for other
-- machines. It ends at the first member that is none of these, or at the end of the file (PE Format, "Archive (Library)
-- File Format"; that the header at its end is judged with the others is own).
use Rattle.std.specs.Prelude.{ℕ, zero, suc, Bool, ◌||◌, ◌&&◌, not, ◌==◌, nat_le, nat_eq, true, false, if◌then◌else◌, List, [], ◌∷◌, length, Option, None, is_some, is_none, option_map, option_and_then, unwrap_or}
use Rattle.std.specs.List.{starts_with}
use Rattle.link_base.specs.Bytes.{first_below}
use Rattle.link_base.specs.Refusals.{shown, first_standing}
use Rattle.link_base.specs.declared.kinds.library.LibFault.TheVariants as kind
use Rattle.lib_reader.specs.declared.error.LibError.{LibError}
use Rattle.lib_reader.specs.Constants.{ARCHIVE_START, ARCHIVE_START_SIZE}
use Rattle.lib_reader.specs.ArchiveMember.{name_text, data_of, next_header}
use Rattle.lib_reader.specs.MemberName.{names_directory, names_long_names, names_special}
use Rattle.lib_reader.specs.MemberFault.{fault, member_fault}
use Rattle.lib_reader.specs.Listing.{Entry, directory_is_bad, listings_in}

abbrev pub has_magic : List ℕ → Bool
has_magic bytes = starts_with nat_eq bytes ARCHIVE_START

-- ---- members by their position, the first at position 0

-- where the header of a member stands: the first behind the magic, each other one behind the member before it
unfoldable pub header_at : List ℕ → ℕ → ℕ
header_at bytes zero = ARCHIVE_START_SIZE
header_at bytes (suc position) = next_header bytes (header_at bytes position)

abbrev pub text_at_position : List ℕ → ℕ → List ℕ
text_at_position bytes position = name_text bytes (header_at bytes position)

unfoldable pub data_at_position : List ℕ → ℕ → List ℕ
data_at_position bytes position = data_of bytes (header_at bytes position)

-- no byte is left where a header would stand
abbrev pub is_past_end : List ℕ → ℕ → Bool
is_past_end bytes position = nat_le (length bytes) (header_at bytes position)

-- ---- special members among the first `n`

abbrev pub is_directory : List ℕ → ℕ → Bool
is_directory bytes position = names_directory (text_at_position bytes position)

unfoldable pub first_directory : List ℕ → ℕ → Option ℕ
first_directory bytes n = first_below n (is_directory bytes)

-- a directory that is not the first one
abbrev pub is_later_directory : List ℕ → ℕ → Bool
is_later_directory bytes position = is_directory bytes position && is_some (first_directory bytes position)

unfoldable pub second_directory : List ℕ → ℕ → Option ℕ
second_directory bytes n = first_below n (is_later_directory bytes)

abbrev pub is_long_names : List ℕ → ℕ → Bool
is_long_names bytes position = names_long_names (text_at_position bytes position)

unfoldable pub first_long_names : List ℕ → ℕ → Option ℕ
first_long_names bytes n = first_below n (is_long_names bytes)

-- the data of the first member of long names, where there is one; where there is none, no offset lies in it
abbrev pub long_names_data : List ℕ → ℕ → Option (List ℕ)
long_names_data bytes n = option_map (data_at_position bytes) (first_long_names bytes n)

abbrev pub long_names_among : List ℕ → ℕ → List ℕ
long_names_among bytes n = unwrap_or (long_names_data bytes n) []

-- ---- what is wrong at a position

-- the first directory and the second are judged, and a later one is not
unfoldable pub directory_fails : List ℕ → ℕ → Bool
directory_fails bytes position =
    if is_none (first_directory bytes position) then directory_is_bad false (data_at_position bytes position)
    else is_none (second_directory bytes position) && directory_is_bad true (data_at_position bytes position)

-- a directory is bad, or the first member is none
unfoldable pub has_directory_fault : List ℕ → ℕ → Bool
has_directory_fault bytes position =
    if is_directory bytes position then directory_fails bytes position else position == 0

-- the header, the size, the long name, and then the directory
unfoldable pub position_fault : List ℕ → ℕ → Option LibError
position_fault bytes position =
    first_standing
    (member_fault (long_names_among bytes position) bytes (header_at bytes position)
    ∷ shown (has_directory_fault bytes position) (fault kind.Directory (header_at bytes position))
    ∷ [])

-- ---- the end of the walk

-- a fault stands, or the member is none that the walk goes on behind
unfoldable pub ends_at : List ℕ → ℕ → Bool
ends_at bytes position =
    is_some (position_fault bytes position) || not (names_special (text_at_position bytes position))

unfoldable pub ends_walk : List ℕ → ℕ → Bool
ends_walk bytes position = is_past_end bytes position || ends_at bytes position

unfoldable pub walk_end : List ℕ → Option ℕ
walk_end bytes = first_below (length bytes) (ends_walk bytes)

-- how many members the walk goes over
abbrev pub walked : List ℕ → ℕ
walked bytes = unwrap_or (walk_end bytes) 0

-- ---- the library

-- the fault at the end of the walk, where one stands there
unfoldable pub end_fault : List ℕ → ℕ → Option LibError
end_fault bytes position = if is_past_end bytes position then None else position_fault bytes position

-- the first fault in the order of the walk: none where the library is well formed
unfoldable pub library_fault : List ℕ → Option LibError
library_fault bytes =
    first_standing
    (shown (not (has_magic bytes)) (fault kind.Magic 0) ∷ option_and_then (end_fault bytes) (walk_end bytes) ∷ [])

-- the long names of the library
unfoldable pub long_names_of : List ℕ → List ℕ
long_names_of bytes = long_names_among bytes (walked bytes)

-- what the first and the second directory among the first `n` members list
abbrev pub first_listed : List ℕ → ℕ → Option (List Entry)
first_listed bytes n = option_map (λ position. listings_in false (data_at_position bytes position)) (first_directory bytes n)

abbrev pub second_listed : List ℕ → ℕ → Option (List Entry)
second_listed bytes n = option_map (λ position. listings_in true (data_at_position bytes position)) (second_directory bytes n)

-- the listings of the library: those of the second directory where there is one, else those of the first
unfoldable pub listing_of : List ℕ → List Entry
listing_of bytes = unwrap_or (second_listed bytes (walked bytes)) (unwrap_or (first_listed bytes (walked bytes)) [])
