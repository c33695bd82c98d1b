-- The import library of a DLL (PE Format, "Archive (Library) File Format" and "Import Library Format").
use Rattle.std.specs.Prelude.{ℕ, ◌+◌, ◌*◌, nat_lt, if◌then◌else◌, List, [], ◌++◌, length, sum_by, take}
use Rattle.std.specs.List.{flat_map}
use Rattle.lib_reader.specs.Constants.{ARCHIVE_START, ARCHIVE_START_SIZE, ARCHIVE_LINKER_MEMBER, ARCHIVE_LONGNAMES_MEMBER}
use Rattle.implib.specs.declared.row.LibraryRow.{LibraryRow}
use Rattle.implib.specs.declared.listing.Listing.{Listing}
use Rattle.implib.specs.ArchiveMember.{member, member_size}
use Rattle.implib.specs.RowMember.{SHORT_NAME_LIMIT, member_name, text_bytes, text_size, import_of}
use Rattle.implib.specs.Listings.{names_of, row_size, listings_from, headers_from, by_name, first_directory, second_directory}

-- ---- sizes and places

-- how many listings some rows have, and how many bytes their names
abbrev pub listing_count : List LibraryRow → ℕ
listing_count rows = sum_by (λ row. length (names_of row)) rows

abbrev pub names_size : List LibraryRow → ℕ
names_size rows = sum_by (λ row. sum_by text_size (names_of row)) rows

abbrev pub first_size : List LibraryRow → ℕ
first_size rows = 4 + 4 * listing_count rows + names_size rows

abbrev pub second_size : List LibraryRow → ℕ
second_size rows = 8 + 4 * length rows + 2 * listing_count rows + names_size rows

abbrev pub long_names_size : List ℕ → ℕ
long_names_size dll = if nat_lt SHORT_NAME_LIMIT (length dll) then member_size (text_size dll) else 0

-- the offset of the first row's header
unfoldable pub rows_place : List LibraryRow → List ℕ → ℕ
rows_place rows dll =
    ARCHIVE_START_SIZE + member_size (first_size rows) + member_size (second_size rows) + long_names_size dll

-- the offset of the header of the row at an index
unfoldable pub header_of : List LibraryRow → List ℕ → ℕ → ℕ
header_of rows dll index = rows_place rows dll + sum_by (row_size dll) (take index rows)

unfoldable pub library_size : List LibraryRow → List ℕ → ℕ
library_size rows dll = rows_place rows dll + sum_by (row_size dll) rows

-- ---- the library

-- all listings, and the offsets of all rows' headers
abbrev pub listings_of : List LibraryRow → List ℕ → List Listing
listings_of rows dll = listings_from dll 1 (rows_place rows dll) rows

abbrev pub headers_of : List LibraryRow → List ℕ → List ℕ
headers_of rows dll = headers_from dll (rows_place rows dll) rows

-- the member of long names, where the name of the DLL is one
abbrev pub long_names : List ℕ → ℕ → List ℕ
long_names dll time =
    if nat_lt SHORT_NAME_LIMIT (length dll) then member ARCHIVE_LONGNAMES_MEMBER time (text_bytes dll) else []

-- the members of rows
abbrev pub row_member : List ℕ → ℕ → LibraryRow → List ℕ
row_member dll time row = member (member_name dll) time (import_of dll time row)

abbrev pub row_members : List LibraryRow → List ℕ → ℕ → List ℕ
row_members rows dll time = flat_map (row_member dll time) rows

-- both linker members
unfoldable pub linker_members : List LibraryRow → List ℕ → ℕ → List ℕ
linker_members rows dll time =
    member ARCHIVE_LINKER_MEMBER time (first_directory (listings_of rows dll))
    ++ member ARCHIVE_LINKER_MEMBER time (second_directory (headers_of rows dll) (by_name (listings_of rows dll)))

-- the import library of some rows, of a DLL and of a time
unfoldable pub library_of : List LibraryRow → List ℕ → ℕ → List ℕ
library_of rows dll time =
    ARCHIVE_START ++ (linker_members rows dll time ++ (long_names dll time ++ row_members rows dll time))
