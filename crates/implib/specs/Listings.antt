-- What the rows of an import library list, and the two linker members that say so (PE Format, "First Linker Member" and
-- "Second Linker Member").
use Rattle.std.specs.Prelude.{ℕ, ◌+◌, Bool, true, false, if◌then◌else◌, List, [], ◌∷◌, ◌++◌, length, map}
use Rattle.std.specs.List.{flat_map}
use Rattle.std.specs.Ordering.{nat_cmp, then_cmp, on}
use Rattle.std.specs.declared.cmp.Ordering.{Ordering}
use Rattle.std.specs.Cmp.Lexicographic.{slice_cmp}
use Rattle.byteorder.specs.Endian.{big_bytes}
use Rattle.link_base.specs.Bytes.{number_bytes}
use Rattle.link_base.specs.NameText.{import_prefix}
use Rattle.sorted_lists.specs.Order.{in_order}
use Rattle.short_import.specs.declared.import.ImportKind.{ImportKind}
use Rattle.short_import.specs.declared.import.ImportKind.TheVariants.{Code, Data, Const}
use Rattle.implib.specs.declared.row.LibraryRow.{LibraryRow}
use Rattle.implib.specs.declared.listing.Listing.{Listing}
use Rattle.implib.specs.ArchiveMember.{member_size}
use Rattle.implib.specs.RowMember.{text_bytes, import_size}

-- ---- names

-- a row lists its symbol too, unless it is data, which are only reached through the import address table
abbrev pub lists_symbol : ImportKind → Bool
lists_symbol Code = true
lists_symbol Data = false
lists_symbol Const = true

-- the names that a row lists: that of its entry of the import address table, and its symbol
abbrev pub names_of : LibraryRow → List (List ℕ)
names_of row = (import_prefix ++ row.symbol) ∷ (if lists_symbol row.kind then row.symbol ∷ [] else [])

-- the names that rows list, each with its NUL, one behind the other
abbrev pub row_names : LibraryRow → List ℕ
row_names row = flat_map text_bytes (names_of row)

abbrev pub joined_names : List LibraryRow → List ℕ
joined_names rows = flat_map row_names rows

-- ---- listings

-- the size of the member of a row
abbrev pub row_size : List ℕ → LibraryRow → ℕ
row_size dll row = member_size (import_size dll row)

abbrev pub listed : ℕ → ℕ → List ℕ → Listing
listed member header name = record { name = name; member = member; header = header }

-- the listings of rows, of which the first has this index, and its header stands at this offset
unfoldable pub listings_from : List ℕ → ℕ → ℕ → List LibraryRow → List Listing
listings_from dll member header [] = []
listings_from dll member header (row ∷ rows) =
    map (listed member header) (names_of row) ++ listings_from dll (member + 1) (header + row_size dll row) rows

-- the offset of each row's header, of which the first stands at this one
unfoldable pub headers_from : List ℕ → ℕ → List LibraryRow → List ℕ
headers_from dll header [] = []
headers_from dll header (row ∷ rows) = header ∷ headers_from dll (header + row_size dll row) rows

-- listings by the bytes of their names; where these are equal the rows count
abbrev pub listing_cmp : Listing → Listing → Ordering
listing_cmp =
    then_cmp (on (λ listing. listing.name) (slice_cmp nat_cmp))
    (then_cmp (on (λ listing. listing.member) nat_cmp) (on (λ listing. listing.header) nat_cmp))

abbrev pub by_name : List Listing → List Listing
by_name listings = in_order listing_cmp listings

-- ---- the linker members

abbrev pub listed_names : List Listing → List ℕ
listed_names listings = flat_map (λ listing. text_bytes listing.name) listings

-- the count of listings, the offset of each one's member, and the names, the numbers with the highest byte first
unfoldable pub first_directory : List Listing → List ℕ
first_directory listings =
    big_bytes 4 (length listings) ++ (flat_map (λ listing. big_bytes 4 listing.header) listings ++ listed_names listings)

-- the count of members and the offsets of their headers, the count of listings, the index of each one's member, and the
-- names, the numbers with the lowest byte first
unfoldable pub second_directory : List ℕ → List Listing → List ℕ
second_directory headers listings =
    number_bytes 4 (length headers)
    ++ (flat_map (number_bytes 4) headers
    ++ (number_bytes 4 (length listings) ++ (flat_map (λ listing. number_bytes 2 listing.member) listings ++ listed_names listings)))
