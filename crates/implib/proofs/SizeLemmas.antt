-- How many bytes the parts of an import library have.
use Rattle.std.proofs.Common.{◌≡◌, ℕ, ◌+◌, ◌*◌, ◌-◌, ◌%◌, ◌^◌, ◌<◌, ◌≤◌, List, [], ◌∷◌, ◌++◌, length, map, refl, length-append, lit<, arith}
use Rattle.std.specs.Prelude.{replicate}
use Rattle.std.specs.List.{sum_by, flat_map}
use Rattle.std.specs.Fmt.{decimal}
use Rattle.std.proofs.lemmas.Fmt.{length-decimal-le}
use Rattle.std.proofs.lemmas.List.{length-replicate, length-map}
use Rattle.std.proofs.lemmas.List.Sums.{sum_by-cons, sum_by-append}
use Rattle.std.proofs.lemmas.List.Sorted.{sum_by-IsPermutation, length_permutation}
use Rattle.byteorder.specs.Endian.{big_bytes}
use Rattle.byteorder.specs.Numbers.{length-bytes_high_first}
use Rattle.link_base.specs.Bytes.{number_bytes}
use Rattle.link_base.proofs.CallerLemmas.{length-number_bytes}
use Rattle.link_base.proofs.PartLemmas.{numbers_len}
use Rattle.sorted_lists.proofs.CallerLemmas.{order_permutes}
use Rattle.implib.specs.declared.row.LibraryRow.{LibraryRow}
use Rattle.implib.specs.declared.listing.Listing.{Listing}
use Rattle.implib.specs.ArchiveMember.{padded, member_header, line_end, member, member_size}
use Rattle.implib.specs.RowMember.{text_bytes, text_size, import_header, import_of, import_size}
use Rattle.implib.specs.Listings.{names_of, row_size, listed, listings_from, headers_from, listing_cmp, by_name, listed_names, first_directory, second_directory}
use Rattle.implib.specs.ImportLibrary.{listing_count, names_size, first_size, second_size}

-- ---- members

pub length-padded : (width : ℕ) (text : List ℕ) → length text ≤ width → length (padded width text) ≡ width
length-padded width text le = omega (arith, length-append text (replicate (width - length text) 32), length-replicate {A = ℕ} (width - length text) 32)

pub length-member_header : (name : List ℕ) (time size : ℕ) → length name ≤ 16 → time < 2 ^ 32 → size < 10 ^ 10 → length (member_header name time size) ≡ 60
unfolding member_header
length-member_header name time size short early small =
    let date : length (decimal time) ≤ 12 = length-decimal-le 12 time (lit< tt) (omega (arith, early)) (omega (arith, early)) in
    let digits : length (decimal size) ≤ 10 = length-decimal-le 10 size (lit< tt) small (omega (arith, small)) in
    simp (length-append, length-replicate) (omega (arith, short, date, digits))

pub length-line_end : (size : ℕ) → length (line_end size) ≡ size % 2
length-line_end size = grind arith

pub length-member : (name : List ℕ) (time : ℕ) (content : List ℕ) → length name ≤ 16 → time < 2 ^ 32 → length content < 10 ^ 10 → length (member name time content) ≡ member_size (length content)
unfolding member
length-member name time content short early small =
    omega (arith, length-append (member_header name time (length content)) (content ++ line_end (length content)), length-append content (line_end (length content)), length-member_header name time (length content) short early small, length-line_end (length content))

-- ---- short imports

pub length-text_bytes : (text : List ℕ) → length (text_bytes text) ≡ text_size text
length-text_bytes text = length-append text (0 ∷ [])

pub length-import_header : (dll : List ℕ) (time : ℕ) (row : LibraryRow) → length (import_header dll time row) ≡ 20
unfolding number_bytes
length-import_header dll time row = refl

pub length-import_of : (dll : List ℕ) (time : ℕ) (row : LibraryRow) → length (import_of dll time row) ≡ import_size dll row
unfolding import_of
length-import_of dll time row =
    omega (arith, length-append (import_header dll time row) (text_bytes row.symbol ++ text_bytes dll), length-append (text_bytes row.symbol) (text_bytes dll), length-import_header dll time row, length-text_bytes row.symbol, length-text_bytes dll)

-- ---- listings

abbrev pub listing_size : Listing → ℕ
listing_size listing = text_size listing.name

pub length-listed_names : (listings : List Listing) → length (listed_names listings) ≡ sum_by listing_size listings
length-listed_names [] = refl
length-listed_names (listing ∷ listings) =
    omega (arith, length-append (text_bytes listing.name) (listed_names listings), length-text_bytes listing.name, length-listed_names listings, sum_by-cons listing_size listing listings)

pub length-listings_from : (dll : List ℕ) (number header : ℕ) (rows : List LibraryRow) → length (listings_from dll number header rows) ≡ listing_count rows
unfolding listings_from
length-listings_from dll number header [] = refl
length-listings_from dll number header (row ∷ rows) =
    omega (arith, length-append (map (listed number header) (names_of row)) (listings_from dll (number + 1) (header + row_size dll row) rows), length-map (names_of row) (listed number header), length-listings_from dll (number + 1) (header + row_size dll row) rows, sum_by-cons (λ (r : LibraryRow). length (names_of r)) row rows)

names_listed : (number header : ℕ) (names : List (List ℕ)) → sum_by listing_size (map (listed number header) names) ≡ sum_by text_size names
names_listed number header [] = refl
names_listed number header (name ∷ names) =
    omega (arith, sum_by-cons listing_size (listed number header name) (map (listed number header) names), sum_by-cons text_size name names, names_listed number header names)

pub size-listings_from : (dll : List ℕ) (number header : ℕ) (rows : List LibraryRow) → sum_by listing_size (listings_from dll number header rows) ≡ names_size rows
unfolding listings_from
size-listings_from dll number header [] = refl
size-listings_from dll number header (row ∷ rows) =
    omega (arith, sum_by-append listing_size (map (listed number header) (names_of row)) (listings_from dll (number + 1) (header + row_size dll row) rows), names_listed number header (names_of row), size-listings_from dll (number + 1) (header + row_size dll row) rows, sum_by-cons (λ (r : LibraryRow). sum_by text_size (names_of r)) row rows)

pub length-headers_from : (dll : List ℕ) (header : ℕ) (rows : List LibraryRow) → length (headers_from dll header rows) ≡ length rows
unfolding headers_from
length-headers_from dll header [] = refl
length-headers_from dll header (row ∷ rows) = let rest = length-headers_from dll (header + row_size dll row) rows in omega (arith, rest)

-- those in order are as many, and as long
pub length-by_name : (listings : List Listing) → length (by_name listings) ≡ length listings
length-by_name listings = length_permutation listings (by_name listings) (order_permutes listing_cmp listings)

pub size-by_name : (listings : List Listing) → sum_by listing_size (by_name listings) ≡ sum_by listing_size listings
size-by_name listings = sum_by-IsPermutation listing_size listings (by_name listings) (order_permutes listing_cmp listings)

-- ---- linker members

big_length : (numbers : List Listing) → length (flat_map (λ (listing : Listing). big_bytes 4 listing.header) numbers) ≡ 4 * length numbers
big_length [] = refl
big_length (listing ∷ listings) =
    omega (arith, length-append (big_bytes 4 listing.header) (flat_map (λ (listing : Listing). big_bytes 4 listing.header) listings), length-bytes_high_first 4 listing.header, big_length listings)

member_length : (listings : List Listing) → length (flat_map (λ (listing : Listing). number_bytes 2 listing.member) listings) ≡ 2 * length listings
member_length [] = refl
member_length (listing ∷ listings) =
    omega (arith, length-append (number_bytes 2 listing.member) (flat_map (λ (listing : Listing). number_bytes 2 listing.member) listings), length-number_bytes 2 listing.member, member_length listings)

pub length-first_directory : (dll : List ℕ) (number header : ℕ) (rows : List LibraryRow) → length (first_directory (listings_from dll number header rows)) ≡ first_size rows
unfolding first_directory
length-first_directory dll number header rows =
    let listings = listings_from dll number header rows in
    simp (length-append) (omega (arith, length-bytes_high_first 4 (length listings), big_length listings, length-listed_names listings, length-listings_from dll number header rows, size-listings_from dll number header rows))

pub length-second_directory : (dll : List ℕ) (number header start : ℕ) (rows : List LibraryRow) → length (second_directory (headers_from dll start rows) (by_name (listings_from dll number header rows))) ≡ second_size rows
unfolding second_directory
length-second_directory dll number header start rows =
    let listings = listings_from dll number header rows in
    let headers = headers_from dll start rows in
    simp (length-append) (omega (arith, length-number_bytes 4 (length headers), numbers_len headers, length-number_bytes 4 (length (by_name listings)), member_length (by_name listings), length-listed_names (by_name listings), length-headers_from dll start rows, length-by_name listings, size-by_name listings, length-listings_from dll number header rows, size-listings_from dll number header rows))
