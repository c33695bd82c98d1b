-- How many bytes an import library has, and its members as they are written.
use Rattle.std.proofs.Common.{◌≡◌, ℕ, ◌+◌, ◌*◌, ◌^◌, ◌<◌, ◌≤◌, Bool, true, false, cond, ltb, List, [], ◌∷◌, ◌++◌, length, get_or, refl, ap, ◌∙◌, append_assoc, length-append, inl, inr, lt-ltb, le-ltb, lit≤, arith}
use Rattle.std.specs.Prelude.{codes}
use Rattle.std.specs.List.{All, sum_by}
use Rattle.std.proofs.lemmas.Bool.{cases_lt}
use Rattle.std.proofs.lemmas.List.Sums.{sum_by-cons, sum_by-le}
use Rattle.std.proofs.lemmas.List.Elements.{All-tail}
use Rattle.link_base.specs.Limits.{NAME_LIMIT, FILE_LIMIT}
use Rattle.lib_reader.specs.Constants.{ARCHIVE_START, ARCHIVE_LINKER_MEMBER, ARCHIVE_LONGNAMES_MEMBER}
use Rattle.implib.specs.declared.row.LibraryRow.{LibraryRow}
use Rattle.implib.specs.declared.listing.Listing.{Listing}
use Rattle.implib.specs.Rows.{ROW_LIMIT, DLL_LIMIT, AreRows}
use Rattle.implib.specs.ArchiveMember.{member_header, line_end, member, member_size}
use Rattle.implib.specs.RowMember.{SHORT_NAME_LIMIT, member_name, text_bytes, text_size, import_of}
use Rattle.implib.specs.Listings.{lists_symbol, names_of, row_size, listings_from, headers_from, by_name, first_directory, second_directory}
use Rattle.implib.specs.ImportLibrary.{listing_count, names_size, first_size, second_size, long_names_size, rows_place, library_size, listings_of, headers_of, long_names, row_member, row_members, linker_members, library_of}
use Rattle.implib.proofs.SizeLemmas.{length-member, length-text_bytes, length-import_of, length-first_directory, length-second_directory}

-- ---- a member as it is written

pub member_written : (name : List ℕ) (time size : ℕ) (content out a b d : List ℕ) → size ≡ length content → a ≡ out ++ member_header name time size → b ≡ a ++ content → d ≡ b ++ line_end size → d ≡ out ++ member name time content
unfolding member
member_written name time size content out a b d long first second last =
    rw (last, second, first, long) (simp append_assoc)

-- ---- what rows are to be

pub short_symbols : (rows : List LibraryRow) → AreRows rows → All (λ row. length row.symbol ≤ NAME_LIMIT) rows
short_symbols rows are = λ k d lt. (are.symbols k d lt).short

few_names : (row : LibraryRow) → length (names_of row) ≤ 2
few_names row = go (lists_symbol row.kind)
  where
    go : (b : Bool) → length ((codes "__imp_" ++ row.symbol) ∷ cond b (row.symbol ∷ []) []) ≤ 2
    go true = lit≤ tt
    go false = lit≤ tt

short_names : (row : LibraryRow) → length row.symbol ≤ NAME_LIMIT → sum_by text_size (names_of row) ≤ 64008
short_names row short = go (lists_symbol row.kind)
  where
    go : (b : Bool) → sum_by text_size ((codes "__imp_" ++ row.symbol) ∷ cond b (row.symbol ∷ []) []) ≤ 64008
    go true = omega (arith, short)
    go false = omega (arith, short)

pub count_bound : (rows : List LibraryRow) → listing_count rows ≤ length rows * 2
count_bound rows = sum_by-le (λ (row : LibraryRow). length (names_of row)) 2 rows (λ k d lt. few_names (get_or rows k d))

pub names_bound : (rows : List LibraryRow) → All (λ row. length row.symbol ≤ NAME_LIMIT) rows → names_size rows ≤ length rows * 64008
names_bound rows short = sum_by-le (λ (row : LibraryRow). sum_by text_size (names_of row)) 64008 rows (λ k d lt. short_names (get_or rows k d) (short k d lt))

-- ---- the members of rows

pub short_member_name : (dll : List ℕ) → length (member_name dll) ≤ 16
short_member_name dll =
    elim (cases_lt SHORT_NAME_LIMIT (length dll)) [
      | inl long ↦ rw (lt-ltb _ _ long) (lit≤ tt)
      | inr short ↦ rw (le-ltb _ _ short) (omega (arith, short, length-append dll (codes "/")))
    ]

pub length-row_member : (dll : List ℕ) (time : ℕ) (row : LibraryRow) → length dll ≤ DLL_LIMIT → time < 2 ^ 32 → length row.symbol ≤ NAME_LIMIT → length (row_member dll time row) ≡ row_size dll row
length-row_member dll time row short early symbol =
    let long = length-import_of dll time row in
    length-member (member_name dll) time (import_of dll time row) (short_member_name dll) early (omega (arith, long, short, symbol)) ∙ ap member_size long

pub length-row_members : (dll : List ℕ) (time : ℕ) (rows : List LibraryRow) → length dll ≤ DLL_LIMIT → time < 2 ^ 32 → All (λ row. length row.symbol ≤ NAME_LIMIT) rows → length (row_members rows dll time) ≡ sum_by (row_size dll) rows
length-row_members dll time [] short early symbols = refl
length-row_members dll time (row ∷ rows) short early symbols =
    omega (arith, length-append (row_member dll time row) (row_members rows dll time), length-row_member dll time row short early (symbols 0 row (omega arith)), length-row_members dll time rows short early (All-tail (λ (r : LibraryRow). length r.symbol ≤ NAME_LIMIT) row rows symbols), sum_by-cons (row_size dll) row rows)

-- ---- the members before them

pub length-long_names : (dll : List ℕ) (time : ℕ) → length dll ≤ DLL_LIMIT → time < 2 ^ 32 → length (long_names dll time) ≡ long_names_size dll
length-long_names dll time short early = go (ltb SHORT_NAME_LIMIT (length dll))
  where
    whole : length (member ARCHIVE_LONGNAMES_MEMBER time (text_bytes dll)) ≡ member_size (text_size dll)
    whole =
        let long = length-text_bytes dll in
        length-member ARCHIVE_LONGNAMES_MEMBER time (text_bytes dll) (lit≤ tt) early (omega (arith, long, short)) ∙ ap member_size long

    go : (b : Bool) → length (cond b (member ARCHIVE_LONGNAMES_MEMBER time (text_bytes dll)) []) ≡ cond b (member_size (text_size dll)) 0
    go true = whole
    go false = refl

pub length-linker_members : (rows : List LibraryRow) (dll : List ℕ) (time : ℕ) → length rows ≤ ROW_LIMIT → All (λ row. length row.symbol ≤ NAME_LIMIT) rows → time < 2 ^ 32 → length (linker_members rows dll time) ≡ member_size (first_size rows) + member_size (second_size rows)
unfolding linker_members
length-linker_members rows dll time few symbols early =
    let first = first_directory (listings_of rows dll) in
    let second = second_directory (headers_of rows dll) (by_name (listings_of rows dll)) in
    let first_long = length-first_directory dll 1 (rows_place rows dll) rows in
    let second_long = length-second_directory dll 1 (rows_place rows dll) (rows_place rows dll) rows in
    let count = count_bound rows in
    let names = names_bound rows symbols in
    let one : length (member ARCHIVE_LINKER_MEMBER time first) ≡ member_size (first_size rows) = length-member ARCHIVE_LINKER_MEMBER time first (lit≤ tt) early (omega (arith, few, first_long, count, names)) ∙ ap member_size first_long in
    let two : length (member ARCHIVE_LINKER_MEMBER time second) ≡ member_size (second_size rows) = length-member ARCHIVE_LINKER_MEMBER time second (lit≤ tt) early (omega (arith, few, second_long, count, names)) ∙ ap member_size second_long in
    length-append (member ARCHIVE_LINKER_MEMBER time first) (member ARCHIVE_LINKER_MEMBER time second) ∙ ap (λ (n : ℕ). n + length (member ARCHIVE_LINKER_MEMBER time second)) one ∙ ap (λ (n : ℕ). member_size (first_size rows) + n) two

-- ---- the whole

pub library_length : (rows : List LibraryRow) (dll : List ℕ) (time : ℕ) → AreRows rows → length dll ≤ DLL_LIMIT → time < 2 ^ 32 → length (library_of rows dll time) ≡ library_size rows dll
unfolding library_of library_size rows_place
library_length rows dll time are short early =
    let symbols = short_symbols rows are in
    simp (length-append) (omega (arith, length-linker_members rows dll time are.few symbols early, length-long_names dll time short early, length-row_members dll time rows short early symbols))

-- what is small in a library that is
pub record IsSmall (rows : List LibraryRow) (dll : List ℕ) : Type 0 where
  pub first : first_size rows ≤ FILE_LIMIT
  pub second : second_size rows ≤ FILE_LIMIT
  pub count : listing_count rows ≤ FILE_LIMIT
  pub whole : rows_place rows dll + sum_by (row_size dll) rows ≤ FILE_LIMIT

pub small_library : (rows : List LibraryRow) (dll : List ℕ) → library_size rows dll ≤ FILE_LIMIT → IsSmall rows dll
unfolding library_size rows_place
small_library rows dll fits = record { first = omega (arith, fits); second = omega (arith, fits); count = omega (arith, fits); whole = omega (arith, fits) }

pub linkers_written : (rows : List LibraryRow) (dll : List ℕ) (time start : ℕ) (listings sorted : List Listing) (out a b : List ℕ) → start ≡ rows_place rows dll → listings ≡ listings_from dll 1 start rows → sorted ≡ by_name listings
    → a ≡ out ++ member ARCHIVE_LINKER_MEMBER time (first_directory listings) → b ≡ a ++ member ARCHIVE_LINKER_MEMBER time (second_directory (headers_from dll start rows) sorted) → b ≡ out ++ linker_members rows dll time
unfolding linker_members
linkers_written rows dll time start listings sorted out a b place listed order first second =
    rw (second, first, order, listed, place) (simp append_assoc)

pub library_written : (rows : List LibraryRow) (dll : List ℕ) (time : ℕ) (none a b d e : List ℕ) → none ≡ [] → a ≡ none ++ ARCHIVE_START → b ≡ a ++ linker_members rows dll time → d ≡ b ++ long_names dll time → e ≡ d ++ row_members rows dll time → e ≡ library_of rows dll time
unfolding library_of
library_written rows dll time none a b d e empty start linkers long members =
    rw (members, long, linkers, start, empty) (append_assoc (ARCHIVE_START ++ linker_members rows dll time) (long_names dll time) (row_members rows dll time) ∙ append_assoc ARCHIVE_START (linker_members rows dll time) (long_names dll time ++ row_members rows dll time))
