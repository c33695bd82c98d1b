-- An import library opens: what it lists, and its members.
use Rattle.std.proofs.Common.{◌≡◌, ℕ, ◌+◌, ◌^◌, ◌<◌, true, false, cond, ltb, List, [], ◌∷◌, ◌++◌, length, map, get_or, Option, Some, None, unwrap_or, refl, sym, ap, ◌∙◌, subst, inl, inr, lt-ltb, le-ltb, arith}
use Rattle.std.specs.Prelude.{nat_eq, codes}
use Rattle.std.proofs.lemmas.Bool.{cases_lt, ne_eqb}
use Rattle.link_base.specs.Decimal.{decimal_number}
use Rattle.lib_reader.specs.MemberName.{names_special, names_an_offset, long_offset}
use Rattle.lib_reader.specs.MemberFault.{lacks_long_name, member_fault}
use Rattle.lib_reader.specs.Listing.{Entry, listings_in}
use Rattle.lib_reader.specs.LibraryWalk.{has_magic, long_names_of}
use Rattle.implib.specs.declared.row.LibraryRow.{LibraryRow}
use Rattle.implib.specs.ArchiveMember.{member_size}
use Rattle.implib.specs.RowMember.{SHORT_NAME_LIMIT, member_name, text_bytes, import_of}
use Rattle.implib.specs.Listings.{by_name}
use Rattle.implib.specs.ImportLibrary.{long_names_size, rows_place, header_of, library_size, listings_of, headers_of, library_of}
use Rattle.implib.specs.ReadBack.{CanBeWritten, IsPlainName}
use Rattle.implib.proofs.SizeLemmas.{length-text_bytes, length-listings_from, length-headers_from, length-by_name, length-first_directory, length-second_directory}
use Rattle.implib.proofs.LibraryLemmas.{count_bound, library_length}
use Rattle.implib.proofs.MemberLemmas.{IsMember, member_here}
use Rattle.implib.proofs.PlaceLemmas.{second_place, names_place, first_content, second_content, first_stands, second_stands, names_stand, row_stands}
use Rattle.implib.proofs.SearchLemmas.{entry}
use Rattle.implib.proofs.DirectoryLemmas.{first_well, second_well, second_listed}
use Rattle.implib.proofs.ListedLemmas.{listings_are_listed, plain_listings}
use Rattle.implib.proofs.WalkLemmas.{IsBefore, before_all, behind_linker, behind_names, Opens, opens_past, opens_there, no_fault}

-- ---- the name of the rows' members

-- the long names that a library has, where the name of its DLL is one
abbrev pub names_held : List ℕ → Option (List ℕ)
names_held dll = cond (ltb SHORT_NAME_LIMIT (length dll)) (Some (text_bytes dll)) None

other_start : (dll rest : List ℕ) → 0 < length dll → IsPlainName dll → (names_special (dll ++ rest) ≡ false) × (names_an_offset (dll ++ rest) ≡ false)
unfolding names_special names_an_offset
other_start [] rest some plain = absurd (omega (arith, some))
other_start (byte ∷ dll) rest some plain =
    let first : nat_eq byte 47 ≡ false = ne_eqb byte 47 plain in
    let back : nat_eq 47 byte ≡ false = ne_eqb 47 byte (λ e. plain (sym e)) in
    (rw (first, back) refl, rw first refl)

plain_name : (dll : List ℕ) → 0 < length dll → IsPlainName dll → names_special (member_name dll) ≡ false
unfolding names_special
plain_name dll some plain =
    elim (cases_lt SHORT_NAME_LIMIT (length dll)) [
      | inl long ↦ rw (lt-ltb _ _ long) refl
      | inr short ↦ rw (le-ltb _ _ short) (other_start dll (codes "/") some plain).0
    ]

first_name : (long_names : List ℕ) → 0 < length long_names → lacks_long_name long_names (codes "/0") ≡ false
unfolding lacks_long_name names_an_offset names_special long_offset decimal_number
first_name long_names some = rw (lt-ltb _ _ some) refl

name_there : (dll : List ℕ) → 0 < length dll → IsPlainName dll → lacks_long_name (unwrap_or (names_held dll) []) (member_name dll) ≡ false
unfolding lacks_long_name
name_there dll some plain =
    elim (cases_lt SHORT_NAME_LIMIT (length dll)) [
      | inl long ↦ rw (lt-ltb _ _ long) (first_name (text_bytes dll) (omega (arith, length-text_bytes dll)))
      | inr short ↦ rw (le-ltb _ _ short, (other_start dll (codes "/") some plain).1) refl
    ]

-- ---- behind the linker members

moved : (bytes : List ℕ) (position at place : ℕ) (first second : Option (List Entry)) (names : Option (List ℕ)) → at ≡ place → IsBefore bytes position at first second names → IsBefore bytes position place first second names
moved bytes position at place first second names same before = subst (λ (n : ℕ). IsBefore bytes position n first second names) same before

behind_first : (rows : List LibraryRow) (dll : List ℕ) (time : ℕ) → CanBeWritten rows dll time → IsBefore (library_of rows dll time) 1 (second_place rows) (Some (listings_in false (first_content rows dll))) None None
behind_first rows dll time w =
    let bytes = library_of rows dll time in
    let is = member_here _ _ _ _ _ _ (first_stands rows dll time w) in
    let long = length-first_directory dll 1 (rows_place rows dll) rows in
    let count : length (listings_of rows dll) < 2 ^ 32 = omega (arith, length-listings_from dll 1 (rows_place rows dll) rows, count_bound rows, w.rows_are.few) in
    let well = first_well (listings_of rows dll) count (plain_listings rows dll time w) in
    moved bytes 1 (8 + member_size (length (first_content rows dll))) (second_place rows) (Some (listings_in false (first_content rows dll))) None None (ap (λ (n : ℕ). 8 + member_size n) long) (behind_linker bytes 0 8 (first_content rows dll) None None None (before_all bytes) is well)

behind_second : (rows : List LibraryRow) (dll : List ℕ) (time : ℕ) → CanBeWritten rows dll time → IsBefore (library_of rows dll time) 2 (names_place rows) (Some (listings_in false (first_content rows dll))) (Some (map entry (by_name (listings_of rows dll)))) None
behind_second rows dll time w =
    let bytes = library_of rows dll time in
    let is = member_here _ _ _ _ _ _ (second_stands rows dll time w) in
    let long = length-second_directory dll 1 (rows_place rows dll) (rows_place rows dll) rows in
    let listings = by_name (listings_of rows dll) in
    let few : length (headers_of rows dll) < 2 ^ 32 = omega (arith, length-headers_from dll (rows_place rows dll) rows, w.rows_are.few) in
    let count : length listings < 2 ^ 32 = omega (arith, length-by_name (listings_of rows dll), length-listings_from dll 1 (rows_place rows dll) rows, count_bound rows, w.rows_are.few) in
    let listed = listings_are_listed rows dll time w in
    let first : Option (List Entry) = Some (listings_in false (first_content rows dll)) in
    let before = behind_linker bytes 1 (second_place rows) (second_content rows dll) first None None (behind_first rows dll time w) is (second_well (headers_of rows dll) listings few count listed) in
    let here = moved bytes 2 (second_place rows + member_size (length (second_content rows dll))) (names_place rows) first (Some (listings_in true (second_content rows dll))) None (ap (λ (n : ℕ). second_place rows + member_size n) long) before in
    subst (λ (entries : List Entry). IsBefore bytes 2 (names_place rows) first (Some entries) None) (second_listed (headers_of rows dll) listings few count listed) here

-- ---- at the first row

starts : (rows : List LibraryRow) (dll : List ℕ) (time : ℕ) → has_magic (library_of rows dll time) ≡ true
unfolding library_of
starts rows dll time = refl

opens_at : (rows : List LibraryRow) (dll : List ℕ) (time position : ℕ) (first : Option (List Entry)) (second : List Entry) (names : Option (List ℕ)) → CanBeWritten rows dll time → IsPlainName dll → lacks_long_name (unwrap_or names []) (member_name dll) ≡ false → (position ≡ 0 → ⊥) → position < length (library_of rows dll time)
    → IsBefore (library_of rows dll time) position (rows_place rows dll) first (Some second) names → Opens (library_of rows dll time) second (unwrap_or names [])
unfolding library_size header_of
opens_at [] dll time position first second names w plain has later lt before =
    opens_past (library_of [] dll time) position (rows_place [] dll) first second names (starts [] dll time) before (omega (arith, library_length [] dll time w.rows_are w.dll_is.short w.early)) lt
opens_at (row ∷ rows) dll time position first second names w plain has later lt before =
    let all : List LibraryRow = row ∷ rows in
    let bytes = library_of all dll time in
    let is = member_here _ _ _ _ _ _ (row_stands all dll time 0 row w (omega arith) refl) in
    let place : header_of all dll 0 ≡ rows_place all dll = omega arith in
    let here = subst (λ (n : ℕ). IsMember bytes n (member_name dll) (import_of dll time row)) place is in
    opens_there bytes position (rows_place all dll) (member_name dll) (import_of dll time row) first second names (starts all dll time) before here (plain_name dll w.dll_is.some plain) has later lt

pub library_opens : (rows : List LibraryRow) (dll : List ℕ) (time : ℕ) → CanBeWritten rows dll time → IsPlainName dll → Opens (library_of rows dll time) (map entry (by_name (listings_of rows dll))) (unwrap_or (names_held dll) [])
unfolding rows_place
library_opens rows dll time w plain =
    let bytes = library_of rows dll time in
    let first : Option (List Entry) = Some (listings_in false (first_content rows dll)) in
    let second = map entry (by_name (listings_of rows dll)) in
    let before = behind_second rows dll time w in
    let long_enough : 3 < length bytes = omega (arith, (member_here _ _ _ _ _ _ (second_stands rows dll time w)).inside) in
    let has = name_there dll w.dll_is.some plain in
    elim (cases_lt SHORT_NAME_LIMIT (length dll)) [
      | inl long ↦
          let held : names_held dll ≡ Some (text_bytes dll) = rw (lt-ltb _ _ long) refl in
          let is = member_here _ _ _ _ _ _ (names_stand rows dll time w long) in
          let size : long_names_size dll ≡ member_size (length (text_bytes dll)) = rw (lt-ltb _ _ long) (ap member_size (sym (length-text_bytes dll))) in
          let place : names_place rows + member_size (length (text_bytes dll)) ≡ rows_place rows dll = omega (arith, size) in
          let names : IsBefore bytes 3 (rows_place rows dll) first (Some second) (names_held dll) = subst (λ (found : Option (List ℕ)). IsBefore bytes 3 (rows_place rows dll) first (Some second) found) (sym held) (moved bytes 3 _ (rows_place rows dll) first (Some second) (Some (text_bytes dll)) place (behind_names bytes 2 (names_place rows) (text_bytes dll) first (Some second) before is (λ e. omega (arith, e)))) in
          opens_at rows dll time 3 first second (names_held dll) w plain has (λ e. omega (arith, e)) long_enough names
      | inr short ↦
          let held : names_held dll ≡ None = rw (le-ltb _ _ short) refl in
          let size : long_names_size dll ≡ 0 = rw (le-ltb _ _ short) refl in
          let place : names_place rows ≡ rows_place rows dll = omega (arith, size) in
          let names : IsBefore bytes 2 (rows_place rows dll) first (Some second) (names_held dll) = subst (λ (found : Option (List ℕ)). IsBefore bytes 2 (rows_place rows dll) first (Some second) found) (sym held) (moved bytes 2 (names_place rows) (rows_place rows dll) first (Some second) None place before) in
          opens_at rows dll time 2 first second (names_held dll) w plain has (λ e. omega (arith, e)) (omega (arith, long_enough)) names
    ]

-- ---- each row's member

pub member_opens : (rows : List LibraryRow) (dll : List ℕ) (time index : ℕ) (row : LibraryRow) → CanBeWritten rows dll time → IsPlainName dll → index < length rows → row ≡ get_or rows index row → member_fault (long_names_of (library_of rows dll time)) (library_of rows dll time) (header_of rows dll index) ≡ None
member_opens rows dll time index row w plain lt is =
    let bytes = library_of rows dll time in
    ap (λ (names : List ℕ). member_fault names bytes (header_of rows dll index)) (library_opens rows dll time w plain).names_are
    ∙ no_fault (unwrap_or (names_held dll) []) bytes (header_of rows dll index) (member_name dll) (import_of dll time row) (member_here _ _ _ _ _ _ (row_stands rows dll time index row w lt is)) (name_there dll w.dll_is.some plain)
