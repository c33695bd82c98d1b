-- Where the members of an import library stand.
use Rattle.std.proofs.Common.{◌≡◌, ℕ, ◌+◌, ◌-◌, ◌<◌, ◌≤◌, Bool, cond, List, [], ◌∷◌, ◌++◌, length, take, drop, get_or, slice_index, refl, sym, ap, ◌∙◌, inl, inr, append_assoc, lt-ltb, le-ltb, length-append, lit<, lit≤, arith}
use Rattle.std.specs.Prelude.{codes}
use Rattle.std.specs.List.{sum_by}
use Rattle.std.proofs.lemmas.Bool.{cases_lt}
use Rattle.std.proofs.lemmas.List.{drop_at, drop-drop, drop_more, take-append-drop, get_or-append_right}
use Rattle.std.proofs.lemmas.List.Concat.{flat_map-append}
use Rattle.std.proofs.lemmas.List.Elements.{All-take}
use Rattle.link_base.specs.Limits.{NAME_LIMIT, FILE_LIMIT}
use Rattle.lib_reader.specs.Constants.{ARCHIVE_START, ARCHIVE_LINKER_MEMBER, ARCHIVE_LONGNAMES_MEMBER}
use Rattle.implib.specs.declared.row.LibraryRow.{LibraryRow}
use Rattle.implib.specs.ArchiveMember.{member, member_size}
use Rattle.implib.specs.RowMember.{SHORT_NAME_LIMIT, member_name, text_bytes, import_of}
use Rattle.implib.specs.Listings.{row_size, by_name, first_directory, second_directory}
use Rattle.implib.specs.ImportLibrary.{first_size, second_size, long_names_size, rows_place, header_of, listings_of, headers_of, long_names, row_member, row_members, linker_members, library_of}
use Rattle.implib.specs.ReadBack.{CanBeWritten}
use Rattle.implib.proofs.SizeLemmas.{length-member, length-text_bytes, length-import_of, length-first_directory, length-second_directory}
use Rattle.implib.proofs.LibraryLemmas.{short_symbols, short_member_name, length-row_members, length-long_names, library_length, small_library}
use Rattle.implib.proofs.MemberLemmas.{IsFieldText, StandsAt}

-- ---- names of members

pub linker_text : IsFieldText ARCHIVE_LINKER_MEMBER
linker_text = record { some = lit< tt; last = λ e. omega (arith, e) }

pub long_text : IsFieldText ARCHIVE_LONGNAMES_MEMBER
long_text = record { some = lit< tt; last = λ e. omega (arith, e) }

pub name_text : (dll : List ℕ) → IsFieldText (member_name dll)
name_text dll =
    elim (cases_lt SHORT_NAME_LIMIT (length dll)) [
      | inl long ↦ rw (lt-ltb _ _ long) (record { some = lit< tt; last = λ e. omega (arith, e) })
      | inr short ↦ rw (le-ltb _ _ short) (record {
        some = omega (arith, length-append dll (codes "/"));
        last = λ e.
            let long : length (dll ++ codes "/") - 1 ≡ length dll = omega (arith, length-append dll (codes "/")) in
            let first : length dll - length dll ≡ 0 = omega arith in
            let end = ap (slice_index (dll ++ codes "/")) long ∙ get_or-append_right dll (codes "/") (length dll) (length dll) 0 refl (omega arith) ∙ ap (slice_index (codes "/")) first in
            omega (arith, e, end);
      })
    ]

-- ---- places

abbrev pub second_place : List LibraryRow → ℕ
second_place rows = 8 + member_size (first_size rows)

abbrev pub names_place : List LibraryRow → ℕ
names_place rows = second_place rows + member_size (second_size rows)

-- what stands behind the linker members
abbrev pub behind_linkers : List LibraryRow → List ℕ → ℕ → List ℕ
behind_linkers rows dll time = long_names dll time ++ row_members rows dll time

abbrev pub first_content : List LibraryRow → List ℕ → List ℕ
first_content rows dll = first_directory (listings_of rows dll)

abbrev pub second_content : List LibraryRow → List ℕ → List ℕ
second_content rows dll = second_directory (headers_of rows dll) (by_name (listings_of rows dll))

abbrev first_member : List LibraryRow → List ℕ → ℕ → List ℕ
first_member rows dll time = member ARCHIVE_LINKER_MEMBER time (first_content rows dll)

abbrev second_member : List LibraryRow → List ℕ → ℕ → List ℕ
second_member rows dll time = member ARCHIVE_LINKER_MEMBER time (second_content rows dll)

pub small : (rows : List LibraryRow) (dll : List ℕ) (time : ℕ) → CanBeWritten rows dll time → (first_size rows ≤ FILE_LIMIT) × (second_size rows ≤ FILE_LIMIT) × (rows_place rows dll + sum_by (row_size dll) rows ≤ FILE_LIMIT)
small rows dll time w =
    let long = library_length rows dll time w.rows_are w.dll_is.short w.early in
    let is = small_library rows dll (omega (arith, long, w.fits)) in
    (is.first, is.second, is.whole)

first_there : (rows : List LibraryRow) (dll : List ℕ) (time : ℕ) → drop 8 (library_of rows dll time) ≡ first_member rows dll time ++ (second_member rows dll time ++ behind_linkers rows dll time)
unfolding library_of linker_members
first_there rows dll time =
    drop_at ARCHIVE_START ((first_member rows dll time ++ second_member rows dll time) ++ behind_linkers rows dll time) 8 refl
    ∙ append_assoc (first_member rows dll time) (second_member rows dll time) (behind_linkers rows dll time)

first_long : (rows : List LibraryRow) (dll : List ℕ) (time : ℕ) → CanBeWritten rows dll time → length (first_member rows dll time) ≡ member_size (first_size rows)
first_long rows dll time w =
    let long = length-first_directory dll 1 (rows_place rows dll) rows in
    let s = small rows dll time w in
    length-member ARCHIVE_LINKER_MEMBER time (first_content rows dll) (lit≤ tt) w.early (omega (arith, long, s.0)) ∙ ap member_size long

second_long : (rows : List LibraryRow) (dll : List ℕ) (time : ℕ) → CanBeWritten rows dll time → length (second_member rows dll time) ≡ member_size (second_size rows)
second_long rows dll time w =
    let long = length-second_directory dll 1 (rows_place rows dll) (rows_place rows dll) rows in
    let s = small rows dll time w in
    length-member ARCHIVE_LINKER_MEMBER time (second_content rows dll) (lit≤ tt) w.early (omega (arith, long, s.1)) ∙ ap member_size long

second_there : (rows : List LibraryRow) (dll : List ℕ) (time : ℕ) → CanBeWritten rows dll time → drop (second_place rows) (library_of rows dll time) ≡ second_member rows dll time ++ behind_linkers rows dll time
second_there rows dll time w =
    sym (drop-drop (member_size (first_size rows)) 8 (library_of rows dll time))
    ∙ ap (drop (member_size (first_size rows))) (first_there rows dll time)
    ∙ drop_at (first_member rows dll time) (second_member rows dll time ++ behind_linkers rows dll time) (member_size (first_size rows)) (first_long rows dll time w)

pub behind_there : (rows : List LibraryRow) (dll : List ℕ) (time : ℕ) → CanBeWritten rows dll time → drop (names_place rows) (library_of rows dll time) ≡ behind_linkers rows dll time
behind_there rows dll time w =
    sym (drop-drop (member_size (second_size rows)) (second_place rows) (library_of rows dll time))
    ∙ ap (drop (member_size (second_size rows))) (second_there rows dll time w)
    ∙ drop_at (second_member rows dll time) (behind_linkers rows dll time) (member_size (second_size rows)) (second_long rows dll time w)

pub rows_there : (rows : List LibraryRow) (dll : List ℕ) (time : ℕ) → CanBeWritten rows dll time → drop (rows_place rows dll) (library_of rows dll time) ≡ row_members rows dll time
unfolding rows_place
rows_there rows dll time w =
    sym (drop-drop (long_names_size dll) (names_place rows) (library_of rows dll time))
    ∙ ap (drop (long_names_size dll)) (behind_there rows dll time w)
    ∙ drop_at (long_names dll time) (row_members rows dll time) (long_names_size dll) (length-long_names dll time w.dll_is.short w.early)

-- ---- the member of a row

row_there : (rows : List LibraryRow) (dll : List ℕ) (time index : ℕ) → CanBeWritten rows dll time → drop (header_of rows dll index) (library_of rows dll time) ≡ row_members (drop index rows) dll time
unfolding header_of
row_there rows dll time index w =
    let before = take index rows in
    let symbols = short_symbols rows w.rows_are in
    sym (drop-drop (sum_by (row_size dll) before) (rows_place rows dll) (library_of rows dll time))
    ∙ ap (drop (sum_by (row_size dll) before)) (rows_there rows dll time w ∙ ap (λ (all : List LibraryRow). row_members all dll time) (sym (take-append-drop index rows)) ∙ flat_map-append (row_member dll time) before (drop index rows))
    ∙ drop_at (row_members before dll time) (row_members (drop index rows) dll time) (sum_by (row_size dll) before) (length-row_members dll time before w.dll_is.short w.early (All-take (λ (row : LibraryRow). length row.symbol ≤ NAME_LIMIT) index rows symbols))

pub row_stands : (rows : List LibraryRow) (dll : List ℕ) (time index : ℕ) (row : LibraryRow) → CanBeWritten rows dll time → index < length rows → row ≡ get_or rows index row → StandsAt (library_of rows dll time) (header_of rows dll index) (member_name dll) time (import_of dll time row) (row_members (drop (index + 1) rows) dll time)
row_stands rows dll time index row w lt is =
    let next = drop_more rows index row lt ∙ ap (λ (r : LibraryRow). r ∷ drop (index + 1) rows) (sym is) in
    let long = length-import_of dll time row in
    let short = short_symbols rows w.rows_are index row lt in
    let same = ap (λ (r : LibraryRow). length r.symbol) is in
    record {
      here = row_there rows dll time index w ∙ ap (λ (left : List LibraryRow). row_members left dll time) next;
      short = short_member_name dll;
      text = name_text dll;
      early = w.early;
      small = omega (arith, long, w.dll_is.short, short, same);
    }

-- ---- the linker members, and the long names

pub first_stands : (rows : List LibraryRow) (dll : List ℕ) (time : ℕ) → CanBeWritten rows dll time → StandsAt (library_of rows dll time) 8 ARCHIVE_LINKER_MEMBER time (first_content rows dll) (second_member rows dll time ++ behind_linkers rows dll time)
first_stands rows dll time w =
    let s = small rows dll time w in
    record {
      here = first_there rows dll time;
      short = lit≤ tt;
      text = linker_text;
      early = w.early;
      small = omega (arith, length-first_directory dll 1 (rows_place rows dll) rows, s.0);
    }

pub second_stands : (rows : List LibraryRow) (dll : List ℕ) (time : ℕ) → CanBeWritten rows dll time → StandsAt (library_of rows dll time) (second_place rows) ARCHIVE_LINKER_MEMBER time (second_content rows dll) (behind_linkers rows dll time)
second_stands rows dll time w =
    let s = small rows dll time w in
    record {
      here = second_there rows dll time w;
      short = lit≤ tt;
      text = linker_text;
      early = w.early;
      small = omega (arith, length-second_directory dll 1 (rows_place rows dll) (rows_place rows dll) rows, s.1);
    }

pub names_stand : (rows : List LibraryRow) (dll : List ℕ) (time : ℕ) → CanBeWritten rows dll time → SHORT_NAME_LIMIT < length dll → StandsAt (library_of rows dll time) (names_place rows) ARCHIVE_LONGNAMES_MEMBER time (text_bytes dll) (row_members rows dll time)
names_stand rows dll time w long = record {
  here = behind_there rows dll time w ∙ ap (λ (b : Bool). cond b (member ARCHIVE_LONGNAMES_MEMBER time (text_bytes dll)) [] ++ row_members rows dll time) (lt-ltb _ _ long);
  short = lit≤ tt;
  text = long_text;
  early = w.early;
  small = omega (arith, length-text_bytes dll, w.dll_is.short);
}
