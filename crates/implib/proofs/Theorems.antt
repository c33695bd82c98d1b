-- The laws of import libraries.
use Rattle.std.proofs.Common.{◌≡◌, ℕ, List, get_or, Some, None, sym, ap, ◌∙◌, subst}
use Rattle.std.specs.List.{slice_get}
use Rattle.std.proofs.lemmas.Option.{slice_get_within, get_or_from_slice_get}
use Rattle.link_base.specs.Limits.{NAME_LIMIT}
use Rattle.lib_reader.specs.ArchiveMember.{data_of}
use Rattle.lib_reader.specs.MemberFault.{member_fault}
use Rattle.lib_reader.specs.Listing.{first_of_name}
use Rattle.lib_reader.specs.LibraryWalk.{library_fault, listing_of, long_names_of}
use Rattle.implib.specs.declared.row.LibraryRow.{LibraryRow}
use Rattle.implib.specs.Rows.{IsText, IsBySymbol}
use Rattle.implib.specs.ImportLibrary.{header_of, library_of}
use Rattle.implib.specs.ReadBack.{FitsField, CanBeWritten, ReadsAs, IsPlainName, first_header}
use Rattle.implib.proofs.ImportLemmas.{import_reads}
use Rattle.implib.proofs.MemberLemmas.{member_here}
use Rattle.implib.proofs.PlaceLemmas.{row_stands}
use Rattle.implib.proofs.SearchLemmas.{search_gives}
use Rattle.implib.proofs.OpenLemmas.{library_opens, member_opens}

-- the data of each row's member are the short import of the row
pub rows_read : (rows : List LibraryRow) (dll : List ℕ) (time : ℕ) → CanBeWritten rows dll time → (index : ℕ) (row : LibraryRow) → slice_get rows index ≡ Some row → ReadsAs (data_of (library_of rows dll time) (header_of rows dll index)) row dll
rows_read rows dll time w index row at =
    let lt = slice_get_within rows index row at in
    let is : get_or rows index row ≡ row = get_or_from_slice_get rows index row row at in
    let symbol = subst (λ (r : LibraryRow). IsText NAME_LIMIT r.symbol) is (w.rows_are.symbols index row lt) in
    let by = subst (λ (r : LibraryRow). IsBySymbol r.symbol r.by) is (w.rows_are.named index row lt) in
    let fits = subst (λ (r : LibraryRow). FitsField r.by) is (w.numbers index row lt) in
    let here = (member_here _ _ _ _ _ _ (row_stands rows dll time index row w lt (sym is))).content_is in
    subst (λ (content : List ℕ). ReadsAs content row dll) (sym here) (import_reads dll time row w.dll_is symbol by fits)

-- it opens
pub opens : (rows : List LibraryRow) (dll : List ℕ) (time : ℕ) → CanBeWritten rows dll time → IsPlainName dll → library_fault (library_of rows dll time) ≡ None
opens rows dll time w plain = (library_opens rows dll time w plain).well

-- a search finds the first row that lists the name
pub finds : (rows : List LibraryRow) (dll : List ℕ) (time : ℕ) → CanBeWritten rows dll time → IsPlainName dll → (name : List ℕ) → first_of_name name (listing_of (library_of rows dll time)) ≡ first_header rows dll name
finds rows dll time w plain name = ap (first_of_name name) (library_opens rows dll time w plain).listings_are ∙ search_gives rows dll name

-- and each row's member opens
pub members_open : (rows : List LibraryRow) (dll : List ℕ) (time : ℕ) → CanBeWritten rows dll time → IsPlainName dll → (index : ℕ) (row : LibraryRow) → slice_get rows index ≡ Some row → member_fault (long_names_of (library_of rows dll time)) (library_of rows dll time) (header_of rows dll index) ≡ None
members_open rows dll time w plain index row at = member_opens rows dll time index row w plain (slice_get_within rows index row at) (sym (get_or_from_slice_get rows index row row at))
