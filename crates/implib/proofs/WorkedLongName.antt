-- The definitions on a library of a DLL with a long name, and of two rows that list one name: the code `__imp_x`, and the data
-- `x`, by the ordinal 7. The first row counts.
use Rattle.std.proofs.Common.{◌≡◌, ℕ, List, [], ◌∷◌, length, map, Some, None, refl}
use Rattle.std.specs.Prelude.{codes}
use Rattle.std.specs.Fmt.{digits}
use Rattle.link_base.specs.Bytes.{number_at, number_bytes}
use Rattle.link_base.specs.Decimal.{decimal_number}
use Rattle.sorted_lists.specs.Order.{inserted, in_order}
use Rattle.lib_reader.specs.ArchiveMember.{trimmed_length, trimmed, name_text, size_number, data_of}
use Rattle.lib_reader.specs.MemberName.{names_special, names_an_offset, without_slash, long_offset, long_name_at, member_name}
use Rattle.short_import.specs.declared.import.ImportBy.TheVariants as by
use Rattle.short_import.specs.declared.import.ImportKind.TheVariants as kind
use Rattle.short_import.specs.ShortImport.{text_from, symbol_of, dll_of, import_kind, import_by}
use Rattle.implib.specs.declared.row.LibraryRow.{LibraryRow}
use Rattle.implib.specs.ArchiveMember.{member_header, member}
use Rattle.implib.specs.RowMember.{text_bytes, import_of}
use Rattle.implib.specs.Listings.{listings_from, headers_from, by_name, first_directory, second_directory}
use Rattle.implib.specs.ImportLibrary.{rows_place, linker_members, library_of, header_of, listings_of}
use Rattle.implib.specs.ReadBack.{first_header}

rows : List LibraryRow
rows =
    record { symbol = codes "__imp_x"; kind = kind.Code; by = by.Named 1 (codes "__imp_x") }
    ∷ record { symbol = codes "x"; kind = kind.Data; by = by.Ordinal 7 } ∷ []

dll : List ℕ
dll = codes "sixteen_long.dll"

library : List ℕ
library = library_of rows dll 1700000000

library-length : length library ≡ 510
unfolding rows dll library digits number_bytes inserted in_order member_header member import_of listings_from headers_from first_directory second_directory rows_place linker_members library_of
library-length = refl

library-headers : map (header_of rows dll) (0 ∷ 1 ∷ []) ≡ 304 ∷ 410 ∷ []
unfolding rows dll rows_place header_of
library-headers = refl

-- the name of the members is the first of the long names
library-name : name_text library 304 ≡ codes "/0"
unfolding rows dll library digits number_bytes inserted in_order member_header member import_of listings_from headers_from first_directory second_directory rows_place linker_members library_of trimmed_length trimmed name_text
library-name = refl

library-long_name : member_name (text_bytes dll) (codes "/0") ≡ codes "sixteen_long.dll"
unfolding dll decimal_number names_special names_an_offset without_slash long_offset long_name_at member_name
library-long_name = refl

-- both rows list `__imp_x`, the second no other name
library-order : map (λ listing. listing.member) (by_name (listings_of rows dll)) ≡ 1 ∷ 1 ∷ 2 ∷ []
unfolding rows dll inserted in_order listings_from rows_place
library-order = refl

library-first : first_header rows dll (codes "__imp_x") ≡ Some 304
unfolding rows dll rows_place header_of
library-first = refl

library-none : first_header rows dll (codes "x") ≡ None
unfolding rows dll rows_place header_of
library-none = refl

-- the second row, as it is read
second-kind : import_kind (data_of library 410) ≡ kind.Data
unfolding rows dll library digits number_bytes inserted in_order member_header member import_of listings_from headers_from first_directory second_directory rows_place linker_members library_of trimmed_length trimmed decimal_number size_number number_at import_kind
second-kind = refl

second-by : import_by (data_of library 410) ≡ by.Ordinal 7
unfolding rows dll library digits number_bytes inserted in_order member_header member import_of listings_from headers_from first_directory second_directory rows_place linker_members library_of trimmed_length trimmed decimal_number size_number number_at text_from symbol_of import_by
second-by = refl

second-dll : dll_of (data_of library 410) ≡ codes "sixteen_long.dll"
unfolding rows dll library digits number_bytes inserted in_order member_header member import_of listings_from headers_from first_directory second_directory rows_place linker_members library_of trimmed_length trimmed decimal_number size_number number_at text_from symbol_of dll_of
second-dll = refl
