-- The definitions on a library of one row, the code `main` of `a.dll`, by its name with the hint 0, at the time 0: its one
-- member stands at 188.
use Rattle.std.proofs.Common.{◌≡◌, ℕ, List, [], ◌∷◌, ◌∙◌, length, Some, None, lit<, ap, refl}
use Rattle.std.specs.Prelude.{codes}
use Rattle.std.specs.Fmt.{digits}
use Rattle.link_base.specs.Bytes.{number_at, number_bytes, all_below, first_below}
use Rattle.link_base.specs.Decimal.{decimal_number}
use Rattle.sorted_lists.specs.Order.{inserted, in_order}
use Rattle.lib_reader.specs.ArchiveMember.{trimmed_length, trimmed, name_text, size_number, header_is_bad, size_is_bad, next_header}
use Rattle.lib_reader.specs.MemberName.{names_special, names_an_offset}
use Rattle.lib_reader.specs.MemberFault.{lacks_long_name, member_fault}
use Rattle.lib_reader.specs.Texts.{texts_end}
use Rattle.lib_reader.specs.FirstDirectory.{big_u32_at, first_table_leaves}
use Rattle.lib_reader.specs.SecondDirectory.{second_counts_leave, has_member, second_table_leaves}
use Rattle.lib_reader.specs.Listing.{listed_count, listed_offset, names_place, table_leaves, directory_is_bad, listings_from as entries_from, listings_in, first_of_name}
use Rattle.lib_reader.specs.LibraryWalk.{header_at, data_at_position, first_directory as first_place, second_directory as second_place, first_long_names, directory_fails, has_directory_fault, position_fault, ends_at, ends_walk, end_fault, library_fault, listing_of}
use Rattle.lib_reader.proofs.EndLemmas.{EndsAt, ended, found_end}
use Rattle.short_import.specs.declared.import.ImportBy.TheVariants as by
use Rattle.short_import.specs.declared.import.ImportKind.TheVariants as kind
use Rattle.implib.specs.declared.row.LibraryRow.{LibraryRow}
use Rattle.implib.specs.ArchiveMember.{member_header, member}
use Rattle.implib.specs.RowMember.{import_of}
use Rattle.implib.specs.Listings.{listings_from, headers_from, first_directory, second_directory}
use Rattle.implib.specs.ImportLibrary.{rows_place, library_size, linker_members, library_of, header_of}

rows : List LibraryRow
rows = record { symbol = codes "main"; kind = kind.Code; by = by.Named 0 (codes "main") } ∷ []

library : List ℕ
library = library_of rows (codes "a.dll") 0

library-length : length library ≡ 280
unfolding rows library digits number_bytes inserted in_order member_header member import_of listings_from headers_from first_directory second_directory rows_place linker_members library_of
library-length = refl

library-size : library_size rows (codes "a.dll") ≡ 280
unfolding rows rows_place library_size
library-size = refl

library-header : header_of rows (codes "a.dll") 0 ≡ 188
unfolding rows rows_place header_of
library-header = refl

-- ---- what is found in it

-- the walk goes on behind the linker members, and ends at the row's
library-goes_on : first_below 2 (ends_walk library) ≡ None
unfolding rows library digits number_bytes inserted in_order member_header member import_of listings_from headers_from first_directory second_directory rows_place linker_members library_of all_below first_below number_at trimmed_length trimmed decimal_number name_text size_number header_is_bad size_is_bad next_header names_special names_an_offset lacks_long_name member_fault texts_end big_u32_at first_table_leaves second_counts_leave has_member second_table_leaves listed_count names_place table_leaves directory_is_bad header_at data_at_position first_place second_place first_long_names directory_fails has_directory_fault position_fault ends_at ends_walk
library-goes_on = refl

library-ends : EndsAt library 2
unfolding rows library digits number_bytes inserted in_order member_header member import_of listings_from headers_from first_directory second_directory rows_place linker_members library_of first_below number_at trimmed_length trimmed decimal_number name_text size_number header_is_bad size_is_bad next_header names_special names_an_offset lacks_long_name member_fault header_at data_at_position first_place second_place first_long_names directory_fails has_directory_fault position_fault ends_at ends_walk
library-ends = ended library 2 refl (found_end library 2 (lit< tt) library-goes_on refl)

library-well_formed : library_fault library ≡ None
unfolding rows library digits number_bytes inserted in_order member_header member import_of listings_from headers_from first_directory second_directory rows_place linker_members library_of first_below number_at trimmed_length trimmed decimal_number name_text size_number header_is_bad size_is_bad next_header names_special names_an_offset lacks_long_name member_fault header_at data_at_position first_place second_place first_long_names directory_fails has_directory_fault position_fault end_fault
library-well_formed = library-ends.fault ∙ refl

library-listings : listing_of library ≡ (codes "__imp_main", 188) ∷ (codes "main", 188) ∷ []
unfolding rows library digits number_bytes inserted in_order member_header member import_of listings_from headers_from first_directory second_directory rows_place linker_members library_of first_below number_at trimmed_length trimmed decimal_number name_text size_number next_header big_u32_at listed_count listed_offset names_place header_at data_at_position first_place second_place entries_from listings_in
library-listings = library-ends.listings ∙ refl

library-main : first_of_name (codes "main") (listing_of library) ≡ Some 188
unfolding first_of_name
library-main = ap (first_of_name (codes "main")) library-listings ∙ refl

library-slot : first_of_name (codes "__imp_main") (listing_of library) ≡ Some 188
unfolding first_of_name
library-slot = ap (first_of_name (codes "__imp_main")) library-listings ∙ refl
