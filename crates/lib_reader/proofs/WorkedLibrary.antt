-- The definitions on a small library: a first directory, which lists `f` at 78, and there a member `a` of one byte.
use Rattle.std.proofs.Common.{◌≡◌, ℕ, List, [], ◌∷◌, ◌++◌, ◌∙◌, None, lit<, refl}
use Rattle.std.specs.Prelude.{codes}
use Rattle.link_base.specs.Bytes.{number_at, first_below}
use Rattle.link_base.specs.Decimal.{decimal_number}
use Rattle.lib_reader.specs.ArchiveMember.{trimmed_length, trimmed, name_text, size_number, header_is_bad, data_of, size_is_bad, next_header}
use Rattle.lib_reader.specs.MemberName.{names_special, names_an_offset, without_slash, member_name}
use Rattle.lib_reader.specs.MemberFault.{lacks_long_name, member_fault}
use Rattle.lib_reader.specs.Texts.{texts_end}
use Rattle.lib_reader.specs.FirstDirectory.{big_u32_at, first_table_leaves}
use Rattle.lib_reader.specs.Listing.{listed_count, listed_offset, names_place, table_leaves, directory_is_bad, listings_from, listings_in}
use Rattle.lib_reader.specs.LibraryWalk.{header_at, data_at_position, first_directory, second_directory, first_long_names, directory_fails, has_directory_fault, position_fault, ends_at, ends_walk, end_fault, library_fault, listing_of}
use Rattle.lib_reader.proofs.EndLemmas.{EndsAt, ended, found_end}

directory_header : List ℕ
directory_header = codes "/               1700000000              100666  10        `" ++ 10 ∷ []

directory : List ℕ
directory = 0 ∷ 0 ∷ 0 ∷ 1 ∷ 0 ∷ 0 ∷ 0 ∷ 78 ∷ 102 ∷ 0 ∷ []

member_header : List ℕ
member_header = codes "a/              1700000000              100666  1         `" ++ 10 ∷ []

library : List ℕ
library = codes "!<arch>" ++ 10 ∷ (directory_header ++ (directory ++ (member_header ++ 120 ∷ [])))

-- the walk goes on behind the directory, and ends at the member
library-goes_on : first_below 1 (ends_walk library) ≡ None
unfolding library directory_header directory member_header first_below number_at trimmed_length trimmed decimal_number name_text size_number header_is_bad size_is_bad next_header names_special names_an_offset lacks_long_name member_fault texts_end big_u32_at first_table_leaves listed_count names_place table_leaves directory_is_bad header_at data_at_position first_directory second_directory first_long_names directory_fails has_directory_fault position_fault ends_at ends_walk
library-goes_on = refl

library-ends : EndsAt library 1
unfolding library directory_header directory member_header first_below number_at trimmed_length trimmed decimal_number name_text size_number header_is_bad size_is_bad next_header names_special names_an_offset lacks_long_name member_fault header_at data_at_position first_directory second_directory first_long_names directory_fails has_directory_fault position_fault ends_at ends_walk
library-ends = ended library 1 refl (found_end library 1 (lit< tt) library-goes_on refl)

library-well_formed : library_fault library ≡ None
unfolding library directory_header directory member_header first_below number_at trimmed_length trimmed decimal_number name_text size_number header_is_bad size_is_bad next_header names_special names_an_offset lacks_long_name member_fault header_at data_at_position first_directory second_directory first_long_names directory_fails has_directory_fault position_fault end_fault
library-well_formed = library-ends.fault ∙ refl

library-listings : listing_of library ≡ (codes "f", 78) ∷ []
unfolding library directory_header directory member_header first_below number_at trimmed_length trimmed decimal_number name_text size_number next_header big_u32_at listed_count listed_offset names_place header_at data_at_position first_directory second_directory listings_from listings_in
library-listings = library-ends.listings ∙ refl

member-name : member_name [] (name_text library 78) ≡ codes "a"
unfolding library directory_header directory member_header trimmed_length trimmed name_text names_special names_an_offset without_slash member_name
member-name = refl

member-data : data_of library 78 ≡ codes "x"
unfolding library directory_header directory member_header trimmed_length trimmed decimal_number size_number
member-data = refl
