-- The definitions on one small object in both forms: one section `.text` of three bytes, and one external symbol `main` in it.
use Rattle.std.proofs.Common.{◌≡◌, ℕ, Bool, List, [], ◌∷◌, ◌++◌, map, take, true, false, pos, Some, None, refl}
use Rattle.std.specs.Prelude.{codes}
use Rattle.link_base.specs.Bytes.{number_at, first_below}
use Rattle.link_base.specs.Decimal.{decimal_number}
use Rattle.link_base.specs.declared.kinds.object.ObjFault.TheVariants as kind
use Rattle.coff_records.specs.ObjectHeader.{big_object_class, is_big_object, header_size, symbol_size, machine_of, section_total, section_headers_offset, symbols_offset, record_total}
use Rattle.coff_records.specs.StringTable.{string_table_offset, string_table_size, string_table, text_in}
use Rattle.coff_records.specs.SectionHeader.{short_name_in, name_offset, long_section_name, section_name_in, is_uninitialised_in, has_overflow_count_in, alignment_of, lacks_section_name}
use Rattle.coff_records.specs.SymbolRecord.{long_name_offset_in, name_in, section_number_in, class_in, aux_count_in, lacks_symbol_name}
use Rattle.coff_records.specs.ObjectFile.{section_at, section_name_of, flags_of, body_of, record_offset, record_at, symbol_at, symbol_name_of, symbol_section_of, symbol_class_of, starts_within, symbols_of}
use Rattle.coff_records.specs.FileRanges.{is_truncated, body_leaves, counted_leave, relocations_leave, table_leaves}
use Rattle.coff_object.specs.ObjectFaults.{first_section, first_of, is_other_machine, first_torn_record, symbol_range_fault, string_table_fault, has_no_alignment, has_no_section, value_exceeds, object_fault}

plain_header : List ℕ
plain_header =
    0x64 ∷ 0x86 ∷ 0x01 ∷ 0x00 ∷ 0x00 ∷ 0x00 ∷ 0x00 ∷ 0x00 ∷ 0x3F ∷ 0x00 ∷ 0x00 ∷ 0x00 ∷ 0x01 ∷ 0x00 ∷ 0x00 ∷ 0x00 ∷ 0x00 ∷ 0x00 ∷ 0x00 ∷ 0x00 ∷ []

big_header : List ℕ
big_header =
    0x00 ∷ 0x00 ∷ 0xFF ∷ 0xFF ∷ 0x02 ∷ 0x00 ∷ 0x64 ∷ 0x86 ∷ 0x00 ∷ 0x00 ∷ 0x00 ∷ 0x00 ∷ 0xC7 ∷ 0xA1 ∷ 0xBA ∷ 0xD1 ∷ 0xEE ∷ 0xBA ∷ 0xA9 ∷ 0x4B ∷
    0xAF ∷ 0x20 ∷ 0xFA ∷ 0xF6 ∷ 0x6A ∷ 0xA4 ∷ 0xDC ∷ 0xB8 ∷ 0x00 ∷ 0x00 ∷ 0x00 ∷ 0x00 ∷ 0x00 ∷ 0x00 ∷ 0x00 ∷ 0x00 ∷ 0x00 ∷ 0x00 ∷ 0x00 ∷ 0x00 ∷
    0x00 ∷ 0x00 ∷ 0x00 ∷ 0x00 ∷ 0x01 ∷ 0x00 ∷ 0x00 ∷ 0x00 ∷ 0x63 ∷ 0x00 ∷ 0x00 ∷ 0x00 ∷ 0x01 ∷ 0x00 ∷ 0x00 ∷ 0x00 ∷ []

plain_section : List ℕ
plain_section =
    0x2E ∷ 0x74 ∷ 0x65 ∷ 0x78 ∷ 0x74 ∷ 0x00 ∷ 0x00 ∷ 0x00 ∷ 0x00 ∷ 0x00 ∷ 0x00 ∷ 0x00 ∷ 0x00 ∷ 0x00 ∷ 0x00 ∷ 0x00 ∷ 0x03 ∷ 0x00 ∷ 0x00 ∷ 0x00 ∷
    0x3C ∷ 0x00 ∷ 0x00 ∷ 0x00 ∷ 0x00 ∷ 0x00 ∷ 0x00 ∷ 0x00 ∷ 0x00 ∷ 0x00 ∷ 0x00 ∷ 0x00 ∷ 0x00 ∷ 0x00 ∷ 0x00 ∷ 0x00 ∷ 0x20 ∷ 0x00 ∷ 0x50 ∷ 0x60 ∷ []

big_section : List ℕ
big_section =
    0x2E ∷ 0x74 ∷ 0x65 ∷ 0x78 ∷ 0x74 ∷ 0x00 ∷ 0x00 ∷ 0x00 ∷ 0x00 ∷ 0x00 ∷ 0x00 ∷ 0x00 ∷ 0x00 ∷ 0x00 ∷ 0x00 ∷ 0x00 ∷ 0x03 ∷ 0x00 ∷ 0x00 ∷ 0x00 ∷
    0x60 ∷ 0x00 ∷ 0x00 ∷ 0x00 ∷ 0x00 ∷ 0x00 ∷ 0x00 ∷ 0x00 ∷ 0x00 ∷ 0x00 ∷ 0x00 ∷ 0x00 ∷ 0x00 ∷ 0x00 ∷ 0x00 ∷ 0x00 ∷ 0x20 ∷ 0x00 ∷ 0x50 ∷ 0x60 ∷ []

code : List ℕ
code =
    0x31 ∷ 0xC0 ∷ 0xC3 ∷ []

plain_symbol : List ℕ
plain_symbol =
    0x6D ∷ 0x61 ∷ 0x69 ∷ 0x6E ∷ 0x00 ∷ 0x00 ∷ 0x00 ∷ 0x00 ∷ 0x00 ∷ 0x00 ∷ 0x00 ∷ 0x00 ∷ 0x01 ∷ 0x00 ∷ 0x20 ∷ 0x00 ∷ 0x02 ∷ 0x00 ∷ []

big_symbol : List ℕ
big_symbol =
    0x6D ∷ 0x61 ∷ 0x69 ∷ 0x6E ∷ 0x00 ∷ 0x00 ∷ 0x00 ∷ 0x00 ∷ 0x00 ∷ 0x00 ∷ 0x00 ∷ 0x00 ∷ 0x01 ∷ 0x00 ∷ 0x00 ∷ 0x00 ∷ 0x20 ∷ 0x00 ∷ 0x02 ∷ 0x00 ∷ []

string_row : List ℕ
string_row =
    0x04 ∷ 0x00 ∷ 0x00 ∷ 0x00 ∷ []

plain : List ℕ
plain = plain_header ++ (plain_section ++ (code ++ (plain_symbol ++ string_row)))

big : List ℕ
big = big_header ++ (big_section ++ (code ++ (big_symbol ++ string_row)))

-- what the object holds, in either form
record HoldsMain (is_big : Bool) (object : List ℕ) : Type 0 where
  form : is_big_object object ≡ is_big
  well_formed : object_fault object ≡ None
  section_name : section_name_of object 1 ≡ codes ".text"
  alignment : alignment_of (flags_of object 1) ≡ 16
  body : body_of object 1 ≡ Some code
  symbols : symbols_of object ≡ 0 ∷ []
  symbol_name : symbol_name_of object 0 ≡ codes "main"
  symbol_section : symbol_section_of object 0 ≡ pos 1
  symbol_class : symbol_class_of object 0 ≡ 2

plain-holds : HoldsMain false plain
unfolding plain big plain_header big_header plain_section big_section code plain_symbol big_symbol string_row number_at first_below decimal_number big_object_class is_big_object header_size symbol_size machine_of section_total section_headers_offset symbols_offset record_total string_table_offset string_table_size string_table text_in short_name_in name_offset long_section_name section_name_in lacks_section_name is_uninitialised_in has_overflow_count_in long_name_offset_in name_in lacks_symbol_name section_number_in class_in aux_count_in section_at record_offset record_at symbol_at starts_within is_truncated body_leaves counted_leave relocations_leave table_leaves first_section first_of is_other_machine first_torn_record symbol_range_fault string_table_fault has_no_alignment has_no_section value_exceeds object_fault
plain-holds = record { form = refl; well_formed = refl; section_name = refl; alignment = refl; body = refl; symbols = refl; symbol_name = refl; symbol_section = refl; symbol_class = refl }

big-holds : HoldsMain true big
unfolding plain big plain_header big_header plain_section big_section code plain_symbol big_symbol string_row number_at first_below decimal_number big_object_class is_big_object header_size symbol_size machine_of section_total section_headers_offset symbols_offset record_total string_table_offset string_table_size string_table text_in short_name_in name_offset long_section_name section_name_in lacks_section_name is_uninitialised_in has_overflow_count_in long_name_offset_in name_in lacks_symbol_name section_number_in class_in aux_count_in section_at record_offset record_at symbol_at starts_within is_truncated body_leaves counted_leave relocations_leave table_leaves first_section first_of is_other_machine first_torn_record symbol_range_fault string_table_fault has_no_alignment has_no_section value_exceeds object_fault
big-holds = record { form = refl; well_formed = refl; section_name = refl; alignment = refl; body = refl; symbols = refl; symbol_name = refl; symbol_section = refl; symbol_class = refl }

-- cut in its headers, in its section's data, and in its symbol
cut_short : map object_fault (take 59 plain ∷ take 62 plain ∷ take 55 big ∷ take 118 big ∷ []) ≡ Some (record { kind = kind.Truncated; index = 0 }) ∷ Some (record { kind = kind.SectionRange; index = 1 }) ∷ Some (record { kind = kind.Truncated; index = 0 }) ∷ Some (record { kind = kind.SymbolRange; index = 0 }) ∷ []
unfolding plain big plain_header big_header plain_section big_section code plain_symbol big_symbol string_row number_at first_below decimal_number big_object_class is_big_object header_size symbol_size machine_of section_total section_headers_offset symbols_offset record_total string_table_offset string_table_size string_table text_in short_name_in name_offset long_section_name section_name_in lacks_section_name is_uninitialised_in has_overflow_count_in long_name_offset_in name_in lacks_symbol_name section_number_in class_in aux_count_in section_at record_offset record_at symbol_at starts_within is_truncated body_leaves counted_leave relocations_leave table_leaves first_section first_of is_other_machine first_torn_record symbol_range_fault string_table_fault has_no_alignment has_no_section value_exceeds object_fault
cut_short = refl
