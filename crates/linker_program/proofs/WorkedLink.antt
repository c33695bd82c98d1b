-- The definitions on the smallest link: one object with a section `.text` of three bytes, and the symbol `main` at its
-- start.
use Rattle.std.proofs.Common.{◌≡◌, ℕ, List, [], ◌∷◌, ◌++◌, true, false, refl}
use Rattle.std.specs.Prelude.{Some, None, Ok, codes}
use Rattle.module_view.specs.Module.{ModuleView}
use Rattle.directives.specs.Text.{is_text}
use Rattle.directives.specs.Names.{is_word}
use Rattle.link_words.specs.Known.{known}
use Rattle.link_words.specs.Setting.{word_says}
use Rattle.link_words.specs.Extension.{stem, with_extension}
use Rattle.link_words.specs.Options.{default_entry, options_of, outputs_clash, lacks_image_name}
use Rattle.link_words.specs.Outcome.{LinkOptions, Link}
use Rattle.link_words.specs.LinkWords.{word_refusal, settings, line_refusal, link_refusal, link_says}
use Rattle.link_words.specs.Commands.{words_say}
use Rattle.link_fields.specs.Fixes.{fixes_from}
use Rattle.link_fields.specs.Entry.{entry_place}
use Rattle.file_search.specs.FoundFiles.{FoundFile}
use Rattle.link_plan.specs.Plan.{link_parts}
use Rattle.link_directives.specs.LinkDirectives.{mismatch_of}
use Rattle.module_view.specs.ModuleDirectives.{module_says}
use Rattle.link_base.specs.Bytes.{number_at, first_below}
use Rattle.link_base.specs.Decimal.{decimal_number}
use Rattle.link_base.specs.Refusals.{first_refusal_below}
use Rattle.coff_records.specs.FileRanges.{is_truncated, body_leaves, counted_leave, relocations_leave, table_leaves}
use Rattle.coff_records.specs.SectionHeader.{lacks_section_name, short_name_in, name_offset, long_section_name, section_name_in, is_uninitialised_in, has_overflow_count_in}
use Rattle.coff_records.specs.SymbolRecord.{lacks_symbol_name, long_name_offset_in, name_in, section_number_in, class_in, aux_count_in}
use Rattle.coff_object.specs.ObjectFaults.{first_section, first_of, is_other_machine, first_torn_record, symbol_range_fault, string_table_fault, has_no_alignment, has_no_section, value_exceeds, object_fault}
use Rattle.coff_records.specs.ObjectFile.{section_at, record_offset, record_at, symbol_at, starts_within}
use Rattle.coff_records.specs.ObjectHeader.{big_object_class, is_big_object, header_size, symbol_size, machine_of, section_total, section_headers_offset, symbols_offset, record_total}
use Rattle.coff_records.specs.Relocations.{relocations_place, relocation_count_in, relocations_from}
use Rattle.coff_records.specs.StringTable.{string_table_offset, string_table_size, string_table, text_in}
use Rattle.coff_object.specs.Forms.{form_shown, resource_start}
use Rattle.module_view.specs.Opening.{content_error, file_error, opening_error}
use Rattle.section_rules.specs.SoughtNames.{is_linker_section}
use Rattle.section_rules.specs.PlacedSection.{comes_in}
use Rattle.module_view.specs.SymbolLists.{is_definition, definitions_of, is_common, commons_of, is_undefined, is_reference, references_of, weaks_of}
use Rattle.symbol_table.specs.LinkerNames.{linker_meaning}
use Rattle.symbol_table.specs.Resolution.{step, meaning_within, meaning_of}
use Rattle.comdat.specs.Chains.{chain_end}
use Rattle.synthetic_sections.specs.LinkerPieces.{table_pieces, export_table_pieces}
use Rattle.export_tables.specs.Ordinals.{ordinal_fault}
use Rattle.link_exports.specs.Exports.{export_rows, numbers_of, numbers_fault, size_if}
use Rattle.import_tables.specs.ImportShape.{dlls_of, entry_count, names_size, extent_of, hints_size, sizes_of}
use Rattle.link_pieces.specs.LocalSlots.{asks, slot_names}
use Rattle.coff_aux.specs.Comdats.{stands_in, section_symbols_of, said_by_symbol, comdat_record_of, leader_name, comdat_of, parent_in, parents_of}
use Rattle.coff_aux.specs.Parents.{ancestor}
use Rattle.coff_aux.specs.AuxFaults.{is_bad_weak, aux_place, parent_place, aux_fault}
use Rattle.module_view.specs.Resources.{has_resources}
use Rattle.link_pieces.specs.Pieces.{is_named, link_pieces, link_contents}
use Rattle.link_plan.specs.PlanFaults.{plan_fault}
use Rattle.symbol_table.specs.OpenNames.{is_provided}
use Rattle.lib_search.specs.Inputs.{modules_among, opening_fault}
use Rattle.lib_search.specs.SearchSteps.{wants_library, next_member, member_by_reference, member_by_alternate, first_listing}
use Rattle.lib_search.specs.Loading.{inputs_state}

file_header : List ℕ
file_header =
    0x64 ∷ 0x86 ∷ 0x01 ∷ 0x00 ∷ 0x00 ∷ 0x00 ∷ 0x00 ∷ 0x00 ∷ 0x3F ∷ 0x00 ∷ 0x00 ∷ 0x00 ∷ 0x01 ∷ 0x00 ∷ 0x00 ∷ 0x00 ∷ 0x00 ∷ 0x00 ∷ 0x00 ∷ 0x00 ∷ []

section_header : List ℕ
section_header =
    0x2E ∷ 0x74 ∷ 0x65 ∷ 0x78 ∷ 0x74 ∷ 0x00 ∷ 0x00 ∷ 0x00 ∷ 0x00 ∷ 0x00 ∷ 0x00 ∷ 0x00 ∷ 0x00 ∷ 0x00 ∷ 0x00 ∷ 0x00 ∷ 0x03 ∷ 0x00 ∷ 0x00 ∷ 0x00
    ∷ 0x3C ∷ 0x00 ∷ 0x00 ∷ 0x00 ∷ 0x00 ∷ 0x00 ∷ 0x00 ∷ 0x00 ∷ 0x00 ∷ 0x00 ∷ 0x00 ∷ 0x00 ∷ 0x00 ∷ 0x00 ∷ 0x00 ∷ 0x00 ∷ 0x20 ∷ 0x00 ∷ 0x50 ∷ 0x60 ∷ []

code : List ℕ
code =
    0x31 ∷ 0xC0 ∷ 0xC3 ∷ []

symbol_record : List ℕ
symbol_record =
    0x6D ∷ 0x61 ∷ 0x69 ∷ 0x6E ∷ 0x00 ∷ 0x00 ∷ 0x00 ∷ 0x00 ∷ 0x00 ∷ 0x00 ∷ 0x00 ∷ 0x00 ∷ 0x01 ∷ 0x00 ∷ 0x20 ∷ 0x00 ∷ 0x02 ∷ 0x00 ∷ []

string_row : List ℕ
string_row =
    0x04 ∷ 0x00 ∷ 0x00 ∷ 0x00 ∷ []

object : List ℕ
object = file_header ++ (section_header ++ (code ++ (symbol_record ++ string_row)))

abbrev words : List (List ℕ)
words = codes "a.obj" ∷ codes "/ENTRY:main" ∷ codes "/OUT:a.exe" ∷ []

abbrev options : LinkOptions
options = options_of (settings words)

asked : words_say (codes "link" ∷ words) ≡ Ok (Link options)
unfolding words_say link_says link_refusal word_refusal first_refusal_below settings line_refusal options_of outputs_clash lacks_image_name default_entry with_extension stem word_says known is_word is_text
asked = refl

entry_asked : options.entry_name ≡ Some (codes "main")
unfolding settings options_of word_says known is_word is_text
entry_asked = refl

-- the modules that join
modules : List ModuleView
modules = record { file = codes "a.obj"; member = None; bytes = object; imported = None } ∷ []

-- no stage before the tables has a fault
accepted : plan_fault options (link_parts options modules []) ≡ None
unfolding module_says mismatch_of settings options_of word_says known is_word is_text object file_header section_header code symbol_record string_row number_at first_below decimal_number first_refusal_below first_section first_of is_truncated is_other_machine body_leaves counted_leave relocations_leave first_torn_record symbol_range_fault table_leaves lacks_section_name lacks_symbol_name string_table_fault has_no_alignment has_no_section value_exceeds object_fault section_at record_offset record_at symbol_at starts_within big_object_class is_big_object header_size symbol_size machine_of section_total section_headers_offset symbols_offset record_total relocations_place relocation_count_in relocations_from short_name_in name_offset long_section_name section_name_in is_uninitialised_in has_overflow_count_in string_table_offset string_table_size string_table text_in long_name_offset_in name_in section_number_in class_in aux_count_in resource_start form_shown is_linker_section content_error file_error opening_error comes_in is_definition definitions_of is_common is_undefined is_reference references_of stands_in section_symbols_of said_by_symbol leader_name comdat_of chain_end weaks_of commons_of linker_meaning step meaning_within meaning_of asks is_bad_weak comdat_record_of parent_in parents_of ancestor aux_place parent_place aux_fault has_resources is_named fixes_from plan_fault modules slot_names export_rows numbers_of numbers_fault size_if ordinal_fault export_table_pieces table_pieces sizes_of extent_of dlls_of entry_count hints_size names_size
accepted = refl

-- what is laid out
pieces : link_pieces (link_parts options modules []) ≡ record { «module» = 0; number = 1; name = codes ".text"; flags = 0x60500020; size = 3; align = 16; body = None; init = true; named = true } ∷ []
unfolding module_says mismatch_of settings options_of word_says known is_word is_text object file_header section_header code symbol_record string_row number_at first_below decimal_number first_refusal_below first_section first_of is_truncated is_other_machine body_leaves counted_leave relocations_leave first_torn_record symbol_range_fault table_leaves lacks_section_name lacks_symbol_name string_table_fault has_no_alignment has_no_section value_exceeds object_fault section_at record_offset record_at symbol_at starts_within big_object_class is_big_object header_size symbol_size machine_of section_total section_headers_offset symbols_offset record_total relocations_place relocation_count_in relocations_from short_name_in name_offset long_section_name section_name_in is_uninitialised_in has_overflow_count_in string_table_offset string_table_size string_table text_in long_name_offset_in name_in section_number_in class_in aux_count_in resource_start form_shown is_linker_section content_error file_error opening_error comes_in is_definition definitions_of is_common is_undefined is_reference references_of is_bad_weak comdat_record_of parent_in parents_of ancestor aux_place parent_place aux_fault has_resources is_named plan_fault modules stands_in section_symbols_of said_by_symbol leader_name comdat_of chain_end weaks_of commons_of linker_meaning step meaning_within meaning_of asks slot_names export_rows numbers_of numbers_fault size_if ordinal_fault export_table_pieces table_pieces sizes_of extent_of dlls_of entry_count hints_size names_size
pieces = refl

contents : link_contents (link_parts options modules []) ≡ code ∷ []
unfolding module_says mismatch_of settings options_of word_says known is_word is_text object file_header section_header code symbol_record string_row number_at first_below decimal_number first_refusal_below first_section first_of is_truncated is_other_machine body_leaves counted_leave relocations_leave first_torn_record symbol_range_fault table_leaves lacks_section_name lacks_symbol_name string_table_fault has_no_alignment has_no_section value_exceeds object_fault section_at record_offset record_at symbol_at starts_within big_object_class is_big_object header_size symbol_size machine_of section_total section_headers_offset symbols_offset record_total relocations_place relocation_count_in relocations_from short_name_in name_offset long_section_name section_name_in is_uninitialised_in has_overflow_count_in string_table_offset string_table_size string_table text_in long_name_offset_in name_in section_number_in class_in aux_count_in resource_start form_shown is_linker_section content_error file_error opening_error comes_in is_definition definitions_of is_common is_undefined is_reference references_of is_bad_weak comdat_record_of parent_in parents_of ancestor aux_place parent_place aux_fault has_resources is_named plan_fault modules stands_in section_symbols_of said_by_symbol leader_name comdat_of chain_end weaks_of commons_of linker_meaning step meaning_within meaning_of asks slot_names export_rows numbers_of numbers_fault size_if ordinal_fault export_table_pieces table_pieces sizes_of extent_of dlls_of entry_count hints_size names_size
contents = refl

-- where the image begins
entry : entry_place (link_parts options modules []) options.entry_name ≡ Some (record { piece = 0; value = 0 })
unfolding module_says mismatch_of settings options_of word_says known is_word is_text object file_header section_header code symbol_record string_row number_at first_below decimal_number first_refusal_below first_section first_of is_truncated is_other_machine body_leaves counted_leave relocations_leave first_torn_record symbol_range_fault table_leaves lacks_section_name lacks_symbol_name string_table_fault has_no_alignment has_no_section value_exceeds object_fault section_at record_offset record_at symbol_at starts_within big_object_class is_big_object header_size symbol_size machine_of section_total section_headers_offset symbols_offset record_total relocations_place relocation_count_in relocations_from short_name_in name_offset long_section_name section_name_in is_uninitialised_in has_overflow_count_in string_table_offset string_table_size string_table text_in long_name_offset_in name_in section_number_in class_in aux_count_in resource_start form_shown is_linker_section content_error file_error opening_error comes_in is_definition definitions_of is_common is_undefined is_reference references_of stands_in section_symbols_of said_by_symbol leader_name comdat_of chain_end weaks_of commons_of linker_meaning step meaning_within meaning_of asks is_bad_weak comdat_record_of parent_in parents_of ancestor aux_place parent_place aux_fault has_resources is_named plan_fault modules slot_names export_rows numbers_of numbers_fault size_if ordinal_fault export_table_pieces table_pieces sizes_of extent_of dlls_of entry_count hints_size names_size
entry = refl

-- ---- the one input, once it is read, opens as that module, and nothing else joins

input : FoundFile
input = record { file = codes "a.obj"; bytes = object }

joined : modules_among (input ∷ []) ≡ modules
unfolding input modules object file_header section_header code symbol_record string_row resource_start
joined = refl

opened : opening_fault (input ∷ []) ≡ None
unfolding input module_says mismatch_of settings options_of word_says known is_word is_text object file_header section_header code symbol_record string_row number_at first_below decimal_number first_refusal_below first_section first_of is_truncated is_other_machine body_leaves counted_leave relocations_leave first_torn_record symbol_range_fault table_leaves lacks_section_name lacks_symbol_name string_table_fault has_no_alignment has_no_section value_exceeds object_fault section_at record_offset record_at symbol_at starts_within big_object_class is_big_object header_size symbol_size machine_of section_total section_headers_offset symbols_offset record_total relocations_place relocation_count_in relocations_from short_name_in name_offset long_section_name section_name_in is_uninitialised_in has_overflow_count_in string_table_offset string_table_size string_table text_in long_name_offset_in name_in section_number_in class_in aux_count_in resource_start form_shown is_linker_section content_error file_error opening_error comes_in is_definition definitions_of is_common is_undefined is_reference references_of stands_in section_symbols_of said_by_symbol leader_name comdat_of chain_end weaks_of commons_of linker_meaning step meaning_within meaning_of asks is_bad_weak comdat_record_of parent_in parents_of ancestor aux_place parent_place aux_fault has_resources is_named fixes_from
opened = refl

-- no default library is named, and the one name that is asked for is provided
no_default : wants_library options (inputs_state options (input ∷ []) 85) ≡ false
unfolding input module_says mismatch_of settings options_of word_says known is_word is_text object file_header section_header code symbol_record string_row number_at first_below decimal_number first_refusal_below first_section first_of is_truncated is_other_machine body_leaves counted_leave relocations_leave first_torn_record symbol_range_fault table_leaves lacks_section_name lacks_symbol_name string_table_fault has_no_alignment has_no_section value_exceeds object_fault section_at record_offset record_at symbol_at starts_within big_object_class is_big_object header_size symbol_size machine_of section_total section_headers_offset symbols_offset record_total relocations_place relocation_count_in relocations_from short_name_in name_offset long_section_name section_name_in is_uninitialised_in has_overflow_count_in string_table_offset string_table_size string_table text_in long_name_offset_in name_in section_number_in class_in aux_count_in resource_start form_shown is_linker_section content_error file_error opening_error comes_in is_definition definitions_of is_common is_undefined is_reference references_of stands_in section_symbols_of said_by_symbol leader_name comdat_of chain_end weaks_of commons_of linker_meaning step meaning_within meaning_of asks is_bad_weak comdat_record_of parent_in parents_of ancestor aux_place parent_place aux_fault has_resources is_named fixes_from
no_default = refl

none_left : next_member (inputs_state options (input ∷ []) 85).searched ≡ None
unfolding member_by_reference member_by_alternate first_listing is_provided input module_says mismatch_of settings options_of word_says known is_word is_text object file_header section_header code symbol_record string_row number_at first_below decimal_number first_refusal_below first_section first_of is_truncated is_other_machine body_leaves counted_leave relocations_leave first_torn_record symbol_range_fault table_leaves lacks_section_name lacks_symbol_name string_table_fault has_no_alignment has_no_section value_exceeds object_fault section_at record_offset record_at symbol_at starts_within big_object_class is_big_object header_size symbol_size machine_of section_total section_headers_offset symbols_offset record_total relocations_place relocation_count_in relocations_from short_name_in name_offset long_section_name section_name_in is_uninitialised_in has_overflow_count_in string_table_offset string_table_size string_table text_in long_name_offset_in name_in section_number_in class_in aux_count_in resource_start form_shown is_linker_section content_error file_error opening_error comes_in is_definition definitions_of is_common is_undefined is_reference references_of stands_in section_symbols_of said_by_symbol leader_name comdat_of chain_end weaks_of commons_of linker_meaning step meaning_within meaning_of asks is_bad_weak comdat_record_of parent_in parents_of ancestor aux_place parent_place aux_fault has_resources is_named fixes_from
none_left = refl
