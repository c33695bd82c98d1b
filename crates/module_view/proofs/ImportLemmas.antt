-- The object of nothing, as which a short import goes, opens, and has no lists.
use Rattle.std.proofs.Common.{◌≡◌, ℕ, false, List, [], None, refl, sym, subst}
use Rattle.module_view.specs.ModuleDirectives.{module_says, module_directives}
use Rattle.link_base.specs.Bytes.{number_at, first_below}
use Rattle.coff_records.specs.FileRanges.{is_truncated, table_leaves}
use Rattle.coff_object.specs.ObjectFaults.{first_section, first_of, is_other_machine, first_torn_record, symbol_range_fault, string_table_fault, object_fault}
use Rattle.coff_records.specs.ObjectFile.{starts_within, symbols_of, starts_symbol}
use Rattle.coff_records.specs.ObjectHeader.{big_object_class, is_big_object, header_size, symbol_size, machine_of, section_total, section_headers_offset, symbols_offset, record_total}
use Rattle.coff_records.specs.StringTable.{string_table_offset, string_table_size, string_table}
use Rattle.coff_aux.specs.Comdats.{parents_of, has_comdat}
use Rattle.coff_aux.specs.Parents.{ancestor}
use Rattle.coff_aux.specs.AuxFaults.{aux_place, parent_place, aux_fault}
use Rattle.module_view.specs.SymbolLists.{definitions_of, references_of, weaks_of, commons_of}
use Rattle.module_view.specs.ModuleParts.{KeepsLists}
use Rattle.module_view.specs.ImportModule.{no_object}
use Rattle.coff_object.specs.Forms.{form_shown, resource_start}
use Rattle.module_view.specs.Opening.{content_error, opening_error}
use Rattle.module_view.specs.Resources.{has_resources}
use Rattle.module_view.proofs.CallerLemmas.{opened_sound}
use Rattle.module_view.proofs.ChoiceLemmas.{none_kept}

pub nothing_opens : opening_error no_object ≡ None
unfolding module_says number_at first_below is_truncated table_leaves first_section first_of is_other_machine first_torn_record symbol_range_fault string_table_fault object_fault starts_within big_object_class is_big_object header_size symbol_size machine_of section_total section_headers_offset symbols_offset record_total string_table_offset string_table_size string_table parents_of ancestor aux_place parent_place aux_fault no_object resource_start form_shown content_error opening_error
nothing_opens = refl

-- its object is well formed
pub nothing_is_sound : object_fault no_object ≡ None
nothing_is_sound = opened_sound no_object nothing_opens

no_symbols : symbols_of no_object ≡ []
unfolding number_at starts_within big_object_class is_big_object header_size symbol_size symbols_offset record_total no_object
no_symbols = refl

no_comdat : has_comdat no_object ≡ false
unfolding number_at big_object_class is_big_object header_size section_total no_object
no_comdat = refl

no_directives : [] ≡ module_directives no_object
unfolding module_says number_at big_object_class is_big_object header_size section_total no_object
no_directives = refl

no_resources : false ≡ has_resources no_object
unfolding has_resources number_at big_object_class is_big_object header_size section_total no_object
no_resources = refl

-- it has no lists
pub nothing_kept : (bytes object : List ℕ) → bytes ≡ no_object → object ≡ no_object → KeepsLists bytes object [] [] [] [] [] [] [] false
unfolding definitions_of references_of weaks_of commons_of starts_symbol
nothing_kept bytes object nothing same =
    subst (λ (bs : List ℕ). KeepsLists bs object [] [] [] [] [] [] [] false) (sym nothing)
    record {
      opened = nothing_opens;
      viewed = same;
      defined = rw no_symbols refl;
      referred = rw no_symbols refl;
      weak = rw no_symbols refl;
      common = rw no_symbols refl;
      started = λ some. absurd cc;
      comdats = none_kept no_object [] [] no_comdat refl;
      said_are = no_directives;
      resources_are = no_resources;
    }
