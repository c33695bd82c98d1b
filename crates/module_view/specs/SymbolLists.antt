-- The symbols of an object that other modules can name, and those that name what another symbol defines (PE Format, "COFF
-- Symbol Table", "Section Number Values" and "Storage Class").
use Rattle.std.specs.Prelude.{ℕ, Bool, ◌&&◌, ◌||◌, not, ◌==◌, if◌then◌else◌, List, map, filter}
use Rattle.std.specs.Int.Signed.{lt_z}
use Rattle.std.specs.Ordering.{int_eq}
use Rattle.link_base.specs.PeFormat.{SYM_CLASS_EXTERNAL, SYM_CLASS_WEAK_EXTERNAL, SYM_UNDEFINED, SYM_ABSOLUTE}
use Rattle.coff_records.specs.ObjectFile.{SymbolView, SymbolEntry, name_in, value_in, section_number_in, section_of_number, class_in, symbol_entries}
use Rattle.module_view.specs.declared.definition.Definition.{Definition}
use Rattle.module_view.specs.declared.definition.Place.{Place}
use Rattle.module_view.specs.declared.definition.Place.TheVariants as place
use Rattle.module_view.specs.declared.definition.Common.{Common}
use Rattle.module_view.specs.declared.reference.Reference.{Reference}
use Rattle.module_view.specs.declared.reference.Weak.{Weak}
use Rattle.coff_aux.specs.AuxRecords.{WEAK_EXTERN_SEARCH_LIBRARY, first_aux, said_by, tag_in, characteristics_in}

-- ---- definitions

-- it has a value, and stands in no section
abbrev pub is_absolute : SymbolView → Bool
is_absolute symbol = int_eq (section_number_in symbol) SYM_ABSOLUTE

-- an external symbol that is absolute or stands in a section: those have numbers above 0
unfoldable pub is_definition : SymbolView → Bool
is_definition symbol =
    (class_in symbol == SYM_CLASS_EXTERNAL) && (is_absolute symbol || lt_z SYM_UNDEFINED (section_number_in symbol))

abbrev pub place_in_section : SymbolView → Place
place_in_section symbol = place.Section (section_of_number (section_number_in symbol)) (value_in symbol)

-- where a definition stands
abbrev pub place_of : SymbolView → Place
place_of symbol = if is_absolute symbol then place.Absolute (value_in symbol) else place_in_section symbol

abbrev pub definition_of : SymbolEntry → Definition
definition_of entry = record { name = name_in entry.1; symbol = entry.0; place = place_of entry.1 }

abbrev pub defines : SymbolEntry → Bool
defines entry = is_definition entry.1

-- the definitions among symbols
abbrev pub definitions_in : List SymbolEntry → List Definition
definitions_in entries = map definition_of (filter defines entries)

-- the definitions of an object, in the order of its symbols
unfoldable pub definitions_of : List ℕ → List Definition
definitions_of bytes = definitions_in (symbol_entries bytes)

-- ---- weak externals

-- a name that means what another symbol means where nothing defines it (PE Format, "Weak Externals")
abbrev pub is_weak : SymbolView → Bool
is_weak symbol = class_in symbol == SYM_CLASS_WEAK_EXTERNAL

abbrev pub weak_of : List ℕ → SymbolEntry → Weak
weak_of bytes entry = record { name = name_in entry.1; symbol = entry.0; tag = said_by tag_in (first_aux bytes entry.0) }

-- the weak externals of an object, in the order of its symbols
unfoldable pub weaks_of : List ℕ → List Weak
weaks_of bytes = map (weak_of bytes) (filter (λ entry. is_weak entry.1) (symbol_entries bytes))

-- ---- commons

-- an external symbol in no section, with its size as its value (PE Format, "Section Number Values")
unfoldable pub is_common : SymbolView → Bool
is_common symbol =
    (class_in symbol == SYM_CLASS_EXTERNAL)
    && (int_eq (section_number_in symbol) SYM_UNDEFINED && not (value_in symbol == 0))

abbrev pub common_of : SymbolEntry → Common
common_of entry = record { name = name_in entry.1; symbol = entry.0; size = value_in entry.1 }

-- the commons among symbols
abbrev pub commons_in : List SymbolEntry → List Common
commons_in entries = map common_of (filter (λ entry. is_common entry.1) entries)

-- the commons of an object, in the order of its symbols
unfoldable pub commons_of : List ℕ → List Common
commons_of bytes = commons_in (symbol_entries bytes)

-- ---- references

-- an external symbol that is undefined: one with a value is a common
unfoldable pub is_undefined : SymbolView → Bool
is_undefined symbol =
    (class_in symbol == SYM_CLASS_EXTERNAL) && (int_eq (section_number_in symbol) SYM_UNDEFINED && (value_in symbol == 0))

-- a symbol that names what another one defines, or may define
unfoldable pub is_reference : SymbolView → Bool
is_reference symbol = is_undefined symbol || is_weak symbol

-- libraries are searched for an undefined symbol, and for a weak one that says so
unfoldable pub asks_for_search : List ℕ → SymbolEntry → Bool
asks_for_search bytes entry =
    not (is_weak entry.1) || (said_by characteristics_in (first_aux bytes entry.0) == WEAK_EXTERN_SEARCH_LIBRARY)

abbrev pub reference_of : List ℕ → SymbolEntry → Reference
reference_of bytes entry = record { name = name_in entry.1; symbol = entry.0; search = asks_for_search bytes entry }

abbrev pub refers : SymbolEntry → Bool
refers entry = is_reference entry.1

-- the references of an object, in the order of its symbols
unfoldable pub references_of : List ℕ → List Reference
references_of bytes = map (reference_of bytes) (filter refers (symbol_entries bytes))
