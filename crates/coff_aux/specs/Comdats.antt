-- COMDAT sections: which symbols say what each is, and how one of several is selected (PE Format, "COMDAT Sections (Object
-- Only)").
use Rattle.std.specs.Prelude.{ℕ, pos, Bool, false, ◌&&◌, ◌==◌, nat_le, nat_lt, if◌then◌else◌, List, [], ◌∷◌, map, filter, Option, Some, None}
use Rattle.std.specs.List.{list_any, range_with_len}
use Rattle.std.specs.Ordering.{int_eq}
use Rattle.link_base.specs.Bytes.{has_flag}
use Rattle.link_base.specs.PeFormat.{SCN_LNK_COMDAT, SYM_CLASS_EXTERNAL, SYM_CLASS_STATIC}
use Rattle.coff_records.specs.ObjectFile.{section_total, flags_of, SymbolEntry, section_number_in, symbol_name_of, symbol_class_of, aux_total_of, symbol_entries}
use Rattle.coff_aux.specs.declared.comdat.Comdat.{Comdat}
use Rattle.coff_aux.specs.declared.comdat.ComdatRecord.{ComdatRecord}
use Rattle.coff_aux.specs.AuxRecords.{COMDAT_SELECT_ASSOCIATIVE, first_aux, said_by, selection_in, associated_in}

-- sections have numbers from 1
abbrev pub is_section_number : ℕ → ℕ → Bool
is_section_number count number = nat_le 1 number && nat_le number count

-- ---- the symbols of a section

unfoldable pub stands_in : ℕ → SymbolEntry → Bool
stands_in section entry = int_eq (section_number_in entry.1) (pos section)

-- the records of the first two symbols of a section
pub record SectionSymbols : Type 0 where
  pub first : Option ℕ
  pub second : Option ℕ

-- those of the first two of some symbols
abbrev pub first_two : List SymbolEntry → SectionSymbols
first_two [] = record { first = None; second = None }
first_two (one ∷ []) = record { first = Some one.0; second = None }
first_two (one ∷ other ∷ rest) = record { first = Some one.0; second = Some other.0 }

-- the first symbol of a section is its section symbol, the second one its leader
unfoldable pub section_symbols_of : List ℕ → ℕ → SectionSymbols
section_symbols_of bytes section = first_two (filter (stands_in section) (symbol_entries bytes))

-- ---- what they say

abbrev pub is_comdat : List ℕ → ℕ → Bool
is_comdat bytes section = has_flag (flags_of bytes section) SCN_LNK_COMDAT

-- some section is one
abbrev pub has_comdat : List ℕ → Bool
has_comdat bytes = list_any (is_comdat bytes) (range_with_len 1 (section_total bytes))

-- what a section symbol says: that it is one, as a static symbol with an auxiliary record, and what stands there
unfoldable pub said_by_symbol : List ℕ → ℕ → ComdatRecord
said_by_symbol bytes symbol =
    record {
      has_symbol = (symbol_class_of bytes symbol == SYM_CLASS_STATIC) && nat_lt 0 (aux_total_of bytes symbol);
      selection = said_by selection_in (first_aux bytes symbol);
      associated = said_by associated_in (first_aux bytes symbol);
    }

-- a section without symbols says nothing
abbrev pub nothing_said : ComdatRecord
nothing_said = record { has_symbol = false; selection = 0; associated = 0 }

abbrev pub said_by_first : List ℕ → Option ℕ → ComdatRecord
said_by_first bytes None = nothing_said
said_by_first bytes (Some symbol) = said_by_symbol bytes symbol

-- what a COMDAT section says of itself
unfoldable pub comdat_record_of : List ℕ → ℕ → Option ComdatRecord
comdat_record_of bytes section =
    if is_comdat bytes section then Some (said_by_first bytes (section_symbols_of bytes section).first) else None

-- the name of a leader, where it is external
unfoldable pub leader_name : List ℕ → Option ℕ → Option (List ℕ)
leader_name bytes None = None
leader_name bytes (Some symbol) =
    if symbol_class_of bytes symbol == SYM_CLASS_EXTERNAL then Some (symbol_name_of bytes symbol) else None

abbrev pub is_associative : ComdatRecord → Bool
is_associative said = said.selection == COMDAT_SELECT_ASSOCIATIVE

-- the section that it is selected with
abbrev pub parent_said : ComdatRecord → Option ℕ
parent_said said = if is_associative said then Some said.associated else None

-- as which COMDAT a section goes
abbrev pub comdat_by : Option (List ℕ) → Option ComdatRecord → Option Comdat
comdat_by leader None = None
comdat_by leader (Some said) =
    Some (record { selection = said.selection; leader = leader; parent = parent_said said })

-- none where the number is that of no section, or of one that is no COMDAT
unfoldable pub comdat_of : List ℕ → ℕ → Option Comdat
comdat_of bytes section =
    if is_section_number (section_total bytes) section
    then comdat_by (leader_name bytes (section_symbols_of bytes section).second) (comdat_record_of bytes section)
    else None

-- ---- parents

-- the parent of an associative section: 0 where there is none, and where it is no section
unfoldable pub parent_in : ℕ → Option ComdatRecord → ℕ
parent_in count None = 0
parent_in count (Some said) =
    if is_associative said && is_section_number count said.associated then said.associated else 0

-- those of all sections, by their numbers; 0 stands in front, at the number of no section
unfoldable pub parents_of : List ℕ → List ℕ
parents_of bytes =
    0 ∷ map (λ section. parent_in (section_total bytes) (comdat_record_of bytes section)) (range_with_len 1 (section_total bytes))
