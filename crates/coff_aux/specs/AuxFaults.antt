-- What is wrong with the auxiliary records that a link reads, as a table of kinds, of a well formed object. Each kind is judged
-- where no earlier one stands, and the least place counts. Own; the fields are those of the PE Format specification.
use Rattle.std.specs.Prelude.{ℕ, ◌+◌, Bool, false, ◌&&◌, not, ◌==◌, nat_le, List, [], ◌∷◌, length, Option, Some, None, option_map}
use Rattle.std.specs.Option.{option_or}
use Rattle.std.specs.Ordering.{int_eq}
use Rattle.link_base.specs.Bytes.{first_below}
use Rattle.link_base.specs.PeFormat.{SYM_CLASS_WEAK_EXTERNAL, SYM_UNDEFINED}
use Rattle.link_base.specs.Refusals.{first_standing}
use Rattle.link_base.specs.declared.kinds.object.ObjFault.TheVariants as kind
use Rattle.coff_records.specs.ObjectFile.{section_total, record_total, starts_symbol, SymbolEntry, section_number_in, class_in, symbol_entries}
use Rattle.coff_object.specs.ObjectFaults.{first_of, least_place, row}
use Rattle.coff_object.specs.declared.error.ObjError.{ObjError}
use Rattle.coff_aux.specs.declared.comdat.ComdatRecord.{ComdatRecord}
use Rattle.coff_aux.specs.AuxRecords.{WEAK_EXTERN_SEARCH_NOLIBRARY, WEAK_EXTERN_SEARCH_ALIAS, first_aux, tag_in, characteristics_in, is_selection}
use Rattle.coff_aux.specs.Comdats.{is_section_number, comdat_record_of, is_associative, parents_of}
use Rattle.coff_aux.specs.Parents.{comes_back}

-- ---- weak externals

-- a search of the format
abbrev pub is_search : ℕ → Bool
is_search kind = nat_le WEAK_EXTERN_SEARCH_NOLIBRARY kind && nat_le kind WEAK_EXTERN_SEARCH_ALIAS

-- the record says how to search, and names a symbol
unfoldable pub says_weak : List ℕ → Option (List ℕ) → Bool
says_weak bytes None = false
says_weak bytes (Some aux) = is_search (characteristics_in aux) && starts_symbol bytes (tag_in aux)

-- a weak external stands in no section, and has an auxiliary record that says what it is
unfoldable pub is_weak_in_order : List ℕ → SymbolEntry → Bool
is_weak_in_order bytes entry =
    int_eq (section_number_in entry.1) SYM_UNDEFINED && says_weak bytes (first_aux bytes entry.0)

unfoldable pub is_bad_weak : List ℕ → SymbolEntry → Bool
is_bad_weak bytes entry = (class_in entry.1 == SYM_CLASS_WEAK_EXTERNAL) && not (is_weak_in_order bytes entry)

-- ---- COMDAT sections

-- a section that is no COMDAT does not fail
abbrev pub fails_of : (ComdatRecord → Bool) → Option ComdatRecord → Bool
fails_of fails None = false
fails_of fails (Some said) = fails said

-- the first COMDAT section, by its number, that fails
abbrev pub first_comdat : List ℕ → (ComdatRecord → Bool) → Option ℕ
first_comdat bytes fails =
    option_map (λ k. k + 1) (first_below (section_total bytes) (λ k. fails_of fails (comdat_record_of bytes (k + 1))))

abbrev pub lacks_symbol : ComdatRecord → Bool
lacks_symbol said = not said.has_symbol

abbrev pub has_no_selection : ComdatRecord → Bool
has_no_selection said = not (is_selection said.selection)

-- it is selected with what is no section
abbrev pub has_no_parent : ℕ → ComdatRecord → Bool
has_no_parent count said = is_associative said && not (is_section_number count said.associated)

-- ---- the table

-- symbols first, by their records, and then sections, by their numbers after the records
unfoldable pub aux_place : List ℕ → Option ℕ
aux_place bytes =
    option_or (first_of (is_bad_weak bytes) (symbol_entries bytes))
    (option_map (λ section. record_total bytes + section) (first_comdat bytes lacks_symbol))

-- a section whose parent is none, or whose chain of parents comes back: the lesser counts
unfoldable pub parent_place : List ℕ → Option ℕ
parent_place bytes =
    least_place (first_comdat bytes (has_no_parent (section_total bytes)))
    (first_below (length (parents_of bytes)) (comes_back (parents_of bytes)))

-- the first kind that stands, with its least place
unfoldable pub aux_fault : List ℕ → Option ObjError
aux_fault bytes =
    first_standing
    (row kind.Aux (aux_place bytes)
    ∷ row kind.Selection (first_comdat bytes has_no_selection)
    ∷ row kind.Associative (parent_place bytes)
    ∷ [])
