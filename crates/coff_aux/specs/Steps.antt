-- What the passes over symbols and over sections say of an object. It decides nothing.
use Rattle.std.specs.Prelude.{◌≡◌, ℕ, zero, suc, ◌+◌, ◌<◌, ℤ, Bool, false, ◌||◌, ◌==◌, if◌then◌else◌, List, [], ◌∷◌, length, map, slice_index_or, slice_set, Option, Some, None, option_map}
use Rattle.std.specs.Borrow.{Bor}
use Rattle.std.specs.List.{range_with_len}
use Rattle.link_base.specs.Bytes.{first_below}
use Rattle.link_base.specs.Refusals.{first_standing}
use Rattle.link_base.specs.declared.kinds.object.ObjFault.TheVariants as kind
use Rattle.coff_records.specs.ObjectFile.{section_total, section_of_number, starts_symbol}
use Rattle.coff_object.specs.ObjectFaults.{least_place, row}
use Rattle.coff_object.specs.declared.error.ObjError.{ObjError}
use Rattle.coff_aux.specs.declared.comdat.ComdatRecord.{ComdatRecord}
use Rattle.coff_aux.specs.declared.comdat.NotedSymbols.{NotedSymbols}
use Rattle.coff_aux.specs.Comdats.{SectionSymbols, section_symbols_of, comdat_record_of, parent_in}
use Rattle.coff_aux.specs.Parents.{comes_back}
use Rattle.coff_aux.specs.AuxFaults.{fails_of, lacks_symbol, has_no_selection, has_no_parent}

-- ---- the first two symbols of each section

-- those of all sections, by their numbers from 1
abbrev pub all_section_symbols : List ℕ → List SectionSymbols
all_section_symbols bytes = map (section_symbols_of bytes) (range_with_len 1 (section_total bytes))

-- stands where no symbol is noted
abbrev pub NO_SYMBOL : ℕ
NO_SYMBOL = 4294967295

-- the symbols that numbers note
abbrev pub symbol_noted : ℕ → Option ℕ
symbol_noted number = if number == NO_SYMBOL then None else Some number

abbrev pub symbols_noted : NotedSymbols → SectionSymbols
symbols_noted noted = record { first = symbol_noted noted.first; second = symbol_noted noted.second }

-- after one more symbol
abbrev pub no_symbols : SectionSymbols
no_symbols = record { first = None; second = None }

abbrev pub second_or : SectionSymbols → ℕ → Option ℕ → SectionSymbols
second_or noted index None = record { first = noted.first; second = Some index }
second_or noted index (Some second) = noted

abbrev pub first_or : SectionSymbols → ℕ → Option ℕ → SectionSymbols
first_or noted index None = record { first = Some index; second = None }
first_or noted index (Some first) = second_or noted index noted.second

unfoldable pub with_symbol : SectionSymbols → ℕ → SectionSymbols
with_symbol noted index = first_or noted index noted.first

-- those of the sections in a list, after one more symbol of the section with a number; 0 is that of none
abbrev pub noted_at : List SectionSymbols → ℕ → ℕ → List SectionSymbols
noted_at symbols zero index = symbols
noted_at symbols (suc k) index = slice_set symbols k (with_symbol (slice_index_or symbols k no_symbols) index)

unfoldable pub noted_symbols : List SectionSymbols → ℤ → ℕ → List SectionSymbols
noted_symbols symbols section index = noted_at symbols (section_of_number section) index

-- ---- COMDAT sections

-- what each says of itself, by the sections' numbers from 1
abbrev pub all_comdat_records : List ℕ → List (Option ComdatRecord)
all_comdat_records bytes = map (comdat_record_of bytes) (range_with_len 1 (section_total bytes))

-- the parents that records say, by the sections' numbers; 0 stands in front
abbrev pub parents_in : List (Option ComdatRecord) → List ℕ
parents_in records = 0 ∷ map (parent_in (length records)) records

-- the first of some records, by its section's number, that fails
abbrev pub first_record : List (Option ComdatRecord) → (ComdatRecord → Bool) → Option ℕ
first_record records fails =
    option_map (λ k. k + 1) (first_below (length records) (λ k. fails_of fails (slice_index_or records k None)))

-- it lacks a symbol or a selection, or is selected with none of so many sections before it
abbrev pub is_out_of_order : ℕ → ComdatRecord → Bool
is_out_of_order before said = lacks_symbol said || (has_no_selection said || has_no_parent before said)

-- none of an object's sections is
abbrev pub StandInOrder : List ℕ → Type 0
StandInOrder bytes =
    (k : ℕ) → k < section_total bytes → fails_of (is_out_of_order k) (comdat_record_of bytes (k + 1)) ≡ false

-- what the code answers of what a section says is what a test says of it
abbrev pub DecidesRecords : (Bor ComdatRecord → Bool → Type 0) → (ComdatRecord → Bool) → Type 0
DecidesRecords answers test = (said : Bor ComdatRecord) (answer : Bool) → answers said answer → answer ≡ test said.now

-- a section whose parent is none, or whose chain of parents comes back
unfoldable pub parent_place_in : List (Option ComdatRecord) → Option ℕ
parent_place_in records =
    least_place (first_record records (has_no_parent (length records)))
    (first_below (length (parents_in records)) (comes_back (parents_in records)))

-- what is wrong with records, of an object with so many symbol records
unfoldable pub record_fault : ℕ → List (Option ComdatRecord) → Option ObjError
record_fault symbol_records records =
    first_standing
    (row kind.Aux (option_map (λ section. symbol_records + section) (first_record records lacks_symbol))
    ∷ row kind.Selection (first_record records has_no_selection)
    ∷ row kind.Associative (parent_place_in records)
    ∷ [])

-- ---- where symbols start

-- a mark for each record, whether a symbol starts there
abbrev pub HasStarts : List ℕ → List Bool → Type 0
HasStarts bytes starts = (symbol : ℕ) → slice_index_or starts symbol false ≡ starts_symbol bytes symbol
