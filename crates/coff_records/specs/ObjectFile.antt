-- What an object file holds: its sections, their relocations, and its symbols. Sections are numbered from 1, symbol records
-- and relocations from 0. A section is read in its header, a symbol in its record.
use Rattle.std.specs.Prelude.{ℕ, zero, suc, ◌+◌, ◌-◌, ◌*◌, ℤ, Bool, ◌==◌, nat_lt, if◌then◌else◌, List, [], ◌∷◌, map, Option, Some, None}
use Rattle.std.specs.List.{list_any}
use Rattle.link_base.specs.Bytes.{bytes_at}
use Rattle.link_base.specs.PeFormat.{SIZEOF_SECTION_HEADER, SIZEOF_RELOCATION}
use Rattle.coff_records.specs.declared.relocation.Relocation.{Relocation}
pub use Rattle.coff_records.specs.ObjectHeader.{is_big_object, machine_of, section_total, section_headers_offset, symbols_offset, record_total, symbol_size}
pub use Rattle.coff_records.specs.StringTable.{string_table, text_in, is_long_text}
pub use Rattle.coff_records.specs.SectionHeader.{size_in, data_offset_in, flags_in, name_field_in, short_name_in, name_offset, section_name_in, alignment_value, alignment_of, is_uninitialised_in}
pub use Rattle.coff_records.specs.Relocations.{relocations_place, relocation_count_in, relocation_at, relocations_from}
pub use Rattle.coff_records.specs.SymbolRecord.{SymbolView, long_name_offset_in, name_in, value_in, section_number_in, section_of_number, kind_in, class_in, aux_count_in}

-- ---- sections

-- the header of a section
unfoldable pub section_at : List ℕ → ℕ → List ℕ
section_at file section =
    bytes_at file (section_headers_offset file + SIZEOF_SECTION_HEADER * (section - 1)) SIZEOF_SECTION_HEADER

abbrev pub section_name_of : List ℕ → ℕ → List ℕ
section_name_of file section = section_name_in (string_table file) (section_at file section)

abbrev pub name_field_of : List ℕ → ℕ → List ℕ
name_field_of file section = name_field_in (section_at file section)

-- the offset in the string table that its name field refers to, where it does
abbrev pub name_offset_of : List ℕ → ℕ → Option ℕ
name_offset_of file section = name_offset (short_name_in (section_at file section))

abbrev pub raw_size_of : List ℕ → ℕ → ℕ
raw_size_of file section = size_in (section_at file section)

abbrev pub raw_offset_of : List ℕ → ℕ → ℕ
raw_offset_of file section = data_offset_in (section_at file section)

abbrev pub flags_of : List ℕ → ℕ → ℕ
flags_of file section = flags_in (section_at file section)

abbrev pub is_uninitialised : List ℕ → ℕ → Bool
is_uninitialised file section = is_uninitialised_in (section_at file section)

-- the data, which an uninitialised section does not have
abbrev pub data_in : List ℕ → List ℕ → Option (List ℕ)
data_in file header =
    if is_uninitialised_in header then None else Some (bytes_at file (data_offset_in header) (size_in header))

abbrev pub body_of : List ℕ → ℕ → Option (List ℕ)
body_of file section = data_in file (section_at file section)

-- ---- relocations

abbrev pub relocation_total : List ℕ → ℕ → ℕ
relocation_total file section = relocation_count_in file (section_at file section)

-- a relocation of a section, by its index
abbrev pub relocation_of : List ℕ → ℕ → ℕ → Relocation
relocation_of file section index =
    relocation_at file (relocations_place (section_at file section) + SIZEOF_RELOCATION * index)

-- all relocations of a section
abbrev pub relocations_of : List ℕ → ℕ → List Relocation
relocations_of file section =
    relocations_from file (relocations_place (section_at file section)) 0 (relocation_total file section)

-- ---- symbols

-- where a symbol record begins
unfoldable pub record_offset : List ℕ → ℕ → ℕ
record_offset file index = symbols_offset file + symbol_size file * index

-- a symbol record, or an auxiliary one
unfoldable pub record_at : List ℕ → ℕ → List ℕ
record_at file index = bytes_at file (record_offset file index) (symbol_size file)

-- a record read as a symbol
unfoldable pub symbol_at : List ℕ → ℕ → SymbolView
symbol_at file index =
    record { is_big = is_big_object file; bytes = record_at file index; strings = string_table file }

abbrev pub symbol_name_of : List ℕ → ℕ → List ℕ
symbol_name_of file index = name_in (symbol_at file index)

abbrev pub symbol_value_of : List ℕ → ℕ → ℕ
symbol_value_of file index = value_in (symbol_at file index)

abbrev pub symbol_section_of : List ℕ → ℕ → ℤ
symbol_section_of file index = section_number_in (symbol_at file index)

abbrev pub symbol_kind_of : List ℕ → ℕ → ℕ
symbol_kind_of file index = kind_in (symbol_at file index)

abbrev pub symbol_class_of : List ℕ → ℕ → ℕ
symbol_class_of file index = class_in (symbol_at file index)

abbrev pub aux_total_of : List ℕ → ℕ → ℕ
aux_total_of file index = aux_count_in (symbol_at file index)

-- an auxiliary record of a symbol, whole, by its index after it
abbrev pub aux_record : List ℕ → ℕ → ℕ → List ℕ
aux_record file index place = record_at file (index + 1 + place)

-- ---- which records start a symbol: record 0, and the one after each symbol and its auxiliary records, below the count

-- the starts among `n` steps from a record that starts one, where it is below the count
unfoldable pub starts_within : List ℕ → ℕ → ℕ → List ℕ
starts_within file zero index = []
starts_within file (suc n) index =
    if nat_lt index (record_total file) then index ∷ starts_within file n (index + 1 + aux_total_of file index) else []

-- no more steps than there are records to come: each goes on by one record at least
abbrev pub starts_from : List ℕ → ℕ → List ℕ
starts_from file index = starts_within file (record_total file - index) index

-- all of them, ascending
abbrev pub symbols_of : List ℕ → List ℕ
symbols_of file = starts_from file 0

-- a record is one of them
unfoldable pub starts_symbol : List ℕ → ℕ → Bool
starts_symbol file index = list_any (λ start. start == index) (symbols_of file)

-- a symbol with its record's index
abbrev pub SymbolEntry : Type 0
SymbolEntry = ℕ × SymbolView

abbrev pub symbol_entry : List ℕ → ℕ → SymbolEntry
symbol_entry file index = (index, symbol_at file index)

-- all symbols with their indexes, in the order of their records
abbrev pub symbol_entries : List ℕ → List SymbolEntry
symbol_entries file = map (symbol_entry file) (symbols_of file)
