-- What is wrong with an object, as a table of kinds. Each kind says of which sections, or of which symbol records, it stands;
-- it is judged where no earlier kind stands, and the least place counts. Own; the fields are those of the PE Format
-- specification. What leaves the file, and which names are missing, is defined with the records of coff_records.
use Rattle.std.specs.Prelude.{◌≡◌, ℕ, ◌+◌, pos, Bool, ◌||◌, ◌&&◌, not, ◌==◌, nat_lt, if◌then◌else◌, List, [], ◌∷◌, Option, Some, None, option_map}
use Rattle.std.specs.Borrow.{Bor}
use Rattle.std.specs.Option.{option_or}
use Rattle.std.specs.Int.Signed.{lt_z}
use Rattle.link_base.specs.Bytes.{has_flag, first_below}
use Rattle.link_base.specs.PeFormat.{FILE_MACHINE_AMD64, FILE_MACHINE_UNKNOWN, SCN_TYPE_NO_PAD, SYM_CLASS_EXTERNAL, SYM_CLASS_STATIC, SYM_CLASS_LABEL, SYM_UNDEFINED, SYM_DEBUG}
use Rattle.link_base.specs.Refusals.{first_standing}
use Rattle.link_base.specs.declared.kinds.object.ObjFault.{ObjFault}
use Rattle.link_base.specs.declared.kinds.object.ObjFault.TheVariants as kind
use Rattle.coff_records.specs.ObjectHeader.{machine_of, section_total, record_total}
use Rattle.coff_records.specs.StringTable.{string_table}
use Rattle.coff_records.specs.SectionHeader.{size_in, flags_in, alignment_value, lacks_section_name}
use Rattle.coff_records.specs.SymbolRecord.{SymbolView, lacks_symbol_name, value_in, section_number_in, section_of_number, class_in, aux_count_in}
use Rattle.coff_records.specs.ObjectFile.{section_at, SymbolEntry, symbol_entries}
use Rattle.coff_records.specs.FileRanges.{is_truncated, body_leaves, relocations_leave, record_leaves, table_leaves}
use Rattle.coff_object.specs.declared.error.ObjError.{ObjError}

-- ---- places

abbrev pub at_start : Bool → Option ℕ
at_start fails = if fails then Some 0 else None

-- sections have numbers from 1, and are judged by their headers
abbrev pub of_section : List ℕ → (List ℕ → Bool) → ℕ → Bool
of_section file fails index = fails (section_at file (index + 1))

-- the least section that fails
unfoldable pub first_section : List ℕ → (List ℕ → Bool) → Option ℕ
first_section file fails = option_map (λ index. index + 1) (first_below (section_total file) (of_section file fails))

-- what the code answers of a header is what a test says of it
abbrev pub Decides : (Bor (List ℕ) → Bool → Type 0) → (List ℕ → Bool) → Type 0
Decides answers test = (header : Bor (List ℕ)) (answer : Bool) → answers header answer → answer ≡ test header.now

-- the index of the first of some symbols that fails
unfoldable pub first_of : (SymbolEntry → Bool) → List SymbolEntry → Option ℕ
first_of fails [] = None
first_of fails (entry ∷ rest) = if fails entry then Some entry.0 else first_of fails rest

abbrev pub of_symbol : (SymbolView → Bool) → SymbolEntry → Bool
of_symbol fails entry = fails entry.1

-- the least record at which a symbol starts that fails
abbrev pub first_symbol : List ℕ → (SymbolView → Bool) → Option ℕ
first_symbol file fails = first_of (of_symbol fails) (symbol_entries file)

-- ---- Machine

-- neither x86-64 nor any machine
unfoldable pub is_other_machine : List ℕ → Bool
is_other_machine file =
    not (machine_of file == FILE_MACHINE_AMD64) && not (machine_of file == FILE_MACHINE_UNKNOWN)

-- ---- SymbolRange

-- the first record that is not whole in the file
unfoldable pub first_torn_record : List ℕ → Option ℕ
first_torn_record file = first_below (record_total file) (record_leaves file)

-- the auxiliary records of a symbol leave the table
abbrev pub aux_leave : List ℕ → SymbolEntry → Bool
aux_leave file entry = nat_lt (record_total file) (entry.0 + 1 + aux_count_in entry.1)

-- the lesser of two places, where there are two
abbrev pub least_place : Option ℕ → Option ℕ → Option ℕ
least_place None other = other
least_place (Some place) None = Some place
least_place (Some place) (Some other) = if nat_lt other place then Some other else Some place

-- the first record that is not whole, or the first symbol whose auxiliary records leave the table: the lesser counts
unfoldable pub symbol_range_fault : List ℕ → Option ℕ
symbol_range_fault file = least_place (first_torn_record file) (first_of (aux_leave file) (symbol_entries file))

-- ---- StringTable

-- the table itself, then sections, then records after the sections' numbers
unfoldable pub string_table_fault : List ℕ → Option ℕ
string_table_fault file =
    option_or (at_start (table_leaves file))
    (option_or (first_section file (lacks_section_name (string_table file)))
    (option_map (λ index. section_total file + index) (first_symbol file lacks_symbol_name)))

-- ---- Alignment

-- the one value that the format leaves free
unfoldable pub has_no_alignment : List ℕ → Bool
has_no_alignment header =
    not (has_flag (flags_in header) SCN_TYPE_NO_PAD) && (alignment_value (flags_in header) == 15)

-- ---- SectionNumber

-- below those for debuggers, or above the sections
unfoldable pub has_no_section : List ℕ → SymbolView → Bool
has_no_section file symbol =
    lt_z (section_number_in symbol) SYM_DEBUG || lt_z (pos (section_total file)) (section_number_in symbol)

-- ---- SymbolValue

-- symbols of these classes mean places where they have a section
abbrev pub means_a_place : ℕ → Bool
means_a_place class = (class == SYM_CLASS_EXTERNAL) || ((class == SYM_CLASS_STATIC) || (class == SYM_CLASS_LABEL))

-- an external symbol, a static one or a label in a section
abbrev pub is_in_section : SymbolView → Bool
is_in_section symbol = lt_z SYM_UNDEFINED (section_number_in symbol) && means_a_place (class_in symbol)

-- such a one with a value above the section's size
unfoldable pub value_exceeds : List ℕ → SymbolView → Bool
value_exceeds file symbol =
    is_in_section symbol
    && nat_lt (size_in (section_at file (section_of_number (section_number_in symbol)))) (value_in symbol)

-- ---- the table

-- a kind, at the place where it stands
abbrev pub row : ObjFault → Option ℕ → Option ObjError
row fault place = option_map (λ index. record { kind = fault; index = index }) place

-- the first kind that stands, with its least place: none where the object is well formed
unfoldable pub object_fault : List ℕ → Option ObjError
object_fault file =
    first_standing
    (row kind.Truncated (at_start (is_truncated file))
    ∷ row kind.Machine (at_start (is_other_machine file))
    ∷ row kind.SectionRange (first_section file (body_leaves file))
    ∷ row kind.RelocationRange (first_section file (relocations_leave file))
    ∷ row kind.SymbolRange (symbol_range_fault file)
    ∷ row kind.StringTable (string_table_fault file)
    ∷ row kind.Alignment (first_section file has_no_alignment)
    ∷ row kind.SectionNumber (first_symbol file (has_no_section file))
    ∷ row kind.SymbolValue (first_symbol file (value_exceeds file))
    ∷ [])
