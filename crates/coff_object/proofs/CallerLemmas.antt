-- What callers may cite of a well formed object: what is in the file, what the fields can be, and where symbols
-- start; of loops over its symbols; and of the first bytes of a text.
use Rattle.std.proofs.Common.{◌≡◌, ℕ, zero, suc, ◌-◌, ◌*◌, ◌^◌, ◌<◌, ◌≤◌, Bool, true, false, cond, ◌&&◌, not, eqb, List, length, drop, None, refl, sym, ap, ◌∙◌, ◌⊎◌, inl, inr, lit≤, arith}
use Rattle.std.proofs.lemmas.Bool.{cases_lt, false≢true, ltb-false}
use Rattle.std.proofs.lemmas.Bool.Decides.{eqb_tells}
use Rattle.std.proofs.lemmas.List.{length-take-le, length-drop}
use Rattle.std.proofs.lemmas.List.FromFn.{length-map-range_with_len}
use Rattle.link_base.specs.Bytes.{bytes_at, has_flag}
use Rattle.link_base.specs.PeFormat.{SCN_TYPE_NO_PAD}
use Rattle.link_base.proofs.TestLemmas.{and_second}
use Rattle.coff_records.specs.Relocations.{relocations_from}
use Rattle.coff_records.specs.SymbolRecord.{SymbolView, section_number_in, section_of_number, value_in}
use Rattle.coff_records.specs.ObjectFile.{section_total, section_at, flags_of, alignment_value, alignment_of, raw_size_of, raw_offset_of, is_uninitialised, relocation_total, relocations_of, record_total, symbol_at, symbol_size, symbol_section_of, symbol_value_of, starts_symbol}
use Rattle.coff_records.specs.FileRanges.{leaves_file, body_leaves}
use Rattle.coff_object.specs.ObjectFaults.{of_symbol, has_no_alignment, has_no_section, value_exceeds, is_in_section, object_fault}
use Rattle.coff_records.proofs.CallerLemmas.{range_whole, sections_fit, records_fit-whole, size_cases}
use Rattle.coff_object.proofs.LoopLemmas.{section_passes}
use Rattle.coff_object.proofs.NumberLemmas.{number_inside}
use Rattle.coff_object.proofs.StartLemmas.{each_passes}
use Rattle.coff_object.proofs.WellFormedLemmas.{no_fault, range_holds}
use Rattle.coff_object.proofs.Readable.{readable_section, relocation_whole}
pub use Rattle.coff_records.proofs.CallerLemmas.{before_first-take, SymbolsLeft, SymbolStep, symbols_left-all, symbols_left-step, symbol_strings}
pub use Rattle.coff_object.proofs.StartLemmas.{starts_first, starts_next, starts_only, starts_below, symbol_room}
pub use Rattle.coff_object.proofs.LoopLemmas.{symbol_found, symbol_more, symbol_none, symbol_passes}

-- ---- symbols

-- a symbol record has 18 bytes, or 20
pub symbol_size_is : (file : List ℕ) → (symbol_size file ≡ 18) ⊎ (symbol_size file ≡ 20)
symbol_size_is file = size_cases file

-- no more records than the file holds
pub records_fit : (file : List ℕ) → object_fault file ≡ None → 18 * record_total file ≤ length file
records_fit file e = records_fit-whole file (range_holds file (no_fault file e).symbols)

-- no more sections than the file holds headers of
pub headers_fit : (file : List ℕ) → object_fault file ≡ None → 40 * section_total file ≤ length file
headers_fit file e = sections_fit file (no_fault file e).headers

-- a symbol's section number that is that of a section is one of the file's
pub symbol_section_inside : (file : List ℕ) (index : ℕ) → object_fault file ≡ None → starts_symbol file index ≡ true → section_of_number (symbol_section_of file index) ≤ section_total file
symbol_section_inside file index e starts =
    number_inside file (symbol_at file index) (symbol_section_of file index) refl (each_passes file (of_symbol (has_no_section file)) index (no_fault file e).numbers starts)

value_stays : (file : List ℕ) (symbol : SymbolView) → value_exceeds file symbol ≡ false → is_in_section symbol ≡ true → value_in symbol ≤ raw_size_of file (section_of_number (section_number_in symbol))
unfolding value_exceeds
value_stays file symbol e here =
    ltb-false (raw_size_of file (section_of_number (section_number_in symbol))) (value_in symbol) (and_second (is_in_section symbol) _ here e)

-- the value of an external symbol, a static one or a label in a section is at most the section's size
pub symbol_value_inside : (file : List ℕ) (index : ℕ) → object_fault file ≡ None → starts_symbol file index ≡ true → is_in_section (symbol_at file index) ≡ true → symbol_value_of file index ≤ raw_size_of file (section_of_number (symbol_section_of file index))
symbol_value_inside file index e starts here =
    value_stays file (symbol_at file index) (each_passes file (of_symbol (value_exceeds file)) index (no_fault file e).values starts) here

-- ---- sections

part_length : (offset count : ℕ) (file : List ℕ) → leaves_file file offset count ≡ false → length (bytes_at file offset count) ≡ count
part_length offset zero file e = refl
part_length offset (suc count) file e =
    length-take-le (suc count) (drop offset file) (omega (arith, length-drop offset file, range_whole file offset (suc count) e (omega arith)))

body_stays : (file : List ℕ) (section : ℕ) → body_leaves file (section_at file section) ≡ false → is_uninitialised file section ≡ false → leaves_file file (raw_offset_of file section) (raw_size_of file section) ≡ false
unfolding body_leaves
body_stays file section e initialised = and_second (not (is_uninitialised file section)) _ (ap not initialised) e

-- an initialised section has as many bytes of data as its size says
pub body_length : (file : List ℕ) (section : ℕ) → object_fault file ≡ None → 1 ≤ section → section ≤ section_total file → is_uninitialised file section ≡ false → length (bytes_at file (raw_offset_of file section) (raw_size_of file section)) ≡ raw_size_of file section
body_length file section e first last initialised =
    part_length (raw_offset_of file section) (raw_size_of file section) file (body_stays file section (readable_section file section e first last).body initialised)

-- no more relocations of a section than the file holds
pub relocations_fit : (file : List ℕ) (section : ℕ) → object_fault file ≡ None → 1 ≤ section → section ≤ section_total file → 10 * relocation_total file section ≤ length file
relocations_fit file section e first last =
    elim (cases_lt 0 (relocation_total file section)) [
      | inl some ↦ omega (arith, relocation_whole file (section_at file section) (relocation_total file section - 1) (readable_section file section e first last).relocations (omega arith))
      | inr none ↦ omega arith
    ]

-- as many relocations as are counted
pub length-relocations_of : (file : List ℕ) (section : ℕ) → length (relocations_of file section) ≡ relocation_total file section
unfolding relocations_from
length-relocations_of file section = length-map-range_with_len _ 0 (relocation_total file section)

-- an alignment is a power of two of at most 8,192
pub record IsAlignment (alignment : ℕ) : Type 0 where
  pub power : ℕ
  pub small : power ≤ 13
  pub is : alignment ≡ 2 ^ power

unpadded : (value : ℕ) → value < 16 → (eqb value 15) ≡ false → IsAlignment (cond (eqb value 0) 16 (2 ^ (value - 1)))
unpadded value low free =
    elim (eqb_tells value 0) [
      | inl none ↦ record { power = 4; small = lit≤ tt; is = rw none.0 refl }
      | inr some ↦ record { power = value - 1; small = below value low free; is = rw some.0 refl }
    ]
  where
    below : (value : ℕ) → value < 16 → (eqb value 15) ≡ false → value - 1 ≤ 13
    below value low free = elim (eqb_tells value 15) [
      | inl last ↦ absurd (false≢true (sym free ∙ last.0))
      | inr other ↦ omega (arith, other.1)
    ]

aligned : (no_pad : Bool) (value : ℕ) → value < 16 → (not no_pad && eqb value 15) ≡ false → IsAlignment (cond no_pad 1 (cond (eqb value 0) 16 (2 ^ (value - 1))))
aligned true value low free = record { power = 0; small = lit≤ tt; is = refl }
aligned false value low free = unpadded value low free

pub section_alignment : (file : List ℕ) (section : ℕ) → object_fault file ≡ None → 1 ≤ section → section ≤ section_total file → IsAlignment (alignment_of (flags_of file section))
unfolding has_no_alignment
section_alignment file section e first last =
    let free = section_passes file has_no_alignment section first last (no_fault file e).alignments in
    aligned (has_flag (flags_of file section) SCN_TYPE_NO_PAD) (alignment_value (flags_of file section)) (omega arith) free
