-- What an object is in which no kind of fault stands, and what shows that none does.
use Rattle.std.proofs.Common.{◌≡◌, ℕ, ◌+◌, Bool, true, false, cond, ltb, List, length, Option, Some, None, refl, sym, ap, ◌∙◌}
use Rattle.std.proofs.lemmas.Bool.{ltb-false}
use Rattle.std.specs.Option.{option_or}
use Rattle.link_base.proofs.TestLemmas.{or_left, or_right}
use Rattle.link_base.proofs.CallerLemmas.{first_below-none}
use Rattle.link_base.specs.declared.kinds.object.ObjFault.{ObjFault}
use Rattle.coff_object.specs.declared.error.ObjError.{ObjError}
use Rattle.coff_records.specs.ObjectHeader.{record_total, symbol_size}
use Rattle.coff_records.specs.StringTable.{string_table}
use Rattle.coff_records.specs.ObjectFile.{record_offset, SymbolEntry, symbol_entries}
use Rattle.coff_records.specs.FileRanges.{is_truncated, body_leaves, relocations_leave, record_leaves, table_leaves, HasRecords}
use Rattle.coff_records.specs.SectionHeader.{lacks_section_name}
use Rattle.coff_records.specs.SymbolRecord.{lacks_symbol_name}
use Rattle.coff_object.specs.ObjectFaults.{at_start, first_section, first_of, first_symbol, of_symbol, is_other_machine, first_torn_record, aux_leave, least_place, symbol_range_fault, string_table_fault, has_no_alignment, has_no_section, value_exceeds, row, object_fault}
use Rattle.coff_object.specs.AnyFault.{section_fails, symbol_fails}
use Rattle.coff_object.proofs.LoopLemmas.{section_weaker, first_of-weaker}

-- ---- rows that do not stand

neither_row : (first later : Option ObjError) → option_or first later ≡ None → (first ≡ None) × (later ≡ None)
neither_row None later e = (refl, e)
neither_row (Some error) later e = absurd cc

row_none : (fault : ObjFault) (place : Option ℕ) → row fault place ≡ None → place ≡ None
row_none fault None e = refl
row_none fault (Some index) e = absurd cc

start_none : (fails : Bool) → at_start fails ≡ None → fails ≡ false
start_none true e = absurd cc
start_none false e = refl

neither_of : (first later : Option ℕ) → option_or first later ≡ None → (first ≡ None) × (later ≡ None)
neither_of None later e = (refl, e)
neither_of (Some k) later e = absurd cc

neither_place : (first later : Option ℕ) → least_place first later ≡ None → (first ≡ None) × (later ≡ None)
neither_place None later e = (refl, e)
neither_place (Some k) None e = absurd cc
neither_place (Some k) (Some m) e = absurd (chosen (ltb m k) e)
  where
    chosen : (b : Bool) → cond b (Some m) (Some k) ≡ None → ⊥
    chosen true h = cc
    chosen false h = cc

pub record NoFault (file : List ℕ) : Type 0 where
  pub headers : is_truncated file ≡ false
  pub machine : is_other_machine file ≡ false
  pub bodies : first_section file (body_leaves file) ≡ None
  pub relocations : first_section file (relocations_leave file) ≡ None
  pub symbols : symbol_range_fault file ≡ None
  pub strings : string_table_fault file ≡ None
  pub alignments : first_section file has_no_alignment ≡ None
  pub numbers : first_symbol file (has_no_section file) ≡ None
  pub values : first_symbol file (value_exceeds file) ≡ None

pub no_fault : (file : List ℕ) → object_fault file ≡ None → NoFault file
unfolding object_fault
no_fault file e =
    let a = neither_row _ _ e in
    let b = neither_row _ _ a.1 in
    let c = neither_row _ _ b.1 in
    let d = neither_row _ _ c.1 in
    let f = neither_row _ _ d.1 in
    let g = neither_row _ _ f.1 in
    let h = neither_row _ _ g.1 in
    let i = neither_row _ _ h.1 in
    let j = neither_row _ _ i.1 in
    record {
      headers = start_none _ (row_none _ _ a.0);
      machine = start_none _ (row_none _ _ b.0);
      bodies = row_none _ _ c.0;
      relocations = row_none _ _ d.0;
      symbols = row_none _ _ f.0;
      strings = row_none _ _ g.0;
      alignments = row_none _ _ h.0;
      numbers = row_none _ _ i.0;
      values = row_none _ _ j.0;
    }

pub faultless : (file : List ℕ) → NoFault file → object_fault file ≡ None
unfolding object_fault
faultless file none =
    rw (none.headers, none.machine, none.bodies, none.relocations, none.symbols, none.strings, none.alignments, none.numbers, none.values) refl

-- ---- of what passes, what is whole

records_whole : (file : List ℕ) → first_torn_record file ≡ None → HasRecords file
unfolding first_torn_record
records_whole file none = record {
  whole = λ index lt. ltb-false (length file) (record_offset file index + symbol_size file) (first_below-none (record_total file) (record_leaves file) none index lt);
}

pub range_holds : (file : List ℕ) → symbol_range_fault file ≡ None → HasRecords file
unfolding symbol_range_fault
range_holds file e = records_whole file (neither_place (first_torn_record file) _ e).0

pub aux_hold : (file : List ℕ) → symbol_range_fault file ≡ None → first_of (aux_leave file) (symbol_entries file) ≡ None
unfolding symbol_range_fault
aux_hold file e = (neither_place (first_torn_record file) _ e).1

pub table_stays : (file : List ℕ) → string_table_fault file ≡ None → table_leaves file ≡ false
unfolding string_table_fault
table_stays file e = start_none (table_leaves file) (neither_of _ _ e).0

pub names_stay : (file : List ℕ) → string_table_fault file ≡ None → first_section file (lacks_section_name (string_table file)) ≡ None
unfolding string_table_fault
names_stay file e = (neither_of _ _ (neither_of _ _ e).1).0

-- ---- one test of a section, or of a symbol, for all kinds

section_tests : (file strings header : List ℕ) → section_fails file strings header ≡ false → (body_leaves file header ≡ false) × ((relocations_leave file header ≡ false) × ((lacks_section_name strings header ≡ false) × (has_no_alignment header ≡ false)))
unfolding section_fails
section_tests file strings header e =
    let a = or_right (body_leaves file header) _ e in
    let b = or_right (relocations_leave file header) _ a in
    (or_left (body_leaves file header) _ e, (or_left (relocations_leave file header) _ a, (or_left (lacks_section_name strings header) _ b, or_right (lacks_section_name strings header) _ b)))

symbol_tests : (file : List ℕ) (entry : SymbolEntry) → symbol_fails file entry ≡ false → (aux_leave file entry ≡ false) × ((lacks_symbol_name entry.1 ≡ false) × ((has_no_section file entry.1 ≡ false) × (value_exceeds file entry.1 ≡ false)))
unfolding symbol_fails
symbol_tests file entry e =
    let a = or_right (aux_leave file entry) _ e in
    let b = or_right (lacks_symbol_name entry.1) _ a in
    (or_left (aux_leave file entry) _ e, (or_left (lacks_symbol_name entry.1) _ a, (or_left (has_no_section file entry.1) _ b, or_right (has_no_section file entry.1) _ b)))

range_passes : (file : List ℕ) → first_torn_record file ≡ None → first_of (aux_leave file) (symbol_entries file) ≡ None → symbol_range_fault file ≡ None
unfolding symbol_range_fault
range_passes file torn leaving = rw (torn, leaving) refl

strings_pass : (file : List ℕ) → table_leaves file ≡ false → first_section file (lacks_section_name (string_table file)) ≡ None → first_symbol file lacks_symbol_name ≡ None → string_table_fault file ≡ None
unfolding string_table_fault
strings_pass file table sections symbols = rw (table, sections, symbols) refl

-- where neither a section nor a symbol fails for any kind, none stands
pub well_formed : (file strings : List ℕ) → is_truncated file ≡ false → is_other_machine file ≡ false → first_torn_record file ≡ None → table_leaves file ≡ false → strings ≡ string_table file → first_section file (section_fails file strings) ≡ None → first_of (symbol_fails file) (symbol_entries file) ≡ None → object_fault file ≡ None
well_formed file strings headers machine torn table is sections symbols =
    faultless file (record {
      headers = headers;
      machine = machine;
      bodies = section_weaker file (body_leaves file) (section_fails file strings) (λ header e. (section_tests file strings header e).0) sections;
      relocations = section_weaker file (relocations_leave file) (section_fails file strings) (λ header e. (section_tests file strings header e).1.0) sections;
      symbols = range_passes file torn (first_of-weaker (aux_leave file) (symbol_fails file) (symbol_entries file) (λ entry e. (symbol_tests file entry e).0) symbols);
      strings = strings_pass file table (ap (λ (texts : List ℕ). first_section file (lacks_section_name texts)) (sym is) ∙ section_weaker file (lacks_section_name strings) (section_fails file strings) (λ header e. (section_tests file strings header e).1.1.0) sections) (first_of-weaker (of_symbol lacks_symbol_name) (symbol_fails file) (symbol_entries file) (λ entry e. (symbol_tests file entry e).1.0) symbols);
      alignments = section_weaker file has_no_alignment (section_fails file strings) (λ header e. (section_tests file strings header e).1.1.1) sections;
      numbers = first_of-weaker (of_symbol (has_no_section file)) (symbol_fails file) (symbol_entries file) (λ entry e. (symbol_tests file entry e).1.1.0) symbols;
      values = first_of-weaker (of_symbol (value_exceeds file)) (symbol_fails file) (symbol_entries file) (λ entry e. (symbol_tests file entry e).1.1.1) symbols;
    })
