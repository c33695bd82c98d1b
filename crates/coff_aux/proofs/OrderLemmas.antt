-- Nothing is wrong with COMDAT sections of which each has a symbol and a selection, and each parent stands before its
-- children: with each step a chain of parents comes to a lesser number.
use Rattle.std.proofs.Common.{◌≡◌, ℕ, zero, suc, ◌+◌, ◌-◌, ◌<◌, ◌≤◌, Bool, false, ◌&&◌, ◌||◌, not, List, length, get_or, Option, Some, None, inl, inr, refl, sym, ap, ◌∙◌, arith}
use Rattle.std.specs.Prelude.{option_map}
use Rattle.std.proofs.Math.ListN.{get_or-map}
use Rattle.std.proofs.lemmas.Bool.{and_from, and_left, and_right, and_cases, and_parts, or_parts, cond_both, le-leb, eq-eqb, not-false, not_from_true, cases_lt, false≢true}
use Rattle.std.proofs.lemmas.List.{get_or_past}
use Rattle.link_base.proofs.CallerLemmas.{first_below-all_fail}
use Rattle.coff_records.specs.ObjectFile.{section_total, record_total, symbol_entries}
use Rattle.coff_object.specs.ObjectFaults.{first_of}
use Rattle.coff_aux.specs.declared.comdat.ComdatRecord.{ComdatRecord}
use Rattle.coff_aux.specs.Comdats.{is_section_number, is_associative, parent_in}
use Rattle.coff_aux.specs.Parents.{parent_at, ancestor, comes_back}
use Rattle.coff_aux.specs.AuxFaults.{is_bad_weak, fails_of, lacks_symbol, has_no_selection, has_no_parent, aux_fault}
use Rattle.coff_aux.specs.Steps.{all_comdat_records, is_out_of_order, StandInOrder, parents_in, first_record, parent_place_in, record_fault}
use Rattle.coff_aux.proofs.ComdatLemmas.{section_within}
use Rattle.coff_aux.proofs.RecordLemmas.{record_at, record_count, fault_by_records}

-- ---- one record

-- what holds of a section that is in order, with so many before it
record InOrder (before : ℕ) (said : Option ComdatRecord) : Type 0 where
  symbol : fails_of lacks_symbol said ≡ false
  selection : fails_of has_no_selection said ≡ false
  parent : fails_of (has_no_parent before) said ≡ false

in_order : (before : ℕ) (said : Option ComdatRecord) → fails_of (is_out_of_order before) said ≡ false → InOrder before said
in_order before None is = record { symbol = refl; selection = refl; parent = refl }
in_order before (Some said) is =
    let parts = or_parts (lacks_symbol said) (has_no_selection said || has_no_parent before said) is in
    let others = or_parts (has_no_selection said) (has_no_parent before said) parts.1 in
    record { symbol = parts.0; selection = others.0; parent = others.1 }

-- a parent among the sections before is one of all sections
parent_among : (before count : ℕ) (said : Option ComdatRecord) → before ≤ count → fails_of (has_no_parent before) said ≡ false → fails_of (has_no_parent count) said ≡ false
parent_among before count None le is = refl
parent_among before count (Some said) le is =
    elim (and_cases (is_associative said) (not (is_section_number before said.associated)) is) [
      | inl alone ↦ and_left (is_associative said) _ alone
      | inr among ↦
          let within = section_within before said.associated (not-false _ among) in
          and_right (is_associative said) _ (not_from_true _ (and_from _ _ (le-leb 1 said.associated within.0) (le-leb said.associated count (omega arith))))
    ]

low_parent : (before count : ℕ) (said : Option ComdatRecord) → fails_of (has_no_parent before) said ≡ false → parent_in count said ≤ before
unfolding parent_in
low_parent before count None is = omega arith
low_parent before count (Some said) is =
    cond_both (is_associative said && is_section_number count said.associated) said.associated 0 (λ parent. parent ≤ before)
    (λ has.
    elim (and_cases (is_associative said) (not (is_section_number before said.associated)) is) [
      | inl alone ↦ absurd (false≢true (sym alone ∙ (and_parts (is_associative said) _ has).0))
      | inr among ↦ (section_within before said.associated (not-false _ among)).1
    ])
    (λ none. omega arith)

-- ---- all records

-- each section is in order
abbrev pub AreInOrder : List (Option ComdatRecord) → Type 0
AreInOrder records = (k : ℕ) → k < length records → fails_of (is_out_of_order k) (get_or records k None) ≡ false

low_parents : (records : List (Option ComdatRecord)) → AreInOrder records → (section : ℕ) → parent_at (parents_in records) section ≤ section - 1
unfolding parent_in
low_parents records are zero = omega arith
low_parents records are (suc k) =
    let count = length records in
    let said = get_or records k None in
    let is = get_or-map (parent_in count) records k None in
    elim (cases_lt k count) [
      | inl lt ↦ omega (arith, is, low_parent k count said (in_order k said (are k lt)).parent)
      | inr le ↦ omega (arith, is, ap (parent_in count) (get_or_past records k None le))
    ]

-- a chain comes to a lesser number with each step
low_ancestor : (parents : List ℕ) → ((section : ℕ) → parent_at parents section ≤ section - 1) → (steps section : ℕ) → ancestor parents steps section ≤ section - steps
unfolding ancestor
low_ancestor parents low zero section = omega arith
low_ancestor parents low (suc steps) section =
    omega (arith, low (ancestor parents steps section), low_ancestor parents low steps section)

chain_ends : (parents : List ℕ) → ((section : ℕ) → parent_at parents section ≤ section - 1) → (section : ℕ) → section < length parents → comes_back parents section ≡ false
chain_ends parents low section lt =
    not_from_true _ (eq-eqb (ancestor parents (length parents) section) 0 (omega (arith, low_ancestor parents low (length parents) section)))

none_first : (records : List (Option ComdatRecord)) (fails : ComdatRecord → Bool) → ((k : ℕ) → k < length records → fails_of fails (get_or records k None) ≡ false) → first_record records fails ≡ None
none_first records fails each =
    ap (option_map (λ (k : ℕ). k + 1)) (first_below-all_fail (length records) (λ k. fails_of fails (get_or records k None)) each)

no_fault_in_order : (records : List (Option ComdatRecord)) → AreInOrder records → (symbol_records : ℕ) → record_fault symbol_records records ≡ None
unfolding parent_place_in record_fault
no_fault_in_order records are symbol_records =
    let count = length records in
    let parents = parents_in records in
    let each = λ (k : ℕ) (lt : k < count). in_order k (get_or records k None) (are k lt) in
    let symbol = none_first records lacks_symbol (λ k lt. (each k lt).symbol) in
    let selection = none_first records has_no_selection (λ k lt. (each k lt).selection) in
    let missing = none_first records (has_no_parent count) (λ k lt. parent_among k count (get_or records k None) (omega arith) (each k lt).parent) in
    let circle = first_below-all_fail (length parents) (comes_back parents) (chain_ends parents (low_parents records are)) in
    rw (symbol, selection, missing, circle) refl

pub in_order_fault : (bytes : List ℕ) → StandInOrder bytes → first_of (is_bad_weak bytes) (symbol_entries bytes) ≡ None → aux_fault bytes ≡ None
in_order_fault bytes are weak =
    fault_by_records bytes weak
    ∙ no_fault_in_order (all_comdat_records bytes) (λ k lt.
    let within : k < section_total bytes = omega (arith, record_count bytes, lt) in
    ap (fails_of (is_out_of_order k)) (record_at bytes k within) ∙ are k within) (record_total bytes)
