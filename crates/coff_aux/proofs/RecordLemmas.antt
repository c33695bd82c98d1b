-- What the records of COMDAT sections and the first malformed weak external say of an object.
use Rattle.std.proofs.Common.{◌≡◌, ℕ, zero, suc, ◌+◌, ◌<◌, Bool, true, false, ◌&&◌, not, cond, eqb, List, [], ◌∷◌, length, map, get_or, slice_index, Option, Some, None, inl, inr, refl, ap, ◌∙◌, arith}
use Rattle.std.proofs.lemmas.Simd.{map-map}
use Rattle.std.specs.Prelude.{option_map}
use Rattle.std.specs.List.{range_with_len}
use Rattle.std.proofs.lemmas.Bool.{cases_lt, false≢true}
use Rattle.std.proofs.lemmas.List.{length-map, get_or_past}
use Rattle.std.proofs.lemmas.List.FromFn.{get_or-map-range_with_len, length-map-range_with_len}
use Rattle.link_base.specs.Bytes.{first_below}
use Rattle.link_base.proofs.CallerLemmas.{first_below-all_fail, first_below-same}
use Rattle.link_base.specs.declared.kinds.object.ObjFault.TheVariants as kind
use Rattle.coff_records.specs.ObjectFile.{section_total, record_total, symbol_entries}
use Rattle.coff_object.specs.ObjectFaults.{first_of, least_place}
use Rattle.coff_aux.specs.declared.comdat.ComdatRecord.{ComdatRecord}
use Rattle.coff_aux.specs.Comdats.{is_section_number, is_associative, comdat_record_of, parent_in, parents_of, has_comdat}
use Rattle.coff_aux.specs.Parents.{parent_at, ancestor, comes_back, AreParents}
use Rattle.coff_aux.specs.AuxFaults.{is_bad_weak, fails_of, lacks_symbol, has_no_selection, has_no_parent, first_comdat, aux_place, parent_place, aux_fault}
use Rattle.coff_aux.specs.Steps.{all_comdat_records, parents_in, first_record, parent_place_in, record_fault}
use Rattle.coff_aux.proofs.ComdatLemmas.{no_records, section_within}

-- ---- lists

-- the first that fails is the fault
pub weak_stands : (bytes : List ℕ) (index : ℕ) → first_of (is_bad_weak bytes) (symbol_entries bytes) ≡ Some index → aux_fault bytes ≡ Some (record { kind = kind.Aux; index = index })
unfolding aux_fault aux_place
weak_stands bytes index is = rw is refl

-- ---- the faults of sections, by their records

pub record_at : (bytes : List ℕ) (k : ℕ) → k < section_total bytes → get_or (all_comdat_records bytes) k None ≡ comdat_record_of bytes (k + 1)
record_at bytes k lt =
    get_or-map-range_with_len (comdat_record_of bytes) 1 (section_total bytes) k (k + 1) None lt (omega arith)

pub record_count : (bytes : List ℕ) → length (all_comdat_records bytes) ≡ section_total bytes
record_count bytes = length-map-range_with_len (comdat_record_of bytes) 1 (section_total bytes)

first_by_records : (bytes : List ℕ) (fails : ComdatRecord → Bool) → first_record (all_comdat_records bytes) fails ≡ first_comdat bytes fails
first_by_records bytes fails =
    ap (option_map (λ (k : ℕ). k + 1))
    (ap (λ (n : ℕ). first_below n (λ k. fails_of fails (get_or (all_comdat_records bytes) k None))) (record_count bytes)
    ∙ first_below-same (section_total bytes) (λ k. fails_of fails (get_or (all_comdat_records bytes) k None)) (λ k. fails_of fails (comdat_record_of bytes (k + 1))) (λ k lt. ap (fails_of fails) (record_at bytes k lt)))

parents_by_records : (bytes : List ℕ) → parents_in (all_comdat_records bytes) ≡ parents_of bytes
unfolding parents_of
parents_by_records bytes =
    ap (λ (xs : List ℕ). 0 ∷ xs)
    (ap (λ (n : ℕ). map (parent_in n) (all_comdat_records bytes)) (record_count bytes)
    ∙ map-map (parent_in (section_total bytes)) (comdat_record_of bytes) (range_with_len 1 (section_total bytes)))

place_by_records : (bytes : List ℕ) → parent_place_in (all_comdat_records bytes) ≡ parent_place bytes
unfolding parent_place_in parent_place
place_by_records bytes =
    ap (λ (n : ℕ). least_place (first_record (all_comdat_records bytes) (has_no_parent n)) (first_below (length (parents_in (all_comdat_records bytes))) (comes_back (parents_in (all_comdat_records bytes))))) (record_count bytes)
    ∙ ap (λ (o : Option ℕ). least_place o (first_below (length (parents_in (all_comdat_records bytes))) (comes_back (parents_in (all_comdat_records bytes))))) (first_by_records bytes (has_no_parent (section_total bytes)))
    ∙ ap (λ (ps : List ℕ). least_place (first_comdat bytes (has_no_parent (section_total bytes))) (first_below (length ps) (comes_back ps))) (parents_by_records bytes)

-- no weak external fails: the records of sections tell
pub fault_by_records : (bytes : List ℕ) → first_of (is_bad_weak bytes) (symbol_entries bytes) ≡ None → aux_fault bytes ≡ record_fault (record_total bytes) (all_comdat_records bytes)
unfolding aux_fault aux_place record_fault
fault_by_records bytes none =
    rw (none, first_by_records bytes lacks_symbol, first_by_records bytes has_no_selection, place_by_records bytes) refl

-- ---- no section is a COMDAT

none_first : (bytes : List ℕ) (fails : ComdatRecord → Bool) → has_comdat bytes ≡ false → first_comdat bytes fails ≡ None
none_first bytes fails none =
    ap (option_map (λ (k : ℕ). k + 1))
    (first_below-all_fail (section_total bytes) (λ k. fails_of fails (comdat_record_of bytes (k + 1))) (λ k lt. ap (fails_of fails) (no_records bytes none k lt)))

-- no section has a parent
no_parent : (bytes : List ℕ) → has_comdat bytes ≡ false → (k : ℕ) → k < section_total bytes → parent_in (section_total bytes) (comdat_record_of bytes (k + 1)) ≡ 0
unfolding parent_in
no_parent bytes none k lt = ap (parent_in (section_total bytes)) (no_records bytes none k lt)

all_zero : (f : ℕ → ℕ) (n : ℕ) → ((k : ℕ) → k < n → f (k + 1) ≡ 0) → (k : ℕ) → slice_index (map f (range_with_len 1 n)) k ≡ 0
all_zero f n each k = elim (cases_lt k n) [
  | inl lt ↦ get_or-map-range_with_len f 1 n k (k + 1) 0 lt (omega arith) ∙ each k lt
  | inr le ↦ get_or_past (map f (range_with_len 1 n)) k 0 (omega (arith, length-map-range_with_len f 1 n))
]

zero_parents : (bytes : List ℕ) → has_comdat bytes ≡ false → (section : ℕ) → parent_at (parents_of bytes) section ≡ 0
unfolding parents_of
zero_parents bytes none zero = refl
zero_parents bytes none (suc k) =
    all_zero (λ section. parent_in (section_total bytes) (comdat_record_of bytes section)) (section_total bytes) (no_parent bytes none) k

-- each chain ends at once
no_circle : (bytes : List ℕ) → has_comdat bytes ≡ false → first_below (length (parents_of bytes)) (comes_back (parents_of bytes)) ≡ None
unfolding ancestor
no_circle bytes none =
    first_below-all_fail (length (parents_of bytes)) (comes_back (parents_of bytes)) (λ section lt. ends section (length (parents_of bytes)) (omega (arith, lt)))
  where
    ends : (section steps : ℕ) → 0 < steps → not (eqb (ancestor (parents_of bytes) steps section) 0) ≡ false
    ends section zero some = absurd (omega (arith, some))
    ends section (suc steps) some = ap (λ (k : ℕ). not (eqb k 0)) (zero_parents bytes none (ancestor (parents_of bytes) steps section))

pub no_comdat_fault : (bytes : List ℕ) → has_comdat bytes ≡ false → first_of (is_bad_weak bytes) (symbol_entries bytes) ≡ None → aux_fault bytes ≡ None
unfolding aux_fault aux_place parent_place
no_comdat_fault bytes none weak =
    rw (weak, none_first bytes lacks_symbol none, none_first bytes has_no_selection none, none_first bytes (has_no_parent (section_total bytes)) none, no_circle bytes none) refl

-- ---- parents

small_parent : (count : ℕ) (said : Option ComdatRecord) → parent_in count said < suc count
unfolding parent_in
small_parent count None = omega arith
small_parent count (Some said) = go (is_associative said && is_section_number count said.associated) refl
  where
    go : (b : Bool) → (is_associative said && is_section_number count said.associated) ≡ b → cond b said.associated 0 < suc count
    go true is = omega (arith, (section_within count said.associated (both (is_associative said) _ is)).1)
      where
        both : (a b : Bool) → (a && b) ≡ true → b ≡ true
        both true b e = e
        both false b e = absurd (false≢true e)
    go false is = omega arith

all_small : (count : ℕ) (records : List (Option ComdatRecord)) (k : ℕ) → slice_index (map (parent_in count) records) k < suc count
all_small count [] k = omega arith
all_small count (said ∷ rest) zero = small_parent count said
all_small count (said ∷ rest) (suc k) = all_small count rest k

pub are_parents : (records : List (Option ComdatRecord)) → AreParents (parents_in records)
are_parents records = record {
  none = refl;
  within = λ section lt. go section;
}
  where
    long : length (parents_in records) ≡ suc (length records)
    long = ap suc (length-map records (parent_in (length records)))

    go : (section : ℕ) → parent_at (parents_in records) section < length (parents_in records)
    go zero = omega (arith, long)
    go (suc k) = omega (arith, long, all_small (length records) records k)
