-- Which symbol records are whole in a file, and the first record or symbol that is not.
use Rattle.std.proofs.Common.{◌≡◌, ℕ, zero, suc, ◌+◌, ◌-◌, ◌*◌, ◌/◌, ◌<◌, ◌≤◌, Bool, true, false, cond, ltb, List, [], ◌∷◌, length, map, Option, Some, None, refl, ap, ◌∙◌, ◌⊎◌, inl, inr, lt-ltb, le-ltb, arith}
use Rattle.std.proofs.lemmas.Option.{same_Some}
use Rattle.std.proofs.lemmas.Bool.{cases_lt}
use Rattle.link_base.proofs.CallerLemmas.{first_below-found, first_below-all_fail}
use Rattle.coff_records.specs.ObjectHeader.{symbols_offset, symbol_size, record_total}
use Rattle.coff_records.specs.ObjectFile.{record_offset, symbol_at, aux_total_of, starts_within, starts_from, SymbolEntry, symbol_entry, symbol_entries}
use Rattle.coff_records.specs.FileRanges.{record_leaves}
use Rattle.coff_object.specs.ObjectFaults.{first_torn_record, aux_leave, first_of, least_place, symbol_range_fault}
use Rattle.coff_object.proofs.LoopLemmas.{symbol_found, symbol_more}
use Rattle.coff_records.proofs.CallerLemmas.{size_cases, starts_from-end, starts_from-step, entries_step}

-- ---- whole records

fits : (len start size index : ℕ) → (size ≡ 18) ⊎ (size ≡ 20) → start ≤ len → index < (len - start) / size → start + size * index + size ≤ len
fits len start size index (inl plain) le lt = let small = rw plain at lt in rw plain (omega (arith, small))
fits len start size index (inr big) le lt = let large = rw big at lt in rw big (omega (arith, large))

torn : (len start size : ℕ) → (size ≡ 18) ⊎ (size ≡ 20) → start ≤ len → len < start + size * ((len - start) / size) + size
torn len start size (inl plain) le = rw plain (omega arith)
torn len start size (inr big) le = rw big (omega arith)

-- how many there is room for
pub room_of : (file bytes : List ℕ) (start size : ℕ) → bytes ≡ file → start ≡ symbols_offset file → size ≡ symbol_size file → (length bytes - start) / size ≡ (length file - symbols_offset file) / symbol_size file
room_of file bytes start size same starts sizes = rw (same, starts, sizes) refl

pub room_fits : (file : List ℕ) (index : ℕ) → symbols_offset file ≤ length file → index < (length file - symbols_offset file) / symbol_size file → record_offset file index + symbol_size file ≤ length file
unfolding record_offset
room_fits file index le lt = fits (length file) (symbols_offset file) (symbol_size file) index (size_cases file) le lt

pub room_ends : (file : List ℕ) → symbols_offset file ≤ length file → length file < record_offset file ((length file - symbols_offset file) / symbol_size file) + symbol_size file
unfolding record_offset
room_ends file le = torn (length file) (symbols_offset file) (symbol_size file) (size_cases file) le

-- no record of a table that begins beyond the file is in it
pub beyond_file : (file : List ℕ) → length file < symbols_offset file → length file < record_offset file 0 + symbol_size file
unfolding record_offset
beyond_file file lt = omega arith

-- ---- the first record that is torn

pub torn_none : (file : List ℕ) → ((index : ℕ) → index < record_total file → record_offset file index + symbol_size file ≤ length file) → first_torn_record file ≡ None
unfolding first_torn_record
torn_none file whole = first_below-all_fail (record_total file) (record_leaves file) (λ index lt. le-ltb _ _ (whole index lt))

pub torn_some : (file : List ℕ) (whole : ℕ) → whole < record_total file → ((index : ℕ) → index < whole → record_offset file index + symbol_size file ≤ length file) → length file < record_offset file whole + symbol_size file → first_torn_record file ≡ Some whole
unfolding first_torn_record
torn_some file whole lt before here =
    first_below-found whole (record_total file) (record_leaves file) lt (first_below-all_fail whole (record_leaves file) (λ index below. le-ltb _ _ (before index below))) (lt-ltb _ _ here)

-- ---- the lesser of the two places

-- a symbol before the first torn record counts
pub range_of_symbol : (file : List ℕ) (whole index : ℕ) → (whole < record_total file → first_torn_record file ≡ Some whole) → (whole ≡ record_total file → first_torn_record file ≡ None) → whole ≤ record_total file → index < whole → first_of (aux_leave file) (symbol_entries file) ≡ Some index → symbol_range_fault file ≡ Some index
unfolding symbol_range_fault
range_of_symbol file whole index torn none within lt first =
    elim (cases_lt whole (record_total file)) [
      | inl below ↦ rw (torn below, first, lt-ltb index whole lt) refl
      | inr all ↦ rw (none (omega arith), first) refl
    ]

-- symbols start at the record that a walk begins at, or after it
first_of-low : (fails : SymbolEntry → Bool) (file : List ℕ) (n index k : ℕ) → first_of fails (map (symbol_entry file) (starts_within file n index)) ≡ Some k → index ≤ k
unfolding starts_within first_of
first_of-low fails file zero index k e = absurd cc
first_of-low fails file (suc n) index k e =
    start (ltb index (record_total file)) (first_of-low fails file n (index + 1 + aux_total_of file index) k) e
  where
    entry : (b : Bool) (rest : Option ℕ) → (rest ≡ Some k → index + 1 + aux_total_of file index ≤ k) → cond b (Some index) rest ≡ Some k → index ≤ k
    entry true rest low h = let same : index ≡ k = same_Some index k h in omega arith
    entry false rest low h = omega (arith, low h)

    start : (b : Bool) → (first_of fails (map (symbol_entry file) (starts_within file n (index + 1 + aux_total_of file index))) ≡ Some k → index + 1 + aux_total_of file index ≤ k) → first_of fails (map (symbol_entry file) (cond b (index ∷ starts_within file n (index + 1 + aux_total_of file index)) [])) ≡ Some k → index ≤ k
    start true low h =
        entry (fails (symbol_entry file index)) (first_of fails (map (symbol_entry file) (starts_within file n (index + 1 + aux_total_of file index)))) low h
    start false low h = absurd cc

least_first : (whole index : ℕ) (later : Option ℕ) → ((k : ℕ) → later ≡ Some k → index ≤ k) → whole ≤ index → least_place (Some whole) later ≡ Some whole
least_first whole index None low le = refl
least_first whole index (Some k) low le = rw (le-ltb k whole (omega (arith, low k refl))) refl

-- a torn record before the symbols that are left counts
pub range_of_record : (file : List ℕ) (whole index : ℕ) → first_torn_record file ≡ Some whole → whole ≤ index → first_of (aux_leave file) (symbol_entries file) ≡ first_of (aux_leave file) (map (symbol_entry file) (starts_from file index)) → symbol_range_fault file ≡ Some whole
unfolding symbol_range_fault
range_of_record file whole index torn le first =
    rw (torn, first) (least_first whole index (first_of (aux_leave file) (map (symbol_entry file) (starts_from file index))) (λ k. first_of-low (aux_leave file) file (record_total file - index) index k) le)

pub range_none : (file : List ℕ) → first_torn_record file ≡ None → first_of (aux_leave file) (symbol_entries file) ≡ None → symbol_range_fault file ≡ None
unfolding symbol_range_fault
range_none file torn first = rw (torn, first) refl

-- where the walk is at the end, no symbol is left
pub none_left : (file : List ℕ) (index : ℕ) → record_total file ≤ index → first_of (aux_leave file) (symbol_entries file) ≡ first_of (aux_leave file) (map (symbol_entry file) (starts_from file index)) → first_of (aux_leave file) (symbol_entries file) ≡ None
unfolding first_of
none_left file index le first = first ∙ rw (starts_from-end file index le) refl

-- ---- a step of the walk that looks for one

leaving_said : (file : List ℕ) (count index aux : ℕ) (answer : Bool) → count ≡ record_total file → aux ≡ aux_total_of file index → answer ≡ ltb count (index + 1 + aux) → answer ≡ aux_leave file (symbol_entry file index)
leaving_said file count index aux answer counts auxes said = said ∙ rw (counts, auxes) refl

pub leaving_found : (file : List ℕ) (count index aux : ℕ) (answer : Bool) → count ≡ record_total file → index < count → aux ≡ aux_total_of file index → answer ≡ ltb count (index + 1 + aux) → answer ≡ true → first_of (aux_leave file) (symbol_entries file) ≡ first_of (aux_leave file) (map (symbol_entry file) (starts_from file index)) → first_of (aux_leave file) (symbol_entries file) ≡ Some index
leaving_found file count index aux answer counts lt auxes said here same =
    symbol_found (aux_leave file) (first_of (aux_leave file) (symbol_entries file)) (map (symbol_entry file) (starts_from file index)) (map (symbol_entry file) (starts_from file (index + 1 + aux_total_of file index))) index (symbol_at file index) answer same (ap (map (symbol_entry file)) (starts_from-step file index (omega arith))) (leaving_said file count index aux answer counts auxes said) here

pub leaving_passed : (file : List ℕ) (count index next aux : ℕ) (answer : Bool) → count ≡ record_total file → index < count → aux ≡ aux_total_of file index → answer ≡ ltb count (index + 1 + aux) → answer ≡ false → (index + 1 + aux < count → next ≡ index + 1 + aux) → (count ≤ index + 1 + aux → next ≡ count) → first_of (aux_leave file) (symbol_entries file) ≡ first_of (aux_leave file) (map (symbol_entry file) (starts_from file index)) → first_of (aux_leave file) (symbol_entries file) ≡ first_of (aux_leave file) (map (symbol_entry file) (starts_from file next))
leaving_passed file count index next aux answer counts lt auxes said passes there beyond same =
    symbol_more (aux_leave file) (first_of (aux_leave file) (symbol_entries file)) (map (symbol_entry file) (starts_from file index)) (map (symbol_entry file) (starts_from file next)) index (symbol_at file index) answer same (entries_step file index next aux (symbol_at file index) (omega arith) refl auxes (λ less. there (omega (arith, less))) (λ more. beyond (omega (arith, more)) ∙ counts)) (leaving_said file count index aux answer counts auxes said) passes
