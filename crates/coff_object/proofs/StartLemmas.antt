-- Which records start a symbol: record 0, and the record after each symbol and its auxiliary records, below the count; and no
-- other. They are the least that hold these rules.
use Rattle.std.proofs.Common.{◌≡◌, ℕ, zero, suc, ◌+◌, ◌-◌, ◌<◌, ◌≤◌, Bool, true, false, cond, eqb, ltb, List, [], ◌∷◌, map, None, refl, sym, ap, ◌∙◌, inl, inr, ◌⊎◌, lt-ltb, arith, subst}
use Rattle.std.specs.List.{list_any}
use Rattle.std.proofs.lemmas.Bool.{false≢true, eqb-true, eq-eqb, ltb-true, ltb-false, or_cases, or_left, or_right}
use Rattle.coff_records.specs.ObjectHeader.{record_total}
use Rattle.coff_records.specs.ObjectFile.{aux_total_of, starts_within, symbols_of, starts_symbol, SymbolEntry, symbol_entry, symbol_entries}
use Rattle.coff_object.specs.ObjectFaults.{aux_leave, first_of, object_fault}
use Rattle.coff_object.proofs.LoopLemmas.{symbol_passes}
use Rattle.coff_object.proofs.WellFormedLemmas.{no_fault, aux_hold}

-- ---- lists of starts

-- an index is in a list
abbrev is_in : ℕ → List ℕ → Bool
is_in index starts = list_any (λ start. eqb start index) starts

within-step : (file : List ℕ) (n from : ℕ) → from < record_total file → starts_within file (suc n) from ≡ from ∷ starts_within file n (from + 1 + aux_total_of file from)
unfolding starts_within
within-step file n from lt = rw (lt-ltb from (record_total file) lt) refl

within-end : (file : List ℕ) (n from index : ℕ) → is_in index (starts_within file (suc n) from) ≡ true → from < record_total file
unfolding starts_within
within-end file n from index e = go (ltb from (record_total file)) refl e
  where
    go : (b : Bool) → ltb from (record_total file) ≡ b → is_in index (cond b (from ∷ starts_within file n (from + 1 + aux_total_of file from)) []) ≡ true → from < record_total file
    go true is h = ltb-true from (record_total file) is
    go false is h = absurd (false≢true h)

nothing_in : (file : List ℕ) (from index : ℕ) → is_in index (starts_within file zero from) ≡ true → ⊥
unfolding starts_within
nothing_in file from index e = false≢true e

-- an index in the list of starts from a record on is that record, or is in the list of those after it
start_or_later : (file : List ℕ) (n from index : ℕ) → is_in index (starts_within file (suc n) from) ≡ true → (from ≡ index) ⊎ (is_in index (starts_within file n (from + 1 + aux_total_of file from)) ≡ true)
start_or_later file n from index e =
    elim (or_cases (eqb from index) _ (sym (ap (is_in index) (within-step file n from (within-end file n from index e))) ∙ e)) [
      | inl same ↦ inl (eqb-true from index same)
      | inr later ↦ inr later
    ]

first_in : (file : List ℕ) (n from : ℕ) → from < record_total file → record_total file ≤ from + n → is_in from (starts_within file n from) ≡ true
first_in file zero from lt enough = absurd (omega arith)
first_in file (suc n) from lt enough =
    ap (is_in from) (within-step file n from lt) ∙ or_left (eqb from from) _ (eq-eqb from from refl)

later_in : (file : List ℕ) (n from index : ℕ) → from < record_total file → is_in index (starts_within file n (from + 1 + aux_total_of file from)) ≡ true → is_in index (starts_within file (suc n) from) ≡ true
later_in file n from index lt e = ap (is_in index) (within-step file n from lt) ∙ or_right (eqb from index) _ e

next_in : (file : List ℕ) (n from index next : ℕ) → record_total file ≤ from + n → is_in index (starts_within file n from) ≡ true → next ≡ index + 1 + aux_total_of file index → next < record_total file → is_in next (starts_within file n from) ≡ true
next_in file zero from index next enough e is lt = absurd (nothing_in file from index e)
next_in file (suc n) from index next enough e is lt =
    elim (start_or_later file n from index e) [
      | inl same ↦
          let place : next ≡ from + 1 + aux_total_of file from = is ∙ ap (λ (j : ℕ). j + 1 + aux_total_of file j) (sym same) in
          later_in file n from next (within-end file n from index e)
          (ap (λ (k : ℕ). is_in next (starts_within file n k)) (sym place) ∙ first_in file n next lt (omega (arith, place)))
      | inr later ↦
          later_in file n from next (within-end file n from index e) (next_in file n (from + 1 + aux_total_of file from) index next (omega arith) later is lt)
    ]

-- ---- the rule, both ways

-- a symbol starts at record 0, where there is one
pub starts_first : (file : List ℕ) → 0 < record_total file → starts_symbol file 0 ≡ true
unfolding starts_symbol
starts_first file lt = first_in file (record_total file - 0) 0 lt (omega arith)

-- and after each symbol and its auxiliary records, where there is one more
pub starts_next : (file : List ℕ) (index next : ℕ) → starts_symbol file index ≡ true → next ≡ index + 1 + aux_total_of file index → next < record_total file → starts_symbol file next ≡ true
unfolding starts_symbol
starts_next file index next e is lt = next_in file (record_total file - 0) 0 index next (omega arith) e is lt

walk : (file : List ℕ) (P : ℕ → Type 0) → ((index next : ℕ) → starts_symbol file index ≡ true → P index → next ≡ index + 1 + aux_total_of file index → next < record_total file → P next) → (n from index : ℕ) → (from < record_total file → (starts_symbol file from ≡ true) × P from) → is_in index (starts_within file n from) ≡ true → P index
walk file P step zero from index here e = absurd (nothing_in file from index e)
walk file P step (suc n) from index here e =
    let now = here (within-end file n from index e) in
    elim (start_or_later file n from index e) [
      | inl same ↦ subst P same now.1
      | inr later ↦
          walk file P step n (from + 1 + aux_total_of file from) index
          (λ lt. (starts_next file from (from + 1 + aux_total_of file from) now.0 refl lt, step from (from + 1 + aux_total_of file from) now.0 now.1 refl lt))
          later
    ]

-- and nowhere else: what holds of record 0, and of the record after each symbol of which it holds, holds of every symbol
pub starts_only : (file : List ℕ) (P : ℕ → Type 0) → (0 < record_total file → P 0) → ((index next : ℕ) → starts_symbol file index ≡ true → P index → next ≡ index + 1 + aux_total_of file index → next < record_total file → P next) → (index : ℕ) → starts_symbol file index ≡ true → P index
unfolding starts_symbol
starts_only file P first step index e =
    walk file P step (record_total file - 0) 0 index (λ some. (starts_first file some, first some)) e

-- ---- what holds of every symbol

pub starts_below : (file : List ℕ) (index : ℕ) → starts_symbol file index ≡ true → index < record_total file
starts_below file index e =
    starts_only file (λ j. j < record_total file) (λ some. some) (λ j next starts below is lt. lt) index e

passes_in : (file : List ℕ) (fails : SymbolEntry → Bool) (index : ℕ) (starts : List ℕ) → first_of fails (map (symbol_entry file) starts) ≡ None → is_in index starts ≡ true → fails (symbol_entry file index) ≡ false
passes_in file fails index [] none e = absurd (false≢true e)
passes_in file fails index (start ∷ rest) none e =
    let both = symbol_passes fails (map (symbol_entry file) (start ∷ rest)) (map (symbol_entry file) rest) (symbol_entry file start) refl none in
    elim (or_cases (eqb start index) (is_in index rest) e) [
      | inl same ↦ ap (λ (j : ℕ). fails (symbol_entry file j)) (sym (eqb-true start index same)) ∙ both.0
      | inr later ↦ passes_in file fails index rest both.1 later
    ]

-- no symbol fails: each passes
pub each_passes : (file : List ℕ) (fails : SymbolEntry → Bool) (index : ℕ) → first_of fails (symbol_entries file) ≡ None → starts_symbol file index ≡ true → fails (symbol_entry file index) ≡ false
unfolding starts_symbol
each_passes file fails index none e = passes_in file fails index (symbols_of file) none e

-- a symbol's auxiliary records are in the table
pub symbol_room : (file : List ℕ) (index : ℕ) → object_fault file ≡ None → starts_symbol file index ≡ true → index + 1 + aux_total_of file index ≤ record_total file
symbol_room file index e starts =
    ltb-false (record_total file) (index + 1 + aux_total_of file index) (each_passes file (aux_leave file) index (aux_hold file (no_fault file e).symbols) starts)
