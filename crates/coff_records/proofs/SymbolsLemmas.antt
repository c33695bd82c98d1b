-- Which records start a symbol: the steps of a walk, and what a walk of a list of symbols keeps.
use Rattle.std.proofs.Common.{◌≡◌, ℕ, zero, suc, ◌+◌, ◌-◌, ◌<◌, ◌≤◌, true, cond, ltb, List, [], ◌∷◌, ◌++◌, length, map, eqb, append_assoc, refl, sym, ap, ◌∙◌, ◌⊎◌, inl, inr, lt-ltb, le-ltb, arith}
use Rattle.std.proofs.Math.Bool.{or-true}
use Rattle.std.specs.List.{list_any}
use Rattle.std.proofs.lemmas.Bool.{cases_lt, eq-eqb}
use Rattle.coff_records.specs.ObjectHeader.{record_total}
use Rattle.coff_records.specs.StringTable.{string_table}
use Rattle.coff_records.specs.SymbolRecord.{SymbolView}
use Rattle.coff_records.specs.ObjectFile.{symbol_at, aux_total_of, starts_within, starts_from, symbols_of, starts_symbol, SymbolEntry, symbol_entry, symbol_entries}

-- ---- the steps of a walk

-- any number of steps that reaches the count finds the same
starts_enough : (file : List ℕ) (n m index : ℕ) → record_total file ≤ index + n → record_total file ≤ index + m → starts_within file n index ≡ starts_within file m index
unfolding starts_within
starts_enough file zero zero index enough other = refl
starts_enough file zero (suc m) index enough other = rw (le-ltb index (record_total file) (omega arith)) refl
starts_enough file (suc n) zero index enough other = rw (le-ltb index (record_total file) (omega arith)) refl
starts_enough file (suc n) (suc m) index enough other =
    ap (λ (rest : List ℕ). cond (ltb index (record_total file)) (index ∷ rest) [])
    (starts_enough file n m (index + 1 + aux_total_of file index) (omega arith) (omega arith))

-- no symbol starts beyond the count
pub starts_from-end : (file : List ℕ) (index : ℕ) → record_total file ≤ index → starts_from file index ≡ []
unfolding starts_within
starts_from-end file index le = let none : record_total file - index ≡ 0 = omega arith in rw none refl

-- a symbol, and those after its auxiliary records
pub starts_from-step : (file : List ℕ) (index : ℕ) → index < record_total file → starts_from file index ≡ index ∷ starts_from file (index + 1 + aux_total_of file index)
unfolding starts_within
starts_from-step file index lt =
    let more : record_total file - index ≡ suc (record_total file - index - 1) = omega arith in
    let next = index + 1 + aux_total_of file index in
    ap (λ (n : ℕ). starts_within file n index) more
    ∙ rw (lt-ltb index (record_total file) lt) (ap (λ (rest : List ℕ). index ∷ rest) (starts_enough file (record_total file - index - 1) (record_total file - next) next (omega arith) (omega arith)))

-- ---- a step of the iterator

pub entries_end : (file : List ℕ) (index : ℕ) → record_total file ≤ index → map (symbol_entry file) (starts_from file index) ≡ []
entries_end file index le = ap (map (symbol_entry file)) (starts_from-end file index le)

-- the walk goes on at the record after a symbol and its auxiliary records, or at the end
pub entries_step : (file : List ℕ) (index next aux : ℕ) (symbol : SymbolView) → index < record_total file → symbol ≡ symbol_at file index → aux ≡ aux_total_of file index → (index + 1 + aux < record_total file → next ≡ index + 1 + aux) → (record_total file ≤ index + 1 + aux → next ≡ record_total file) → map (symbol_entry file) (starts_from file index) ≡ (index, symbol) ∷ map (symbol_entry file) (starts_from file next)
entries_step file index next aux symbol lt is auxes there beyond =
    ap (map (symbol_entry file)) (starts_from-step file index lt)
    ∙ ap (λ (view : SymbolView). (index, view) ∷ map (symbol_entry file) (starts_from file (index + 1 + aux_total_of file index))) (sym is)
    ∙ ap (λ (rest : List ℕ). (index, symbol) ∷ map (symbol_entry file) rest) (same_rest (cases_lt (index + 1 + aux) (record_total file)))
  where
    same_rest : (index + 1 + aux < record_total file) ⊎ (record_total file ≤ index + 1 + aux) → starts_from file (index + 1 + aux_total_of file index) ≡ starts_from file next
    same_rest (inl lt) = ap (starts_from file) (omega (arith, there lt, auxes))
    same_rest (inr le) = starts_from-end file (index + 1 + aux_total_of file index) (omega (arith, auxes)) ∙ sym (starts_from-end file next (omega (arith, beyond le)))

-- and one less is left
pub one_less : {X : Type 0} (x : X) (before after : List X) → before ≡ x ∷ after → length after < length before
one_less x before after is = rw is (omega arith)

-- ---- a loop over the symbols of a file

-- what is left to a walk: the symbols that start from a record on, after those that it passed
pub record SymbolsLeft (file : List ℕ) (rest : List SymbolEntry) : Type 0 where
  pub passed : List ℕ
  pub next : ℕ
  pub all : symbols_of file ≡ passed ++ starts_from file next
  pub is : rest ≡ map (symbol_entry file) (starts_from file next)

-- the symbol that a step gives, and what is left after it
pub record SymbolStep (file : List ℕ) (index : ℕ) (symbol : SymbolView) (rest : List SymbolEntry) : Type 0 where
  pub is : symbol ≡ symbol_at file index
  pub below : index < record_total file
  pub starts : starts_symbol file index ≡ true
  pub left : SymbolsLeft file rest

-- at the start all are left
pub symbols_left-all : (file : List ℕ) (rest : List SymbolEntry) → rest ≡ symbol_entries file → SymbolsLeft file rest
symbols_left-all file rest is = record { passed = []; next = 0; all = refl; is = is }

any_here : (passed rest : List ℕ) (index : ℕ) → list_any (λ start. eqb start index) (passed ++ index ∷ rest) ≡ true
any_here [] rest index = rw (eq-eqb index index refl) refl
any_here (start ∷ passed) rest index = rw (any_here passed rest index) (or-true (eqb start index))

starts_here : (file passed rest : List ℕ) (index : ℕ) → symbols_of file ≡ passed ++ index ∷ rest → starts_symbol file index ≡ true
unfolding starts_symbol
starts_here file passed rest index is = ap (list_any (λ start. eqb start index)) is ∙ any_here passed rest index

first_same : {X : Type 0} (x y : X) (xs ys : List X) → x ∷ xs ≡ y ∷ ys → (x ≡ y) × (xs ≡ ys)
first_same x y xs ys e = (let same : x ≡ y = cc in same, let same : xs ≡ ys = cc in same)

-- a step of a loop, by what the iterator gave
pub symbols_left-step : (file : List ℕ) (before after : List SymbolEntry) (index : ℕ) (symbol : SymbolView) → SymbolsLeft file before → before ≡ (index, symbol) ∷ after → SymbolStep file index symbol after
symbols_left-step file before after index symbol left gave =
    elim (cases_lt left.next (record_total file)) [
      | inr le ↦ absurd (let none : (index, symbol) ∷ after ≡ [] = sym gave ∙ left.is ∙ entries_end file left.next le in cc)
      | inl lt ↦ go lt (first_same (index, symbol) (symbol_entry file left.next) after _ (sym gave ∙ left.is ∙ ap (map (symbol_entry file)) (starts_from-step file left.next lt)))
    ]
  where
    go : left.next < record_total file → ((index, symbol) ≡ symbol_entry file left.next) × (after ≡ map (symbol_entry file) (starts_from file (left.next + 1 + aux_total_of file left.next))) → SymbolStep file index symbol after
    go lt same =
        let place : index ≡ left.next = ap (λ (entry : SymbolEntry). entry.0) same.0 in
        let view : symbol ≡ symbol_at file left.next = ap (λ (entry : SymbolEntry). entry.1) same.0 in
        let all : symbols_of file ≡ left.passed ++ left.next ∷ starts_from file (left.next + 1 + aux_total_of file left.next) =
        left.all ∙ ap (λ (rest : List ℕ). left.passed ++ rest) (starts_from-step file left.next lt) in
        record {
          is = view ∙ ap (symbol_at file) (sym place);
          below = omega arith;
          starts = ap (starts_symbol file) place ∙ starts_here file left.passed _ left.next all;
          left = record {
            passed = left.passed ++ left.next ∷ [];
            next = left.next + 1 + aux_total_of file left.next;
            all = all ∙ sym (append_assoc left.passed (left.next ∷ []) _);
            is = same.1;
          };
        }

pub symbol_strings : (file : List ℕ) (index : ℕ) (symbol : SymbolView) → symbol ≡ symbol_at file index → symbol.strings ≡ string_table file
unfolding symbol_at
symbol_strings file index symbol is = ap (λ (view : SymbolView). view.strings) is
