-- Definitions stand in the order of their symbols, and each external symbol of a section is one of them.
use Rattle.std.proofs.Common.{◌≡◌, inl, inr, ℕ, zero, suc, ◌+◌, ◌<◌, ◌≤◌, pos, Bool, true, false, cond, ltb, eqb, List, [], ◌∷◌, length, map, filter, get_or, Some, Result, Ok, Err, refl, sym, ap, ◌∙◌, arith}
use Rattle.std.specs.Result.{MatchResult}
use Rattle.std.specs.List.{All, AllPairs}
use Rattle.std.specs.List.Sorted.{IsSearchInRange, IsBinarySearchResult, IsNonDecreasingBy}
use Rattle.std.specs.Ordering.{nat_cmp, ordering_index}
use Rattle.std.specs.Int.Signed.{lt_z}
use Rattle.std.specs.Cmp.Derive.{both_true}
use Rattle.std.proofs.lemmas.Bool.{cases_lt, eqb-true, eq-eqb, lt-ltb, and_parts, or_right, ne_eqb, false≢true}
use Rattle.std.proofs.lemmas.Bool.Decides.{nat_tests, Decides-int_eq}
use Rattle.std.proofs.lemmas.Cmp.{ranked}
use Rattle.std.proofs.lemmas.Option.{same_Some}
use Rattle.std.proofs.lemmas.List.Elements.{All-nil, All-cons, All-head, All-tail, All-map, All-weaker}
use Rattle.std.proofs.lemmas.List.Kept.{AllPairs-cons, AllPairs-filter}
use Rattle.coff_records.specs.SymbolRecord.{name_in, class_in, section_number_in}
use Rattle.coff_records.specs.ObjectFile.{SymbolEntry, record_total, symbol_entry, symbol_entries, symbols_of, symbol_name_of, symbol_class_of, aux_total_of, starts_within}
use Rattle.coff_aux.specs.Comdats.{stands_in, first_two, section_symbols_of}
use Rattle.module_view.specs.declared.definition.Definition.{Definition}
use Rattle.module_view.specs.SymbolLists.{is_absolute, is_definition, defines, definition_of, definitions_of}
use Rattle.module_view.specs.Choices.{no_definition, AscendBySymbol, Defines}
use Rattle.module_view.proofs.CallerLemmas.{IsEntryOf, entries_are, all_filtered}

-- ---- a search among definitions in the order of their symbols

module _ (definitions : List Definition) (ascend : AscendBySymbol definitions) (symbol : ℕ) where
  comparisons_rise : IsNonDecreasingBy (λ d. ordering_index (nat_cmp d.symbol symbol)) definitions
  comparisons_rise i j d le within =
      let rise : (get_or definitions i d).symbol ≤ (get_or definitions j d).symbol = grind (arith, ascend i j d, λ (same : i ≡ j). ap (λ (k : ℕ). (get_or definitions k d).symbol) same) in
      grind (arith, nat_tests)

  -- it ends at the definition of the symbol, or there is none
  pub searched : (r : Result ℕ ℕ) → IsSearchInRange r (length definitions) → IsBinarySearchResult (λ d. nat_cmp d.symbol symbol) definitions r → MatchResult r (Defines definitions symbol) (λ _. All (λ d. d.symbol ≡ symbol → ⊥) definitions)
  searched (Ok k) inside equal = record { within = inside; symbol_is = ranked _ symbol _ (sym (equal no_definition)) }
  searched (Err at) inside parted = λ k d lt same. elim (cases_lt k at) [
    | inl before ↦
        let less : (get_or definitions k d).symbol < symbol = ranked _ symbol _ (sym ((parted comparisons_rise).0 k d (omega arith) before)) in
        absurd (omega (arith, less, same))
    | inr behind ↦
        let more : symbol < (get_or definitions k d).symbol = ranked _ symbol _ (sym ((parted comparisons_rise).1 k d behind lt)) in
        absurd (omega (arith, more, same))
  ]

-- no more definitions stand before one than records before its symbol
pub place_below : (definitions : List Definition) → AscendBySymbol definitions → (k : ℕ) (d : Definition) → k < length definitions → k ≤ (get_or definitions k d).symbol
place_below definitions ascend zero d lt = omega arith
place_below definitions ascend (suc k) d lt =
    omega (arith, place_below definitions ascend k d (omega arith), ascend k (suc k) d (omega arith) lt)

-- ---- the order of definitions

-- symbols start at a record or behind it
starts_behind : (bytes : List ℕ) (n from : ℕ) → All (λ i. from ≤ i) (starts_within bytes n from)
unfolding starts_within
starts_behind bytes zero from = All-nil (λ i. from ≤ i)
starts_behind bytes (suc n) from = go (ltb from (record_total bytes)) (starts_behind bytes n (from + 1 + aux_total_of bytes from))
  where
    later : List ℕ
    later = starts_within bytes n (from + 1 + aux_total_of bytes from)

    go : (b : Bool) → All (λ i. from + 1 + aux_total_of bytes from ≤ i) later → All (λ i. from ≤ i) (cond b (from ∷ later) [])
    go true behind =
        All-cons (λ i. from ≤ i) from later (omega arith)
        (All-weaker (λ i. from + 1 + aux_total_of bytes from ≤ i) (λ i. from ≤ i) (λ i le. omega (arith, le)) later behind)
    go false behind = All-nil (λ i. from ≤ i)

starts_ascend : (bytes : List ℕ) (n from : ℕ) → AllPairs (λ i j. i < j) (starts_within bytes n from)
unfolding starts_within
starts_ascend bytes zero from = λ i j d lt within. absurd (omega arith)
starts_ascend bytes (suc n) from = go (ltb from (record_total bytes)) (starts_ascend bytes n (from + 1 + aux_total_of bytes from))
  where
    later : List ℕ
    later = starts_within bytes n (from + 1 + aux_total_of bytes from)

    go : (b : Bool) → AllPairs (λ i j. i < j) later → AllPairs (λ i j. i < j) (cond b (from ∷ later) [])
    go true ascend =
        AllPairs-cons (λ i j. i < j) from later
        (All-weaker (λ i. from + 1 + aux_total_of bytes from ≤ i) (λ i. from < i) (λ i le. omega (arith, le)) later (starts_behind bytes n (from + 1 + aux_total_of bytes from)))
        ascend
    go false ascend = λ i j d lt within. absurd (omega arith)

pairs_map : {X Y : Type 0} (R : Y → Y → Type 0) (f : X → Y) (xs : List X) → AllPairs (λ a b. R (f a) (f b)) xs → AllPairs R (map f xs)
pairs_map R f [] pairs = λ i j d lt within. absurd (omega arith)
pairs_map {X} {Y} R f (x ∷ xs) pairs =
    AllPairs-cons R (f x) (map f xs)
    (All-map (R (f x)) f xs (λ k d within. pairs zero (suc k) d (omega arith) (omega arith)))
    (pairs_map R f xs (λ i j d lt within. pairs (suc i) (suc j) d (omega arith) (omega arith)))

pub definitions_ascend : (bytes : List ℕ) → AscendBySymbol (definitions_of bytes)
unfolding definitions_of
definitions_ascend bytes =
    pairs_map (λ (d later : Definition). d.symbol < later.symbol) definition_of (filter defines (symbol_entries bytes))
    (AllPairs-filter (λ (a b : SymbolEntry). a.0 < b.0) defines (symbol_entries bytes)
    (pairs_map (λ (a b : SymbolEntry). a.0 < b.0) (symbol_entry bytes) (symbols_of bytes) (starts_ascend bytes _ 0)))

-- ---- what a definition is

pub record IsExternal (bytes : List ℕ) (d : Definition) : Type 0 where
  pub class_is : symbol_class_of bytes d.symbol ≡ 2
  pub name_is : d.name ≡ symbol_name_of bytes d.symbol

external : (bytes : List ℕ) (entry : SymbolEntry) → IsEntryOf bytes entry → defines entry ≡ true → IsExternal bytes (definition_of entry)
unfolding is_definition
external bytes entry is passes = record {
  class_is = ap class_in (sym is.is) ∙ eqb-true (class_in entry.1) 2 (and_parts (eqb (class_in entry.1) 2) _ passes).0;
  name_is = ap name_in is.is;
}

pub definitions_are : (bytes : List ℕ) → All (IsExternal bytes) (definitions_of bytes)
unfolding definitions_of
definitions_are bytes =
    All-map (IsExternal bytes) definition_of (filter defines (symbol_entries bytes))
    (all_filtered (IsEntryOf bytes) (λ (e : SymbolEntry). IsExternal bytes (definition_of e)) defines (symbol_entries bytes) (entries_are bytes) (external bytes))

-- ---- the second symbol of a section

-- what all of a list are that pass a test
of_passing : {X : Type 0} (P : X → Type 0) (test : X → Bool) (xs : List X) → All P (filter test xs) → All (λ x. test x ≡ true → P x) xs
of_passing P test [] all = All-nil (λ x. test x ≡ true → P x)
of_passing {X} P test (x ∷ xs) all = go (test x) refl (of_passing P test xs) all
  where
    go : (b : Bool) → test x ≡ b → (All P (filter test xs) → All (λ y. test y ≡ true → P y) xs) → All P (cond b (x ∷ filter test xs) (filter test xs)) → All (λ y. test y ≡ true → P y) (x ∷ xs)
    go true is later passing =
        All-cons (λ y. test y ≡ true → P y) x xs (λ _. All-head P x (filter test xs) passing)
        (later (All-tail P x (filter test xs) passing))
    go false is later passing =
        All-cons (λ y. test y ≡ true → P y) x xs (λ e. absurd (false≢true (sym is ∙ e))) (later passing)

of_mapped : {X Y : Type 0} (P : Y → Type 0) (f : X → Y) (xs : List X) → All P (map f xs) → All (λ x. P (f x)) xs
of_mapped P f [] all = All-nil (λ x. P (f x))
of_mapped P f (x ∷ xs) all =
    All-cons (λ y. P (f y)) x xs (All-head P (f x) (map f xs) all) (of_mapped P f xs (All-tail P (f x) (map f xs) all))

-- an entry of a symbol
record IsAmong (P : SymbolEntry → Type 0) (j : ℕ) : Type 0 where
  entry : SymbolEntry
  symbol_is : entry.0 ≡ j
  holds : P entry

-- the second of some entries is one of them
second_of : (xs : List SymbolEntry) (P : SymbolEntry → Type 0) (j : ℕ) → All P xs → (first_two xs).second ≡ Some j → IsAmong P j
second_of [] P j all is = absurd cc
second_of (one ∷ []) P j all is = absurd cc
second_of (one ∷ other ∷ rest) P j all is = record {
  entry = other;
  symbol_is = same_Some other.0 j is;
  holds = all 1 other (omega arith);
}

-- an external symbol of a section is a definition
in_section : (section : ℕ) (entry : SymbolEntry) → 1 ≤ section → stands_in section entry ≡ true → class_in entry.1 ≡ 2 → defines entry ≡ true
unfolding stands_in is_definition
in_section section entry first stands class =
    both_true (eq-eqb (class_in entry.1) 2 class)
    (or_right (is_absolute entry.1) _
    (ap (lt_z (pos 0)) ((Decides-int_eq (section_number_in entry.1) (pos section)).0 stands) ∙ lt-ltb 0 section (omega arith)))

-- an entry of a section that is not the definition of a symbol
record IsOther (bytes : List ℕ) (section j : ℕ) (entry : SymbolEntry) : Type 0 where
  stands : stands_in section entry ≡ true
  of : IsEntryOf bytes entry
  apart : defines entry ≡ true → entry.0 ≡ j → ⊥

not_external : (bytes : List ℕ) (section j : ℕ) → 1 ≤ section → IsAmong (IsOther bytes section j) j → symbol_class_of bytes j ≡ 2 → ⊥
not_external bytes section j first second class =
    let entry = second.entry in
    let other = second.holds in
    let class_there : class_in entry.1 ≡ 2 = ap class_in other.of.is ∙ ap (symbol_class_of bytes) second.symbol_is ∙ class in
    other.apart (in_section section entry first other.stands class_there) second.symbol_is

-- the second symbol of a section is not external, where it is no definition
pub second_internal : (bytes : List ℕ) (section j : ℕ) → 1 ≤ section → (section_symbols_of bytes section).second ≡ Some j → All (λ d. d.symbol ≡ j → ⊥) (definitions_of bytes) → eqb (symbol_class_of bytes j) 2 ≡ false
unfolding section_symbols_of definitions_of
second_internal bytes section j first is absent =
    ne_eqb (symbol_class_of bytes j) 2
    (not_external bytes section j first (second_of (filter (stands_in section) entries) (IsOther bytes section j) j others is))
  where
    entries : List SymbolEntry
    entries = symbol_entries bytes

    apart : All (λ entry. defines entry ≡ true → entry.0 ≡ j → ⊥) entries
    apart =
        of_passing (λ (entry : SymbolEntry). entry.0 ≡ j → ⊥) defines entries
        (of_mapped (λ (d : Definition). d.symbol ≡ j → ⊥) definition_of (filter defines entries) absent)

    others : All (IsOther bytes section j) (filter (stands_in section) entries)
    others =
        all_filtered (λ (entry : SymbolEntry). IsEntryOf bytes entry × (defines entry ≡ true → entry.0 ≡ j → ⊥)) (IsOther bytes section j) (stands_in section) entries
        (λ k d lt. (entries_are bytes k d lt, apart k d lt))
        (λ entry both stands. record { stands = stands; of = both.0; apart = both.1 })
