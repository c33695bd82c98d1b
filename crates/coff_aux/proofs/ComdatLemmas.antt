-- The first two symbols of a section, and what its COMDAT record says.
use Rattle.std.proofs.Common.{◌≡◌, ℕ, zero, suc, ◌+◌, ◌-◌, ◌<◌, ◌≤◌, inl, inr, ℤ, pos, negsuc, Bool, true, false, cond, ◌||◌, eqb, List, [], ◌∷◌, length, map, filter, replicate, get_or, Option, Some, None, refl, sym, ap, ◌∙◌, arith}
use Rattle.std.proofs.Math.Numerals.{suc-eq-add-one}
use Rattle.std.proofs.Math.Bool.{or-true}
use Rattle.std.proofs.lemmas.Option.{same_Some}
use Rattle.std.specs.Prelude.{IfSome}
use Rattle.std.specs.List.{list_any, range_with_len}
use Rattle.std.specs.Ordering.{int_eq}
use Rattle.std.proofs.lemmas.Bool.{cases_lt, false≢true}
use Rattle.std.proofs.lemmas.Bool.Decides.{eqb_tells, leb_tells, Decides-int_eq}
use Rattle.std.proofs.lemmas.List.{ext_get_or, length-map, get_or-map, length-set, get_or-set_same, get_or-set_other}
use Rattle.std.proofs.lemmas.List.Folds.{list_any_at}
use Rattle.std.proofs.lemmas.List.FromFn.{get_or-map-range_with_len, length-map-range_with_len, get_or-range_with_len, length-range_with_len}
use Rattle.coff_records.specs.ObjectFile.{section_total, starts_symbol, SymbolEntry, section_number_in, section_of_number, symbol_entries}
use Rattle.coff_aux.specs.declared.comdat.NotedSymbols.{NotedSymbols}
use Rattle.coff_aux.specs.Comdats.{SectionSymbols, stands_in, first_two, section_symbols_of, is_section_number, is_comdat, has_comdat, comdat_record_of}
use Rattle.coff_aux.specs.Steps.{symbols_noted, all_section_symbols, no_symbols, with_symbol, noted_symbols, noted_at}
use Rattle.coff_aux.proofs.StartLemmas.{starts_among}

-- ---- the symbols of a section start at records

first_is : (entry : SymbolEntry) (rest : List SymbolEntry) → (first_two (entry ∷ rest)).first ≡ Some entry.0
first_is entry [] = refl
first_is entry (other ∷ rest) = refl

some_same : (i j : ℕ) → Some i ≡ Some j → eqb i j ≡ true
some_same i j is = elim (eqb_tells i j) [
  | inl same ↦ same.0
  | inr other ↦ absurd (other.1 (same_Some i j is))
]

first_among : (test : SymbolEntry → Bool) (entries : List SymbolEntry) (j : ℕ) → (first_two (filter test entries)).first ≡ Some j → list_any (λ e. eqb e.0 j) entries ≡ true
first_among test [] j is = absurd cc
first_among test (entry ∷ rest) j is = go (test entry) (first_among test rest j) is
  where
    go : (b : Bool) → ((first_two (filter test rest)).first ≡ Some j → list_any (λ e. eqb e.0 j) rest ≡ true) → (first_two (cond b (entry ∷ filter test rest) (filter test rest))).first ≡ Some j → (eqb entry.0 j || list_any (λ e. eqb e.0 j) rest) ≡ true
    go true later is = ap (λ (b : Bool). b || list_any (λ (e : SymbolEntry). eqb e.0 j) rest) (some_same entry.0 j (sym (first_is entry (filter test rest)) ∙ is))
    go false later is = ap (λ (b : Bool). eqb entry.0 j || b) (later is) ∙ or-true (eqb entry.0 j)

pub section_symbol_starts : (bytes : List ℕ) (section : ℕ) (first : Option ℕ) → first ≡ (section_symbols_of bytes section).first → IfSome first (λ j. starts_symbol bytes j ≡ true)
unfolding section_symbols_of
section_symbol_starts bytes section None is = tt
section_symbol_starts bytes section (Some j) is =
    sym (starts_among bytes j) ∙ first_among (stands_in section) (symbol_entries bytes) j (sym is)

-- ---- one more symbol in a loop over all

-- the first two of those noted and of some symbols after them
abbrev pub then_second : SectionSymbols → List SymbolEntry → Option ℕ → SectionSymbols
then_second noted entries None = record { first = noted.first; second = (first_two entries).first }
then_second noted entries (Some second) = noted

abbrev pub then_all : SectionSymbols → List SymbolEntry → SectionSymbols
then_all noted [] = noted
then_all noted (entry ∷ rest) = first_two (entry ∷ rest)

abbrev pub then_first : SectionSymbols → List SymbolEntry → Option ℕ → SectionSymbols
then_first noted entries None = then_all noted entries
then_first noted entries (Some first) = then_second noted entries noted.second

abbrev pub then_two : SectionSymbols → List SymbolEntry → SectionSymbols
then_two noted entries = then_first noted entries noted.first

two_more : (noted : SectionSymbols) (entry : SymbolEntry) (rest : List SymbolEntry) → then_two (with_symbol noted entry.0) rest ≡ then_two noted (entry ∷ rest)
unfolding with_symbol
two_more noted entry rest = go noted.first refl
  where
    go_second : (first : ℕ) → noted.first ≡ Some first → (second : Option ℕ) → noted.second ≡ second → then_two (with_symbol noted entry.0) rest ≡ then_two noted (entry ∷ rest)
    go_second first has None is = rw (has, is) (ap (λ (o : Option ℕ). record { first = Some first; second = o }) (sym (first_is entry rest)))
    go_second first has (Some second) is = rw (has, is) refl

    go : (first : Option ℕ) → noted.first ≡ first → then_two (with_symbol noted entry.0) rest ≡ then_two noted (entry ∷ rest)
    go None is = rw is (none rest)
      where
        none : (rest : List SymbolEntry) → then_two (record { first = Some entry.0; second = None }) rest ≡ first_two (entry ∷ rest)
        none [] = refl
        none (other ∷ rest) = ap (λ (o : Option ℕ). record { first = Some entry.0; second = o }) (first_is other rest)
    go (Some first) is = go_second first is noted.second refl

-- what is noted of a section, after one more symbol of some section
abbrev pub noted_then : List SectionSymbols → ℕ → List SymbolEntry → SectionSymbols
noted_then symbols k entries = then_two (get_or symbols k no_symbols) (filter (stands_in (k + 1)) entries)

same_number : (a b : ℤ) → a ≡ b → int_eq a b ≡ true
same_number a b same = (Decides-int_eq a b).1 same

other_number : (a b : ℤ) → (section_of_number a ≡ section_of_number b → ⊥) → int_eq a b ≡ false
other_number a b apart = go (int_eq a b) refl
  where
    go : (t : Bool) → int_eq a b ≡ t → t ≡ false
    go true e = absurd (apart (ap section_of_number ((Decides-int_eq a b).0 e)))
    go false e = refl

with_one : (k : ℕ) (symbols : List SectionSymbols) (entry : SymbolEntry) (rest : List SymbolEntry) → k < length symbols → then_two (get_or (noted_at symbols (suc k) entry.0) k no_symbols) rest ≡ then_two (get_or symbols k no_symbols) (entry ∷ rest)
with_one k symbols entry rest lt =
    ap (λ (noted : SectionSymbols). then_two noted rest) (get_or-set_same symbols k (with_symbol (get_or symbols k no_symbols) entry.0) no_symbols lt)
    ∙ two_more (get_or symbols k no_symbols) entry rest

without_one : (m k : ℕ) (symbols : List SectionSymbols) (index : ℕ) (rest : List SymbolEntry) → (m ≡ k → ⊥) → then_two (get_or (noted_at symbols (suc m) index) k no_symbols) rest ≡ then_two (get_or symbols k no_symbols) rest
without_one m k symbols index rest apart =
    ap (λ (noted : SectionSymbols). then_two noted rest) (get_or-set_other symbols m k (with_symbol (get_or symbols m no_symbols) index) no_symbols (λ same. apart (sym same)))

by_number : (number : ℤ) (k : ℕ) (symbols : List SectionSymbols) (entry : SymbolEntry) (rest : List SymbolEntry) → k < length symbols → then_two (get_or (noted_symbols symbols number entry.0) k no_symbols) rest ≡ then_two (get_or symbols k no_symbols) (cond (int_eq number (pos (suc k))) (entry ∷ rest) rest)
unfolding noted_symbols
by_number (pos zero) k symbols entry rest lt = rw (other_number (pos zero) (pos (suc k)) (λ e. absurd (omega (arith, e)))) refl
by_number (pos (suc m)) k symbols entry rest lt = elim (eqb_tells m k) [
  | inl same ↦
      rw (same_number (pos (suc m)) (pos (suc k)) (ap (λ (i : ℕ). pos (suc i)) same.1))
      (ap (λ (i : ℕ). then_two (get_or (noted_at symbols (suc i) entry.0) k no_symbols) rest) same.1 ∙ with_one k symbols entry rest lt)
  | inr other ↦
      rw (other_number (pos (suc m)) (pos (suc k)) (λ e. other.1 (omega (arith, e)))) (without_one m k symbols entry.0 rest other.1)
]
by_number (negsuc n) k symbols entry rest lt = refl

pub noted_more : (symbols : List SectionSymbols) (before after : List SymbolEntry) (entry : SymbolEntry) (k : ℕ) (whole : SectionSymbols) → before ≡ entry ∷ after → k < length symbols → noted_then symbols k before ≡ whole → noted_then (noted_symbols symbols (section_number_in entry.1) entry.0) k after ≡ whole
unfolding stands_in
noted_more symbols before after entry k whole is lt was =
    by_number (section_number_in entry.1) k symbols entry (filter (stands_in (k + 1)) after) lt
    ∙ ap (λ (section : ℕ). then_two (get_or symbols k no_symbols) (cond (int_eq (section_number_in entry.1) (pos section)) (entry ∷ filter (stands_in (k + 1)) after) (filter (stands_in (k + 1)) after))) (suc-eq-add-one k)
    ∙ ap (λ (es : List SymbolEntry). noted_then symbols k es) (sym is)
    ∙ was

pub noted_first : (symbols : List SectionSymbols) (n k : ℕ) (entries : List SymbolEntry) → symbols ≡ replicate n no_symbols → noted_then symbols k entries ≡ first_two (filter (stands_in (k + 1)) entries)
noted_first symbols n k entries is =
    ap (λ (noted : SectionSymbols). then_two noted (filter (stands_in (k + 1)) entries)) (ap (λ (xs : List SectionSymbols). get_or xs k no_symbols) is ∙ none n k)
    ∙ alone (filter (stands_in (k + 1)) entries)
  where
    alone : (es : List SymbolEntry) → then_two no_symbols es ≡ first_two es
    alone [] = refl
    alone (entry ∷ rest) = refl

    none : (n k : ℕ) → get_or (replicate n no_symbols) k no_symbols ≡ no_symbols
    none zero k = refl
    none (suc n) zero = refl
    none (suc n) (suc k) = none n k

-- after all symbols
then_none : (noted : SectionSymbols) → then_two noted [] ≡ noted
then_none noted = go noted.first refl
  where
    go_second : (first second : Option ℕ) → noted.first ≡ first → noted.second ≡ second → then_second noted [] second ≡ noted
    go_second first None has is = ap (λ (o : Option ℕ). record { first = noted.first; second = o }) (sym is)
    go_second first (Some second) has is = refl

    go : (first : Option ℕ) → noted.first ≡ first → then_first noted [] first ≡ noted
    go None is = refl
    go (Some first) is = go_second (Some first) noted.second is refl

pub length-noted : (symbols : List SectionSymbols) (number : ℤ) (index : ℕ) → length (noted_symbols symbols number index) ≡ length symbols
unfolding noted_symbols
length-noted symbols (pos zero) index = refl
length-noted symbols (pos (suc k)) index = length-set symbols k (with_symbol (get_or symbols k no_symbols) index)
length-noted symbols (negsuc n) index = refl

noted_all : (symbols : List SectionSymbols) (bytes : List ℕ) (k : ℕ) (entries : List SymbolEntry) → entries ≡ [] → noted_then symbols k entries ≡ section_symbols_of bytes (k + 1) → get_or symbols k no_symbols ≡ section_symbols_of bytes (k + 1)
noted_all symbols bytes k entries none was =
    sym (then_none (get_or symbols k no_symbols)) ∙ ap (noted_then symbols k) (sym none) ∙ was

pub all_noted : (symbols : List SectionSymbols) (bytes : List ℕ) (entries : List SymbolEntry) → length symbols ≡ section_total bytes → entries ≡ [] → ((k : ℕ) → k < length symbols → noted_then symbols k entries ≡ section_symbols_of bytes (k + 1)) → symbols ≡ all_section_symbols bytes
all_noted symbols bytes entries count none each =
    ext_get_or no_symbols symbols (all_section_symbols bytes) (count ∙ sym (length-map-range_with_len (section_symbols_of bytes) 1 (section_total bytes)))
    (λ k lt. noted_all symbols bytes k entries none (each k lt) ∙ sym (get_or-map-range_with_len (section_symbols_of bytes) 1 (section_total bytes) k (k + 1) no_symbols (omega (arith, count)) (omega arith)))

-- what is noted of a section
pub noted_count : (bytes : List ℕ) (symbols : List NotedSymbols) → map symbols_noted symbols ≡ all_section_symbols bytes → length symbols ≡ section_total bytes
noted_count bytes symbols noted =
    sym (length-map symbols symbols_noted)
    ∙ ap (λ (xs : List SectionSymbols). length xs) noted
    ∙ length-map-range_with_len (section_symbols_of bytes) 1 (section_total bytes)

pub noted_there : (bytes : List ℕ) (symbols : List NotedSymbols) → map symbols_noted symbols ≡ all_section_symbols bytes → (k : ℕ) (d : NotedSymbols) → k < section_total bytes → symbols_noted (get_or symbols k d) ≡ section_symbols_of bytes (k + 1)
noted_there bytes symbols noted k d within =
    sym (get_or-map symbols_noted symbols k d no_symbols (omega (arith, noted_count bytes symbols noted)))
    ∙ ap (λ (xs : List SectionSymbols). get_or xs k no_symbols) noted
    ∙ get_or-map-range_with_len (section_symbols_of bytes) 1 (section_total bytes) k (k + 1) no_symbols within (omega arith)

-- ---- the numbers of sections

pub section_within : (count section : ℕ) → is_section_number count section ≡ true → (1 ≤ section) × (section ≤ count)
section_within count section e = elim (leb_tells 1 section) [
  | inl low ↦ (elim (leb_tells section count) [
    | inl high ↦ (low.1, high.1)
    | inr above ↦ absurd (false≢true (sym (rw (low.0, above.0) refl) ∙ e))
  ])
  | inr none ↦ absurd (false≢true (sym (rw none.0 refl) ∙ e))
]

-- ---- sections that are no COMDAT

pub no_comdat : (bytes : List ℕ) (section : ℕ) → has_comdat bytes ≡ false → 1 ≤ section → section ≤ section_total bytes → is_comdat bytes section ≡ false
no_comdat bytes section none low high = go (is_comdat bytes section) refl
  where
    go : (b : Bool) → is_comdat bytes section ≡ b → b ≡ false
    go true is = absurd (false≢true (sym none ∙ list_any_at (is_comdat bytes) (range_with_len 1 (section_total bytes)) (section - 1) 0 (omega (arith, length-range_with_len 1 (section_total bytes))) (ap (is_comdat bytes) (get_or-range_with_len 1 (section_total bytes) (section - 1) 0 (omega arith) ∙ omega arith) ∙ is)))
    go false is = refl

none_said : (bytes : List ℕ) (section : ℕ) → is_comdat bytes section ≡ false → comdat_record_of bytes section ≡ None
unfolding comdat_record_of
none_said bytes section is = rw is refl

-- none says anything
pub no_records : (bytes : List ℕ) → has_comdat bytes ≡ false → (k : ℕ) → k < section_total bytes → comdat_record_of bytes (k + 1) ≡ None
no_records bytes none k lt = none_said bytes (k + 1) (no_comdat bytes (k + 1) none (omega arith) (omega arith))

-- ---- some section is one

pub some_section : (bytes : List ℕ) → has_comdat bytes ≡ true → 0 < section_total bytes
some_section bytes some = elim (cases_lt 0 (section_total bytes)) [
  | inl lt ↦ lt
  | inr none ↦ absurd (let h = sym (ap (λ (n : ℕ). list_any (is_comdat bytes) (range_with_len 1 n)) (zero_total none)) ∙ some in cc)
]
  where
    zero_total : section_total bytes ≤ 0 → section_total bytes ≡ 0
    zero_total le = omega (arith, le)
