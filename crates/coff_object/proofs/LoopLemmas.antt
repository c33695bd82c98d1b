-- The least section, or the first symbol, that fails: steps of a loop.
use Rattle.std.proofs.Common.{◌≡◌, ℕ, ◌+◌, ◌-◌, ◌<◌, ◌≤◌, Bool, true, false, cond, List, [], ◌∷◌, Option, Some, None, refl, sym, ap, ◌∙◌, arith}
use Rattle.std.specs.Prelude.{option_map}
use Rattle.link_base.specs.Bytes.{first_below}
use Rattle.link_base.proofs.CallerLemmas.{first_below-more, first_below-found, first_below-none, first_below-all_fail}
use Rattle.coff_records.specs.ObjectHeader.{section_total}
use Rattle.coff_records.specs.SymbolRecord.{SymbolView}
use Rattle.coff_records.specs.ObjectFile.{section_at, SymbolEntry}
use Rattle.coff_object.specs.ObjectFaults.{of_section, first_section, first_of}

-- ---- sections

-- none is below the first
pub section_start : (file : List ℕ) (fails : List ℕ → Bool) → first_below 0 (of_section file fails) ≡ None
unfolding first_below
section_start file fails = refl

pub section_more : (file header : List ℕ) (fails : List ℕ → Bool) (index : ℕ) (answer : Bool) → first_below index (of_section file fails) ≡ None → header ≡ section_at file (index + 1) → answer ≡ fails header → answer ≡ false → first_below (index + 1) (of_section file fails) ≡ None
section_more file header fails index answer none is said passes =
    first_below-more index (of_section file fails) none (ap fails (sym is) ∙ sym said ∙ passes)

pub section_found : (file header : List ℕ) (fails : List ℕ → Bool) (index : ℕ) (answer : Bool) → index < section_total file → first_below index (of_section file fails) ≡ None → header ≡ section_at file (index + 1) → answer ≡ fails header → answer ≡ true → first_section file fails ≡ Some (index + 1)
unfolding first_section
section_found file header fails index answer lt none is said here =
    ap (option_map (λ (i : ℕ). i + 1)) (first_below-found index (section_total file) (of_section file fails) lt none (ap fails (sym is) ∙ sym said ∙ here))

pub section_none : (file : List ℕ) (fails : List ℕ → Bool) (index : ℕ) → section_total file ≡ index → first_below index (of_section file fails) ≡ None → first_section file fails ≡ None
unfolding first_section
section_none file fails index same none =
    ap (λ (k : ℕ). option_map (λ (i : ℕ). i + 1) (first_below k (of_section file fails))) same ∙ ap (option_map (λ (i : ℕ). i + 1)) none

mapped_none : (place : Option ℕ) → option_map (λ (i : ℕ). i + 1) place ≡ None → place ≡ None
mapped_none None e = refl
mapped_none (Some i) e = absurd cc

-- no section fails: each passes
pub section_passes : (file : List ℕ) (fails : List ℕ → Bool) (section : ℕ) → 1 ≤ section → section ≤ section_total file → first_section file fails ≡ None → fails (section_at file section) ≡ false
unfolding first_section
section_passes file fails section first last none =
    let place : section - 1 + 1 ≡ section = omega arith in
    ap (λ (i : ℕ). fails (section_at file i)) (sym place)
    ∙ first_below-none (section_total file) (of_section file fails) (mapped_none _ none) (section - 1) (omega arith)

-- what none fails, none fails that is failed by less
pub section_weaker : (file : List ℕ) (fails more : List ℕ → Bool) → ((header : List ℕ) → more header ≡ false → fails header ≡ false) → first_section file more ≡ None → first_section file fails ≡ None
section_weaker file fails more weaker none =
    section_none file fails (section_total file) refl
    (first_below-all_fail (section_total file) (of_section file fails) (λ index lt. weaker (section_at file (index + 1)) (section_passes file more (index + 1) (omega arith) (omega arith) none)))

-- ---- symbols

-- the first of those that are left fails, and is the first of all
pub symbol_found : (fails : SymbolEntry → Bool) (all : Option ℕ) (before after : List SymbolEntry) (index : ℕ) (symbol : SymbolView) (answer : Bool) → all ≡ first_of fails before → before ≡ (index, symbol) ∷ after → answer ≡ fails (index, symbol) → answer ≡ true → all ≡ Some index
unfolding first_of
symbol_found fails all before after index symbol answer same is said here = same ∙ rw is (rw (sym said ∙ here) refl)

-- it passes: the first that fails is among the others
pub symbol_more : (fails : SymbolEntry → Bool) (all : Option ℕ) (before after : List SymbolEntry) (index : ℕ) (symbol : SymbolView) (answer : Bool) → all ≡ first_of fails before → before ≡ (index, symbol) ∷ after → answer ≡ fails (index, symbol) → answer ≡ false → all ≡ first_of fails after
unfolding first_of
symbol_more fails all before after index symbol answer same is said passes = same ∙ rw is (rw (sym said ∙ passes) refl)

pub symbol_none : (fails : SymbolEntry → Bool) (all : Option ℕ) (before : List SymbolEntry) → all ≡ first_of fails before → before ≡ [] → all ≡ None
unfolding first_of
symbol_none fails all before same is = same ∙ rw is refl

-- none of those that are left fails: the first passes, and none of the others fails
pub symbol_passes : (fails : SymbolEntry → Bool) (before after : List SymbolEntry) (entry : SymbolEntry) → before ≡ entry ∷ after → first_of fails before ≡ None → (fails entry ≡ false) × (first_of fails after ≡ None)
unfolding first_of
symbol_passes fails before after entry is none = split (fails entry) refl (sym (rw is refl) ∙ none)
  where
    split : (b : Bool) → fails entry ≡ b → cond b (Some entry.0) (first_of fails after) ≡ None → (fails entry ≡ false) × (first_of fails after ≡ None)
    split true e h = absurd cc
    split false e h = (e, h)

-- what none fails, none fails that is failed by less
pub first_of-weaker : (fails more : SymbolEntry → Bool) (entries : List SymbolEntry) → ((entry : SymbolEntry) → more entry ≡ false → fails entry ≡ false) → first_of more entries ≡ None → first_of fails entries ≡ None
unfolding first_of
first_of-weaker fails more [] weaker none = refl
first_of-weaker fails more (entry ∷ rest) weaker none =
    let both = symbol_passes more (entry ∷ rest) rest entry refl none in
    rw (weaker entry both.0) (first_of-weaker fails more rest weaker both.1)
