-- One more symbol in a loop over the symbols of an object, and what a symbol is not that is something else.
use Rattle.std.proofs.Common.{◌≡◌, ℕ, ℤ, Bool, true, false, cond, ◌||◌, eqb, List, [], ◌∷◌, ◌++◌, map, filter, refl, sym, ap, ◌∙◌, append_assoc, append-nil}
use Rattle.std.specs.Int.Signed.{lt_z}
use Rattle.std.specs.Ordering.{int_eq}
use Rattle.std.proofs.lemmas.Bool.{eqb-true, and_parts, false≢true}
use Rattle.std.proofs.lemmas.Bool.Decides.{Decides-int_eq}
use Rattle.link_base.specs.PeFormat.{SYM_ABSOLUTE, SYM_UNDEFINED}
use Rattle.coff_records.specs.ObjectFile.{SymbolView, SymbolEntry, class_in, section_number_in}
use Rattle.module_view.specs.SymbolLists.{is_definition, is_weak, is_undefined, is_reference, is_common, asks_for_search}

-- ---- what is told of symbols, after one more

single : {X : Type 0} (test : SymbolEntry → Bool) (of : SymbolEntry → X) (entry : SymbolEntry) (rest : List SymbolEntry) → map of (filter test (entry ∷ rest)) ≡ cond (test entry) (of entry ∷ []) [] ++ map of (filter test rest)
single {X} test of entry rest = go (test entry)
  where
    go : (b : Bool) → map of (cond b (entry ∷ filter test rest) (filter test rest)) ≡ cond b (of entry ∷ []) [] ++ map of (filter test rest)
    go true = refl
    go false = refl

-- a list of what symbols are that pass a test
pub listed_more : {X : Type 0} (test : SymbolEntry → Bool) (of : SymbolEntry → X) (before after : List SymbolEntry) (entry : SymbolEntry) (was now whole : List X) → before ≡ entry ∷ after → was ++ map of (filter test before) ≡ whole → now ≡ was ++ cond (test entry) (of entry ∷ []) [] → now ++ map of (filter test after) ≡ whole
listed_more {X} test of before after entry was now whole is sum grown =
    ap (λ (xs : List X). xs ++ map of (filter test after)) grown
    ∙ append_assoc was (cond (test entry) (of entry ∷ []) []) (map of (filter test after))
    ∙ ap (λ (xs : List X). was ++ xs) (sym (single test of entry after) ∙ ap (λ (es : List SymbolEntry). map of (filter test es)) (sym is))
    ∙ sum

pub none_more : {X : Type 0} (xs more : List X) (b : Bool) → b ≡ false → xs ≡ xs ++ cond b more []
none_more xs more b e = rw e (sym (append-nil xs))

pub one_more : {X : Type 0} (xs now more : List X) (b : Bool) → b ≡ true → now ≡ xs ++ more → now ≡ xs ++ cond b more []
one_more xs now more b e grown = rw e grown

-- ---- what a symbol is not that is something else

no_weak : (symbol : SymbolView) → eqb (class_in symbol) 2 ≡ true → is_weak symbol ≡ false
no_weak symbol external = rw (eqb-true (class_in symbol) 2 external) refl

pub reference_by : (symbol : SymbolView) (undefined weak : Bool) → is_undefined symbol ≡ undefined → is_weak symbol ≡ weak → is_reference symbol ≡ (undefined || weak)
unfolding is_reference
reference_by symbol undefined weak first second = rw (first, second) refl

-- a definition stands in a section, or is absolute
apart : (number : ℤ) → (int_eq number SYM_ABSOLUTE || lt_z SYM_UNDEFINED number) ≡ true → int_eq number SYM_UNDEFINED ≡ false
apart number stands = go (int_eq number SYM_UNDEFINED) refl
  where
    go : (b : Bool) → int_eq number SYM_UNDEFINED ≡ b → b ≡ false
    go true is =
        absurd (false≢true (ap (λ (n : ℤ). int_eq n SYM_ABSOLUTE || lt_z SYM_UNDEFINED n) (sym ((Decides-int_eq number SYM_UNDEFINED).0 is)) ∙ stands))
    go false is = refl

pub record IsDefinitionAlone (symbol : SymbolView) : Type 0 where
  pub weak : is_weak symbol ≡ false
  pub reference : is_reference symbol ≡ false
  pub common : is_common symbol ≡ false

pub definition_alone : (symbol : SymbolView) → is_definition symbol ≡ true → IsDefinitionAlone symbol
unfolding is_definition is_undefined is_common
definition_alone symbol is =
    let parts = and_parts (eqb (class_in symbol) 2) _ is in
    let elsewhere = apart (section_number_in symbol) parts.1 in
    let weak = no_weak symbol parts.0 in
    record {
      weak = weak;
      reference = reference_by symbol false false (rw (parts.0, elsewhere) refl) weak;
      common = rw (parts.0, elsewhere) refl;
    }

pub undefined_no_weak : (symbol : SymbolView) → is_undefined symbol ≡ true → is_weak symbol ≡ false
unfolding is_undefined
undefined_no_weak symbol is = no_weak symbol (and_parts (eqb (class_in symbol) 2) _ is).0

pub undefined_no_common : (symbol : SymbolView) → is_undefined symbol ≡ true → is_common symbol ≡ false
unfolding is_undefined is_common
undefined_no_common symbol is =
    let parts = and_parts (eqb (class_in symbol) 2) _ is in
    let others = and_parts (int_eq (section_number_in symbol) SYM_UNDEFINED) _ parts.1 in
    rw (parts.0, others.0, others.1) refl

-- libraries are searched for one
pub undefined_asks : (bytes : List ℕ) (index : ℕ) (symbol : SymbolView) → is_undefined symbol ≡ true → asks_for_search bytes (index, symbol) ≡ true
unfolding asks_for_search
undefined_asks bytes index symbol is = rw (undefined_no_weak symbol is) refl

pub common_no_weak : (symbol : SymbolView) → is_common symbol ≡ true → is_weak symbol ≡ false
unfolding is_common
common_no_weak symbol is = no_weak symbol (and_parts (eqb (class_in symbol) 2) _ is).0
