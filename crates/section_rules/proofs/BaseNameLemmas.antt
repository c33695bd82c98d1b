-- A name whose base name is a text begins with it.
use Rattle.std.proofs.Common.{◌≡◌, ℕ, suc, ◌+◌, Bool, true, false, List, [], ◌∷◌, ◌++◌, nat_eq, refl, sym, ap, ◌∙◌, arith}
use Rattle.std.specs.Prelude.{codes}
use Rattle.std.specs.List.{before_first, position_or_len}
use Rattle.std.proofs.lemmas.Bool.{false≢true, eqb-true, eq-eqb, and_parts}
use Rattle.std.proofs.lemmas.Slice.Eq.{bytes_eq-Decides}
use Rattle.link_base.specs.NameText.{same_name, begins, begins_import, behind_import, with_import}
use Rattle.link_base.specs.SectionName.{base_name, is_cut}
use Rattle.section_rules.specs.PlacedSection.{is_debug_section}
use Rattle.link_base.proofs.SectionNameLemmas.{text_made, base_behind}

before_more : (test : ℕ → Bool) (x : ℕ) (text : List ℕ) → test x ≡ false → before_first test (x ∷ text) ≡ x ∷ before_first test text
before_more test x text other =
    let next : 1 + position_or_len test text ≡ suc (position_or_len test text) = omega arith in
    rw (other, next) refl

before_none : (test : ℕ → Bool) (x : ℕ) (text : List ℕ) → test x ≡ true → before_first test (x ∷ text) ≡ []
before_none test x text cut = rw cut refl

-- a name whose base name is a text begins with it
base_begins : (name text : List ℕ) → same_name (base_name name) text ≡ true → begins name text ≡ true
base_begins name [] e = refl
base_begins [] (t ∷ text) e = absurd cc
base_begins (x ∷ name) (t ∷ text) e = go (is_cut x) refl (base_begins name text)
  where
    go : (b : Bool) → is_cut x ≡ b → (same_name (base_name name) text ≡ true → begins name text ≡ true) → begins (x ∷ name) (t ∷ text) ≡ true
    go true cut rest = absurd (let h = ap (λ (base : List ℕ). same_name base (t ∷ text)) (sym (before_none is_cut x name cut)) ∙ e in cc)
    go false other rest =
        let h = ap (λ (base : List ℕ). same_name base (t ∷ text)) (sym (before_more is_cut x name other)) ∙ e in
        let both = and_parts (nat_eq x t) (same_name (base_name name) text) h in
        let same : x ≡ t = eqb-true x t both.0 in
        rw (eq-eqb t x (sym same), rest both.1) refl

pub not_begun : (name text : List ℕ) → begins name text ≡ false → same_name (base_name name) text ≡ false
not_begun name text none = go (same_name (base_name name) text) refl
  where
    go : (b : Bool) → same_name (base_name name) text ≡ b → b ≡ false
    go false e = refl
    go true e = absurd (false≢true (sym none ∙ base_begins name text e))

-- the base name of the name of an import begins as that
import_base : (name : List ℕ) → begins_import name ≡ true → begins_import (base_name name) ≡ true
import_base name is =
    let parts : name ≡ with_import true (behind_import name) = text_made name ∙ ap (λ (b : Bool). with_import b (behind_import name)) is in
    ap (λ (n : List ℕ). begins_import (base_name n)) parts ∙ ap begins_import (base_behind true (behind_import name))

pub not_import : (name text : List ℕ) → begins_import name ≡ true → begins_import text ≡ false → same_name (base_name name) text ≡ false
not_import name text is other = go (same_name (base_name name) text) refl
  where
    go : (b : Bool) → same_name (base_name name) text ≡ b → b ≡ false
    go false e = refl
    go true e =
        let same : base_name name ≡ text = (bytes_eq-Decides (base_name name) text).0 e in
        absurd (false≢true (sym other ∙ ap begins_import (sym same) ∙ import_base name is))

pub not_cut : (name text rest : List ℕ) (b : Bool) → begins_import name ≡ false → rest ≡ behind_import name → b ≡ begins rest text → b ≡ false → same_name (base_name name) text ≡ false
not_cut name text rest b other is begun none =
    let whole : behind_import name ≡ name = rw other refl in
    not_begun name text (ap (λ (n : List ℕ). begins n text) (sym (is ∙ whole)) ∙ sym begun ∙ none)

-- ---- what stands before the first byte that passes a test

-- where it begins with a text, the whole does
begins_before : (test : ℕ → Bool) (name text : List ℕ) → begins (before_first test name) text ≡ true → begins name text ≡ true
begins_before test name [] e = refl
begins_before test [] (t ∷ text) e = absurd cc
begins_before test (x ∷ name) (t ∷ text) e = go (test x) refl (begins_before test name text)
  where
    go : (b : Bool) → test x ≡ b → (begins (before_first test name) text ≡ true → begins name text ≡ true) → begins (x ∷ name) (t ∷ text) ≡ true
    go true cut rest = absurd (let h = ap (λ (part : List ℕ). begins part (t ∷ text)) (sym (before_none test x name cut)) ∙ e in cc)
    go false other rest =
        let h = ap (λ (part : List ℕ). begins part (t ∷ text)) (sym (before_more test x name other)) ∙ e in
        let both = and_parts (nat_eq t x) (begins (before_first test name) text) h in
        rw (both.0, rest both.1) refl

pub not_before : (test : ℕ → Bool) (name text : List ℕ) → begins name text ≡ false → begins (before_first test name) text ≡ false
not_before test name text none = go (begins (before_first test name) text) refl
  where
    go : (b : Bool) → begins (before_first test name) text ≡ b → b ≡ false
    go false e = refl
    go true e = absurd (false≢true (sym none ∙ begins_before test name text e))

-- ---- names of tables for debuggers

pub begins_front : (name front back : List ℕ) → begins name (front ++ back) ≡ true → begins name front ≡ true
begins_front name [] back e = refl
begins_front [] (t ∷ front) back e = absurd cc
begins_front (x ∷ name) (t ∷ front) back e =
    let both = and_parts (nat_eq t x) (begins name (front ++ back)) e in
    rw (both.0, begins_front name front back both.1) refl

no_part : (name : List ℕ) → begins name (codes ".debug") ≡ false → begins (base_name name) (codes ".debug_") ≡ false
no_part name none = go (begins (base_name name) (codes ".debug_")) refl
  where
    go : (b : Bool) → begins (base_name name) (codes ".debug_") ≡ b → b ≡ false
    go false e = refl
    go true e = absurd (false≢true (sym none ∙ begins_front name (codes ".debug") (codes "_") (begins_before is_cut name (codes ".debug_") e)))

pub not_debug : (name : List ℕ) → begins name (codes ".debug") ≡ false → is_debug_section name ≡ false
not_debug name none = rw (not_begun name (codes ".debug") none, no_part name none) refl

-- ---- a name that begins otherwise than a text

pub not_front : (name front back : List ℕ) → begins name front ≡ false → begins name (front ++ back) ≡ false
not_front name front back none = go (begins name (front ++ back)) refl
  where
    go : (b : Bool) → begins name (front ++ back) ≡ b → b ≡ false
    go false e = refl
    go true e = absurd (false≢true (sym none ∙ begins_front name front back e))

pub not_same : (name text : List ℕ) → begins name text ≡ false → begins text text ≡ true → same_name name text ≡ false
not_same name text none own = go (same_name name text) refl
  where
    go : (b : Bool) → same_name name text ≡ b → b ≡ false
    go false e = refl
    go true e =
        let same : name ≡ text = (bytes_eq-Decides name text).0 e in
        absurd (false≢true (sym none ∙ ap (λ (n : List ℕ). begins n text) same ∙ own))
