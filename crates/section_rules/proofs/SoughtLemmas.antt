-- What the first bytes of a section's name tell.
use Rattle.std.proofs.Common.{◌≡◌, ℕ, zero, suc, ◌<◌, ◌≤◌, Bool, false, ◌&&◌, ◌||◌, List, [], ◌∷◌, length, take, nat_eq, refl, sym, ap, ◌∙◌, arith}
use Rattle.std.specs.Prelude.{codes}
use Rattle.std.specs.List.{before_first}
use lib.Pointwise.{pointwise}
use Rattle.std.proofs.lemmas.List.{take-take}
use Rattle.link_base.specs.NameText.{same_name, begins}
use Rattle.link_base.specs.SectionName.{base_name, is_cut}
use Rattle.coff_records.proofs.CallerLemmas.{before_first-take}
use Rattle.section_rules.specs.SoughtNames.{is_linker_section, is_resources, BeginsOtherwise}
use Rattle.section_rules.proofs.BaseNameLemmas.{not_begun, not_before, not_front, not_same}

-- ---- the first bytes of a name

-- they tell whether the name is a shorter text
same_by_start : (n : ℕ) (name text : List ℕ) → length text < n → pointwise nat_eq (take n name) text ≡ pointwise nat_eq name text
same_by_start zero name text lt = absurd (omega arith)
same_by_start (suc n) [] text lt = refl
same_by_start (suc n) (byte ∷ name) [] lt = refl
same_by_start (suc n) (byte ∷ name) (other ∷ text) lt =
    ap (λ (rest : Bool). nat_eq byte other && rest) (same_by_start n name text (omega arith))

-- seven tell whether the linker makes the section itself
pub is_linker_section-take : (n : ℕ) (name : List ℕ) → 7 ≤ n → is_linker_section (take n name) ≡ is_linker_section name
unfolding is_linker_section
is_linker_section-take n name le =
    let import_part = ap (pointwise nat_eq (codes ".idata$")) (take-take 7 n name le) in
    let shorter = same_by_start n (base_name name) (codes ".reloc") (omega arith) in
    let relocations = ap (λ (base : List ℕ). pointwise nat_eq base (codes ".reloc")) (before_first-take is_cut n name) ∙ shorter in
    ap (λ (b : Bool). b || pointwise nat_eq (base_name (take n name)) (codes ".reloc")) import_part
    ∙ ap (λ (b : Bool). begins name (codes ".idata$") || b) relocations

-- ---- a name that begins otherwise than those that are looked for

by_start : (name text : List ℕ) → length text ≡ 3 → begins (take 3 name) text ≡ false → begins name text ≡ false
by_start name text three none =
    sym (ap (pointwise nat_eq text) (ap (λ (n : ℕ). take n (take 3 name)) three ∙ take-take 3 3 name (omega arith) ∙ ap (λ (n : ℕ). take n name) (sym three))) ∙ none

started : (name text : List ℕ) → length text ≡ 3 → begins name text ≡ false → begins (take 3 name) text ≡ false
started name text three none =
    ap (pointwise nat_eq text) (ap (λ (n : ℕ). take n (take 3 name)) three ∙ take-take 3 3 name (omega arith) ∙ ap (λ (n : ℕ). take n name) (sym three)) ∙ none

-- a whole name tells no more than its first bytes
pub otherwise_start : (name : List ℕ) → BeginsOtherwise name → BeginsOtherwise (take 3 name)
otherwise_start name whole = record {
  directives = started name (codes ".dr") refl whole.directives;
  imports = started name (codes ".id") refl whole.imports;
  relocations = started name (codes ".re") refl whole.relocations;
  resources = started name (codes ".rs") refl whole.resources;
}

-- what stands before the first byte that passes a test begins otherwise where the whole does
pub otherwise_before : (test : ℕ → Bool) (name : List ℕ) → BeginsOtherwise name → BeginsOtherwise (before_first test name)
otherwise_before test name whole = record {
  directives = not_before test name (codes ".dr") whole.directives;
  imports = not_before test name (codes ".id") whole.imports;
  relocations = not_before test name (codes ".re") whole.relocations;
  resources = not_before test name (codes ".rs") whole.resources;
}

pub no_linker : (name : List ℕ) → BeginsOtherwise (take 3 name) → is_linker_section name ≡ false
unfolding is_linker_section
no_linker name start =
    rw (
      not_front name (codes ".id") (codes "ata$") (by_start name (codes ".id") refl start.imports),
      not_begun name (codes ".reloc") (not_front name (codes ".re") (codes "loc") (by_start name (codes ".re") refl start.relocations)),
    )
    refl

pub no_resources : (name : List ℕ) → BeginsOtherwise (take 3 name) → is_resources name ≡ false
no_resources name start =
    not_begun name (codes ".rsrc") (not_front name (codes ".rs") (codes "rc") (by_start name (codes ".rs") refl start.resources))

pub no_directives : (name : List ℕ) → BeginsOtherwise (take 3 name) → same_name name (codes ".drectve") ≡ false
no_directives name start =
    not_same name (codes ".drectve") (not_front name (codes ".dr") (codes "ectve") (by_start name (codes ".dr") refl start.directives)) refl
