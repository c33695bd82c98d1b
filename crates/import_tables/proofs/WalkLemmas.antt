-- The walk over the import directory, a descriptor and an entry at a time.
use Rattle.std.proofs.Common.{◌≡◌, ℕ, zero, suc, ◌+◌, ◌-◌, ◌%◌, ◌^◌, ◌<◌, ◌≤◌, Bool, true, false, cond, eqb, leb, Option, List, [], ◌++◌, length, refl, sym, ap, ◌∙◌, inl, inr, add-one, arith, subst}
use Rattle.std.proofs.lemmas.Bool.{cases_Bool, leb-true, le-leb, lt-leb, eq-eqb, ne_eqb}
use Rattle.std.proofs.lemmas.List.{append_assoc, append-nil}
use Rattle.link_base.specs.Bytes.{u64_at}
use Rattle.short_import.specs.declared.import.ImportBy.{ImportBy}
use Rattle.short_import.specs.declared.import.ImportBy.TheVariants as by
use Rattle.import_tables.specs.declared.found.ImportFound.{ImportFound}
use Rattle.import_tables.specs.declared.found.TableError.{TableError}
use Rattle.import_tables.specs.declared.found.TableError.TheVariants.{Range, Memory}
use Rattle.import_tables.specs.declared.lookup.Entry.{Entry}
use Rattle.import_tables.specs.declared.lookup.Entry.TheVariants.{End, Import, Leaves}
use Rattle.import_tables.specs.Constants.{ORDINAL_FLAG64}
use Rattle.import_tables.specs.ImportDirectory.{Walk, Imports, LeavesAt, then_walk, with_entry, told_rva, hint_and_name, named_entry, entry_at, entries_from, entries_of, is_last, descriptor_imports, descriptors_from, imports_of, IsRefusal}

-- ---- the entries from a place on

abbrev pub rest_entries : List ℕ → List ℕ → ℕ → ℕ → Walk
rest_entries memory dll at slot = entries_from (length memory - at + 1) memory dll at slot

-- each entry takes some bytes, so that more than are left are enough
enough_entries : (m n : ℕ) (memory dll : List ℕ) (at slot : ℕ) → length memory - at < m → length memory - at < n → entries_from m memory dll at slot ≡ entries_from n memory dll at slot
unfolding entries_from
enough_entries zero n memory dll at slot a b = absurd (omega arith)
enough_entries (suc m) zero memory dll at slot a b = absurd (omega arith)
enough_entries (suc m) (suc n) memory dll at slot a b =
    elim (cases_Bool (leb (at + 8) (length memory))) [
      | inl there ↦
          let fits = leb-true (at + 8) (length memory) there in
          let next = enough_entries m n memory dll (at + 8) (slot + 8) (omega (arith, fits)) (omega (arith, fits)) in
          rw there (ap (with_entry dll slot (entry_at memory at slot)) next)
      | inr out ↦ rw out refl
    ]

pub more_entries : (most : ℕ) (memory dll : List ℕ) (at slot : ℕ) → length memory < most → entries_from most memory dll at slot ≡ entries_of memory dll at slot
unfolding entries_of
more_entries most memory dll at slot lt = enough_entries most (length memory + 1) memory dll at slot (omega arith) (omega arith)

pub entries_start : (memory dll : List ℕ) (lookup slots : ℕ) → rest_entries memory dll lookup slots ≡ entries_of memory dll lookup slots
unfolding entries_of
entries_start memory dll lookup slots =
    enough_entries (length memory - lookup + 1) (length memory + 1) memory dll lookup slots (omega arith) (omega arith)

pub entries_end : (memory dll : List ℕ) (at slot : ℕ) → length memory < at + 8 → rest_entries memory dll at slot ≡ LeavesAt at
unfolding entries_from
entries_end memory dll at slot out = rw (add-one (length memory - at), lt-leb _ _ out) refl

pub entries_step : (memory dll : List ℕ) (at slot : ℕ) → at + 8 ≤ length memory → rest_entries memory dll at slot ≡ with_entry dll slot (entry_at memory at slot) (rest_entries memory dll (at + 8) (slot + 8))
unfolding entries_from
entries_step memory dll at slot there =
    let next = enough_entries (length memory - at) (length memory - (at + 8) + 1) memory dll (at + 8) (slot + 8) (omega arith) (omega arith) in
    rw (add-one (length memory - at), le-leb _ _ there) (ap (with_entry dll slot (entry_at memory at slot)) next)

-- ---- the descriptors from a place on

abbrev pub rest_descriptors : List ℕ → ℕ → Walk
rest_descriptors memory at = descriptors_from (length memory - at + 1) memory at

enough_descriptors : (m n : ℕ) (memory : List ℕ) (at : ℕ) → length memory - at < m → length memory - at < n → descriptors_from m memory at ≡ descriptors_from n memory at
unfolding descriptors_from
enough_descriptors zero n memory at a b = absurd (omega arith)
enough_descriptors (suc m) zero memory at a b = absurd (omega arith)
enough_descriptors (suc m) (suc n) memory at a b =
    elim (cases_Bool (leb (at + 20) (length memory))) [
      | inl there ↦ elim (cases_Bool (is_last memory at)) [
        | inl last ↦ rw (there, last) refl
        | inr more ↦
            let fits = leb-true (at + 20) (length memory) there in
            let next = enough_descriptors m n memory (at + 20) (omega (arith, fits)) (omega (arith, fits)) in
            rw (there, more) (ap (then_walk (descriptor_imports memory at)) next)
      ]
      | inr out ↦ rw out refl
    ]

pub more_descriptors : (most : ℕ) (memory : List ℕ) (at : ℕ) → length memory < most → descriptors_from most memory at ≡ descriptors_from (length memory + 1) memory at
more_descriptors most memory at lt = enough_descriptors most (length memory + 1) memory at (omega arith) (omega arith)

pub descriptors_start : (memory : List ℕ) (rva : ℕ) → (rva ≡ 0 → ⊥) → rest_descriptors memory rva ≡ imports_of memory rva
unfolding imports_of
descriptors_start memory rva some =
    rw (ne_eqb _ _ some) (enough_descriptors (length memory - rva + 1) (length memory + 1) memory rva (omega arith) (omega arith))

pub descriptors_end : (memory : List ℕ) (at : ℕ) → length memory < at + 20 → rest_descriptors memory at ≡ LeavesAt at
unfolding descriptors_from
descriptors_end memory at out = rw (add-one (length memory - at), lt-leb _ _ out) refl

pub descriptors_last : (memory : List ℕ) (at : ℕ) → at + 20 ≤ length memory → is_last memory at ≡ true → rest_descriptors memory at ≡ Imports []
unfolding descriptors_from
descriptors_last memory at there last = rw (add-one (length memory - at), le-leb _ _ there, last) refl

pub descriptors_step : (memory : List ℕ) (at : ℕ) → at + 20 ≤ length memory → is_last memory at ≡ false → rest_descriptors memory at ≡ then_walk (descriptor_imports memory at) (rest_descriptors memory (at + 20))
unfolding descriptors_from
descriptors_step memory at there more =
    let next = enough_descriptors (length memory - at) (length memory - (at + 20) + 1) memory (at + 20) (omega arith) (omega arith) in
    rw (add-one (length memory - at), le-leb _ _ there, more) (ap (then_walk (descriptor_imports memory at)) next)

-- ---- walks one behind the other

pub then_nothing : (found : List ImportFound) → then_walk (Imports found) (Imports []) ≡ Imports found
then_nothing found = ap Imports (append-nil found)

pub then_leaves : (found : List ImportFound) (walk : Walk) (rva : ℕ) → then_walk (Imports found) walk ≡ LeavesAt rva → walk ≡ LeavesAt rva
then_leaves found (Imports more) rva e = absurd cc
then_leaves found (LeavesAt other) rva e = e

pub then_joins : (found more : List ImportFound) (walk : Walk) → then_walk (Imports found) (then_walk (Imports more) walk) ≡ then_walk (Imports (found ++ more)) walk
then_joins found more (Imports last) = ap Imports (sym (append_assoc found more last))
then_joins found more (LeavesAt rva) = refl

-- ---- an entry that is read

stays : (number : ℕ) (at : ℕ) (found : Option ImportBy) (how : ImportBy) (slot len : ℕ) → cond (eqb number 0) End (cond (leb (slot + 8) len) (cond (leb ORDINAL_FLAG64 number) (Import (by.Ordinal (number % 2 ^ 16))) (named_entry at number found)) (Leaves (told_rva slot at))) ≡ Import how → slot + 8 ≤ len
stays number at found how slot len e =
    elim (cases_Bool (leb (slot + 8) len)) [
      | inl there ↦ leb-true (slot + 8) len there
      | inr out ↦ absurd (never (eqb number 0) (subst (λ (b : Bool). cond (eqb number 0) End (cond b (cond (leb ORDINAL_FLAG64 number) (Import (by.Ordinal (number % 2 ^ 16))) (named_entry at number found)) (Leaves (told_rva slot at))) ≡ Import how) out e))
    ]
  where
    never : (b : Bool) → cond b End (Leaves (told_rva slot at)) ≡ Import how → ⊥
    never true e = cc
    never false e = cc

-- the slot of an import is there
pub slot_there : (memory : List ℕ) (at slot : ℕ) (how : ImportBy) → entry_at memory at slot ≡ Import how → slot + 8 ≤ length memory
unfolding entry_at
slot_there memory at slot how e =
    stays (u64_at memory at) at (hint_and_name memory (u64_at memory at)) how slot (length memory) e

-- ---- an entry in the walk

pub entries_read : (found before : List ImportFound) (memory dll : List ℕ) (at slot : ℕ) (entry : Entry) (whole : Walk) → at + 8 ≤ length memory → entry ≡ entry_at memory at slot → then_walk (Imports found) (rest_entries memory dll at slot) ≡ then_walk (Imports before) whole → then_walk (Imports found) (with_entry dll slot entry (rest_entries memory dll (at + 8) (slot + 8))) ≡ then_walk (Imports before) whole
entries_read found before memory dll at slot entry whole there is same =
    ap (λ (read : Entry). then_walk (Imports found) (with_entry dll slot read (rest_entries memory dll (at + 8) (slot + 8)))) is
    ∙ ap (then_walk (Imports found)) (sym (entries_step memory dll at slot there))
    ∙ same

-- ---- a descriptor in the walk

pub imports_none : (memory : List ℕ) (rva : ℕ) (found : List ImportFound) → rva ≡ 0 → found ≡ [] → imports_of memory rva ≡ Imports found
unfolding imports_of
imports_none memory rva found none empty = rw (eq-eqb _ _ none, empty) refl

then_first : (walk : Walk) → then_walk (Imports []) walk ≡ walk
then_first (Imports found) = refl
then_first (LeavesAt rva) = refl

pub imports_start : (memory : List ℕ) (rva : ℕ) (found : List ImportFound) → (rva ≡ 0 → ⊥) → found ≡ [] → then_walk (Imports found) (rest_descriptors memory rva) ≡ imports_of memory rva
imports_start memory rva found some empty =
    ap (λ (first : List ImportFound). then_walk (Imports first) (rest_descriptors memory rva)) empty
    ∙ then_first (rest_descriptors memory rva)
    ∙ descriptors_start memory rva some

pub imports_last : (found : List ImportFound) (memory : List ℕ) (at : ℕ) → at + 20 ≤ length memory → is_last memory at ≡ true → then_walk (Imports found) (rest_descriptors memory at) ≡ Imports found
imports_last found memory at there last =
    ap (then_walk (Imports found)) (descriptors_last memory at there last) ∙ then_nothing found

pub imports_end : (found : List ImportFound) (memory : List ℕ) (at : ℕ) → length memory < at + 20 → then_walk (Imports found) (rest_descriptors memory at) ≡ LeavesAt at
imports_end found memory at out = ap (then_walk (Imports found)) (descriptors_end memory at out)

-- a walk that is refused is refused behind what was found before it and before what comes behind it
refused_within : (found : List ImportFound) (walk rest whole : Walk) (error : TableError) → then_walk (Imports found) (then_walk walk rest) ≡ whole → IsRefusal walk error → IsRefusal whole error
refused_within found walk rest whole (Range rva) same refused =
    sym same ∙ ap (λ (here : Walk). then_walk (Imports found) (then_walk here rest)) refused
refused_within found walk rest whole Memory same refused = tt

pub imports_refused : (found : List ImportFound) (memory : List ℕ) (at : ℕ) (whole : Walk) (error : TableError) → at + 20 ≤ length memory → is_last memory at ≡ false → then_walk (Imports found) (rest_descriptors memory at) ≡ whole → IsRefusal (descriptor_imports memory at) error → IsRefusal whole error
imports_refused found memory at whole error there more same refused =
    refused_within found (descriptor_imports memory at) (rest_descriptors memory (at + 20)) whole error (ap (then_walk (Imports found)) (sym (descriptors_step memory at there more)) ∙ same) refused

then_associates : (found : List ImportFound) (walk rest : Walk) → then_walk (Imports found) (then_walk walk rest) ≡ then_walk (then_walk (Imports found) walk) rest
then_associates found (Imports more) rest = then_joins found more rest
then_associates found (LeavesAt rva) rest = refl

pub imports_more : (found now : List ImportFound) (memory : List ℕ) (at : ℕ) (whole : Walk) → at + 20 ≤ length memory → is_last memory at ≡ false → then_walk (Imports found) (rest_descriptors memory at) ≡ whole → then_walk (Imports found) (descriptor_imports memory at) ≡ Imports now → then_walk (Imports now) (rest_descriptors memory (at + 20)) ≡ whole
imports_more found now memory at whole there more same read =
    ap (λ (here : Walk). then_walk here (rest_descriptors memory (at + 20))) (sym read)
    ∙ sym (then_associates found (descriptor_imports memory at) (rest_descriptors memory (at + 20)))
    ∙ ap (then_walk (Imports found)) (sym (descriptors_step memory at there more))
    ∙ same
