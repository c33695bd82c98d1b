-- What callers may cite of a module that opens: that its object is well formed, and where its definitions stand; and marks.
use Rattle.std.proofs.Common.{◌≡◌, ℕ, suc, ◌≤◌, ℤ, pos, negsuc, Bool, true, false, cond, ◌||◌, eqb, List, [], ◌∷◌, filter, Option, Some, None, refl, sym, ap, subst, ◌∙◌, arith}
use Rattle.std.specs.Prelude.{option_map}
use Rattle.std.specs.Option.{option_or}
use Rattle.std.specs.Cmp.Derive.{both_true}
use Rattle.std.specs.Int.Signed.{lt_z}
use Rattle.std.specs.List.{All, list_any}
use Rattle.std.proofs.lemmas.Bool.{eqb-true, eq-eqb, ltb-true, and_parts, or_right}
use Rattle.std.proofs.lemmas.List.Elements.{All-nil, All-cons, All-map, All-weaker}
use Rattle.link_base.specs.Refusals.{first_standing}
use Rattle.coff_records.specs.SymbolRecord.{SymbolView, value_in, class_in, section_number_in, section_of_number}
use Rattle.coff_records.specs.ObjectFile.{SymbolEntry, section_total, raw_size_of, symbol_at, symbol_entry, symbols_of, symbol_entries, starts_symbol}
use Rattle.coff_object.specs.ObjectFaults.{object_fault, is_in_section}
use Rattle.coff_object.specs.declared.error.ObjError.{ObjError}
use Rattle.coff_object.proofs.CallerLemmas.{symbol_section_inside, symbol_value_inside}
use Rattle.module_view.specs.declared.definition.Definition.{Definition}
use Rattle.module_view.specs.declared.definition.Place.{Place}
use Rattle.module_view.specs.declared.definition.Place.TheVariants as place
use Rattle.module_view.specs.declared.error.ModuleError.TheVariants as error
use Rattle.module_view.specs.SymbolLists.{is_absolute, is_definition, place_in_section, place_of, defines, definition_of, definitions_of}
use Rattle.link_base.proofs.RefusalLemmas.{or_none}
use Rattle.short_import.specs.declared.import.Import.{Import}
use Rattle.short_import.specs.declared.import.ImportKind.{ImportKind}
use Rattle.short_import.specs.declared.import.ImportKind.TheVariants as kind
use Rattle.module_view.specs.Module.{ModuleView}
use Rattle.module_view.specs.ImportModule.{entry_definition, symbol_definitions, import_definitions, definitions_with, module_definitions}
use Rattle.module_view.specs.Opening.{opening_error, form_error, object_error, content_error}
pub use Rattle.coff_aux.proofs.CallerLemmas.{unmarked}

-- ---- what does not stand

no_first : {A : Type 0} (first later : Option A) → option_or first later ≡ None → first ≡ None
no_first None later none = refl
no_first (Some x) later none = absurd cc

no_later : {A : Type 0} (first later : Option A) → option_or first later ≡ None → later ≡ None
no_later None later none = none
no_later (Some x) later none = absurd cc

no_fault : (fault : Option ObjError) → option_map error.Object fault ≡ None → fault ≡ None
no_fault None none = refl
no_fault (Some fault) none = absurd cc

-- ---- a module that opens

-- it shows nothing that is refused
pub opened_contents : (bytes : List ℕ) → opening_error bytes ≡ None → content_error bytes ≡ None
unfolding opening_error
opened_contents bytes opened =
    sym (or_none (content_error bytes))
    ∙ no_later (object_error bytes) (first_standing (content_error bytes ∷ []))
    (no_later (form_error bytes) (first_standing (object_error bytes ∷ content_error bytes ∷ [])) opened)

-- and is well formed
pub opened_sound : (bytes : List ℕ) → opening_error bytes ≡ None → object_fault bytes ≡ None
unfolding opening_error
opened_sound bytes opened =
    no_fault (object_fault bytes)
    (no_first (object_error bytes) (first_standing (content_error bytes ∷ []))
    (no_later (form_error bytes) (first_standing (object_error bytes ∷ content_error bytes ∷ [])) opened))

-- ---- where its definitions stand

-- the section is one of the object's, and the value is in it or at its end
pub record StandsIn (bytes : List ℕ) (section offset : ℕ) : Type 0 where
  pub first : 1 ≤ section
  pub last : section ≤ section_total bytes
  pub value : offset ≤ raw_size_of bytes section

abbrev pub IsPlaceIn : List ℕ → Place → Type 0
IsPlaceIn bytes (place.Section section value) = StandsIn bytes section value
IsPlaceIn bytes (place.Absolute value) = Unit {0}
IsPlaceIn bytes place.Slot = Unit {0}
IsPlaceIn bytes place.Thunk = Unit {0}

-- a number above 0 is that of a section
above : (number : ℤ) → lt_z (pos 0) number ≡ true → 1 ≤ section_of_number number
above (pos n) e = lt_of n e
  where
    lt_of : (m : ℕ) → lt_z (pos 0) (pos m) ≡ true → 1 ≤ m
    lt_of m h = omega (arith, ltb-true 0 m h)
above (negsuc n) e = absurd cc

means_place : (symbol : SymbolView) → class_in symbol ≡ 2 → lt_z (pos 0) (section_number_in symbol) ≡ true → is_in_section symbol ≡ true
means_place symbol external inside = both_true inside (rw external refl)

-- what the test of a symbol says of it
definition_stands : (bytes : List ℕ) (index : ℕ) → object_fault bytes ≡ None → starts_symbol bytes index ≡ true → is_definition (symbol_at bytes index) ≡ true → IsPlaceIn bytes (place_of (symbol_at bytes index))
unfolding is_definition
definition_stands bytes index sound starts e = by_place (is_absolute symbol) parts.1
  where
    symbol : SymbolView
    symbol = symbol_at bytes index

    parts : (eqb (class_in symbol) 2 ≡ true) × ((is_absolute symbol || lt_z (pos 0) (section_number_in symbol)) ≡ true)
    parts = and_parts (eqb (class_in symbol) 2) (is_absolute symbol || lt_z (pos 0) (section_number_in symbol)) e

    by_place : (absolute : Bool) → (absolute || lt_z (pos 0) (section_number_in symbol)) ≡ true → IsPlaceIn bytes (cond absolute (place.Absolute (value_in symbol)) (place_in_section symbol))
    by_place true inside = tt
    by_place false inside = record {
      first = above (section_number_in symbol) inside;
      last = symbol_section_inside bytes index sound starts;
      value = symbol_value_inside bytes index sound starts (means_place symbol (eqb-true (class_in symbol) 2 parts.0) inside);
    }

-- each index of a list stands in it
all_starts : (indexes : List ℕ) → All (λ i. list_any (λ start. eqb start i) indexes ≡ true) indexes
all_starts indexes = each indexes indexes (λ i h. h)
  where
    each : (whole rest : List ℕ) → ((i : ℕ) → list_any (λ start. eqb start i) rest ≡ true → list_any (λ start. eqb start i) whole ≡ true) → All (λ i. list_any (λ start. eqb start i) whole ≡ true) rest
    each whole [] in_whole = All-nil (λ i. list_any (λ start. eqb start i) whole ≡ true)
    each whole (i ∷ rest) in_whole =
        All-cons (λ j. list_any (λ start. eqb start j) whole ≡ true) i rest (in_whole i (rw (eq-eqb i i refl) refl))
        (each whole rest (λ j h. in_whole j (or_right (eqb i j) _ h)))

pub symbols_start : (bytes : List ℕ) → All (λ i. starts_symbol bytes i ≡ true) (symbols_of bytes)
unfolding starts_symbol
symbols_start bytes = all_starts (symbols_of bytes)

-- those of a list that pass a test
pub all_filtered : {X : Type 0} (P : X → Type 0) (Q : X → Type 0) (test : X → Bool) (xs : List X) → All P xs → ((x : X) → P x → test x ≡ true → Q x) → All Q (filter test xs)
all_filtered P Q test [] all passes = All-nil Q
all_filtered {X} P Q test (x ∷ xs) all passes =
    go (test x) refl (all_filtered P Q test xs (λ k d lt. all (suc k) d (omega arith)) passes)
  where
    go : (b : Bool) → test x ≡ b → All Q (filter test xs) → All Q (cond b (x ∷ filter test xs) (filter test xs))
    go true e rest = All-cons Q x (filter test xs) (passes x (all 0 x (omega arith)) e) rest
    go false e rest = rest

-- an entry is a symbol of the object
pub record IsEntryOf (bytes : List ℕ) (entry : SymbolEntry) : Type 0 where
  pub starts : starts_symbol bytes entry.0 ≡ true
  pub is : entry.1 ≡ symbol_at bytes entry.0

pub entries_are : (bytes : List ℕ) → All (IsEntryOf bytes) (symbol_entries bytes)
entries_are bytes =
    All-map (IsEntryOf bytes) (symbol_entry bytes) (symbols_of bytes)
    (All-weaker (λ i. starts_symbol bytes i ≡ true) (λ i. IsEntryOf bytes (symbol_entry bytes i)) (λ i h. record { starts = h; is = refl }) (symbols_of bytes) (symbols_start bytes))

pub definitions_stand : (bytes : List ℕ) → opening_error bytes ≡ None → All (λ d. IsPlaceIn bytes d.place) (definitions_of bytes)
unfolding definitions_of
definitions_stand bytes opened =
    All-map (λ (d : Definition). IsPlaceIn bytes d.place) definition_of (filter defines (symbol_entries bytes))
    (all_filtered (IsEntryOf bytes) (λ (e : SymbolEntry). IsPlaceIn bytes (definition_of e).place) defines (symbol_entries bytes) (entries_are bytes) (λ e entry passes.
    subst (λ (view : SymbolView). IsPlaceIn bytes (place_of view)) (sym entry.is)
    (definition_stands bytes e.0 (opened_sound bytes opened) entry.starts (ap is_definition (sym entry.is) ∙ passes))))

-- those of a short import stand in no section
import_stands : (bytes : List ℕ) (import : Import) → All (λ d. IsPlaceIn bytes d.place) (import_definitions import)
unfolding import_definitions
import_stands bytes import =
    All-cons (λ (d : Definition). IsPlaceIn bytes d.place) (entry_definition import.symbol) (symbol_definitions import.kind import.symbol) tt (by_kind import.kind)
  where
    by_kind : (kind : ImportKind) → All (λ d. IsPlaceIn bytes d.place) (symbol_definitions kind import.symbol)
    by_kind kind.Code = All-cons (λ (d : Definition). IsPlaceIn bytes d.place) _ [] tt (All-nil (λ (d : Definition). IsPlaceIn bytes d.place))
    by_kind kind.Data = All-nil (λ (d : Definition). IsPlaceIn bytes d.place)
    by_kind kind.Const = All-cons (λ (d : Definition). IsPlaceIn bytes d.place) _ [] tt (All-nil (λ (d : Definition). IsPlaceIn bytes d.place))

pub module_definitions_stand : (view : ModuleView) → opening_error view.bytes ≡ None → All (λ d. IsPlaceIn view.bytes d.place) (module_definitions view)
module_definitions_stand view opened = by_import view.imported
  where
    by_import : (imported : Option Import) → All (λ d. IsPlaceIn view.bytes d.place) (definitions_with view.bytes imported)
    by_import None = definitions_stand view.bytes opened
    by_import (Some import) = import_stands view.bytes import
