-- What callers may cite of meanings: a place that a name means is in a chosen section of a module.
use Rattle.std.proofs.Common.{◌≡◌, ℕ, zero, suc, ◌+◌, ◌<◌, Bool, true, false, cond, List, [], ◌∷◌, length, filter, Option, Some, None, Ok, Err, Result, refl, sym, ap, subst, ◌∙◌, ◌⊎◌, inl, inr, arith}
use Rattle.std.specs.Prelude.{option_map}
use Rattle.std.specs.Option.{option_or}
use Rattle.std.specs.List.{All, Contains, find, list_any}
use Rattle.link_base.specs.NameText.{same_name, begins_import, behind_import}
use Rattle.std.proofs.lemmas.List.Elements.{All-nil, All-cons, All-map, All-weaker, All-contains_itself}
use Rattle.link_base.proofs.RangeLemmas.{all_joined}
use Rattle.coff_records.specs.ObjectFile.{symbol_at, starts_symbol, section_of_number, section_number_in, value_in, name_in}
use Rattle.std.specs.Int.Signed.{lt_z}
use Rattle.link_base.specs.PeFormat.{SYM_UNDEFINED}
use Rattle.symbol_table.specs.declared.meaning.NoMeaning.TheVariants.{Undefined}
use Rattle.module_view.specs.Module.{ModuleView, module_at, no_module}
use Rattle.module_view.specs.Opening.{opening_error, IsOpened}
use Rattle.module_view.specs.ImportModule.{module_definitions}
use Rattle.module_view.specs.SymbolLists.{weaks_of, is_absolute}
use Rattle.module_view.specs.declared.definition.Definition.{Definition}
use Rattle.module_view.specs.declared.reference.Weak.{Weak}
use Rattle.module_view.specs.declared.definition.Place.{Place}
use Rattle.module_view.specs.declared.definition.Place.TheVariants as place
use Rattle.symbol_table.specs.declared.meaning.Meaning.{Meaning}
use Rattle.symbol_table.specs.declared.meaning.Meaning.TheVariants as meaning
use Rattle.symbol_table.specs.declared.meaning.NoMeaning.{NoMeaning}
use Rattle.symbol_names.specs.declared.weak_default.WeakDefault.{WeakDefault}
use Rattle.symbol_names.specs.declared.weak_default.WeakDefault.TheVariants as default
use Rattle.symbol_table.specs.LinkerNames.{image_base_name, zero_names, linker_meaning}
use Rattle.symbol_names.specs.Defaults.{is_inside, place_default, local_default, symbol_default, default_of, is_global}
use Rattle.symbol_names.specs.LinkView.{LinkView}
use Rattle.symbol_names.specs.Alternates.{alternate_named}
use Rattle.symbol_names.specs.Lists.{Provided, provided, provided_by, has_name, is_chosen_in, is_live_at, is_live, all_definitions, live_definitions, Offered, Said, said, said_by, says, all_weaks}
use Rattle.symbol_table.specs.Resolution.{definition_named, common_named, weak_named, meaning_at, defined_meaning, common_meaning, place_meaning, Step, Ends, Leads, default_step, alternate_step, weak_step, own_or, own_meaning, step, is_local_slot, slot_of, at_end, meaning_within, names_ahead, meaning_of}

-- ---- a place

-- the definition of a module stands at a place
pub record DefinesPlace (modules : List ModuleView) (position section value : ℕ) : Type 0 where
  pub definition : Definition
  pub own : Contains (module_definitions (module_at modules position)) definition
  pub stands : definition.place ≡ place.Section section value

-- a weak external of the module means a place inside the section
pub record SaysPlace (modules : List ModuleView) (position section value : ℕ) : Type 0 where
  pub weak : Weak
  pub own : Contains (weaks_of (module_at modules position).bytes) weak
  pub inside : is_inside (module_at modules position).bytes section value ≡ true

-- a place in a chosen section of a module, where a definition stands, or which a weak external means
pub record MeansPlace (modules : List ModuleView) (chosen : List (List Bool)) (position section value : ℕ) : Type 0 where
  pub within : position < length modules
  pub chosen_is : is_chosen_in chosen position section ≡ true
  pub stands : DefinesPlace modules position section value ⊎ SaysPlace modules position section value

-- ---- definitions

-- it is one of its module's
record IsProvided (modules : List ModuleView) (entry : Provided) : Type 0 where
  within : entry.«module» < length modules
  own : Contains (module_definitions (module_at modules entry.«module»)) entry.definition

definitions_are : (modules : List ModuleView) → All (IsProvided modules) (all_definitions modules)
definitions_are modules =
    all_joined (IsProvided modules) (λ k. provided_by k (module_at modules k)) 0 (length modules) (λ k low high.
    let own = module_definitions (module_at modules k) in
    let within : k < length modules = omega arith in
    All-map (IsProvided modules) (provided k) own
    (All-weaker (Contains own) (λ d. IsProvided modules (provided k d)) (λ d there. record { within = within; own = there }) own (All-contains_itself own)))

-- those that pass a test are those of all, and pass it
passing : {X : Type 0} (P : X → Type 0) (test : X → Bool) (xs : List X) → All P xs → All (λ x. P x × (test x ≡ true)) (filter test xs)
passing P test [] all = All-nil (λ x. P x × (test x ≡ true))
passing {X} P test (x ∷ xs) all = go (test x) refl (passing P test xs (λ k d lt. all (suc k) d (omega arith)))
  where
    go : (b : Bool) → test x ≡ b → All (λ y. P y × (test y ≡ true)) (filter test xs) → All (λ y. P y × (test y ≡ true)) (cond b (x ∷ filter test xs) (filter test xs))
    go false e rest = rest
    go true e rest = All-cons (λ y. P y × (test y ≡ true)) x (filter test xs) (all 0 x (omega arith), e) rest

-- what is found is one of them
found_is : {X : Type 0} (P : X → Type 0) (test : X → Bool) (xs : List X) (x : X) → All P xs → find test xs ≡ Some x → P x
found_is P test [] x all e = absurd cc
found_is {X} P test (first ∷ rest) x all e =
    go (test first) e (λ later. found_is P test rest x (λ k d lt. all (suc k) d (omega arith)) later)
  where
    go : (b : Bool) → cond b (Some first) (find test rest) ≡ Some x → (find test rest ≡ Some x → P x) → P x
    go true is later = let same : first ≡ x = cc in subst P same (all 0 first (omega arith))
    go false is later = later is

defined_place : (modules : List ModuleView) (chosen : List (List Bool)) (at : ℕ) (definition : Definition) (p : Place) (position section value : ℕ) → definition.place ≡ p → at < length modules → Contains (module_definitions (module_at modules at)) definition → is_live_at chosen at definition.place ≡ true → meaning_at at p ≡ meaning.Section position section value → MeansPlace modules chosen position section value
defined_place modules chosen at definition (place.Section s v) position section value is within own live e =
    let same : at ≡ position = cc in
    let same_section : s ≡ section = cc in
    let same_value : v ≡ value = cc in
    subst (λ (m : ℕ). MeansPlace modules chosen m section value) same
    (record {
      within = within;
      chosen_is = ap (is_chosen_in chosen at) (sym same_section) ∙ ap (is_live_at chosen at) (sym is) ∙ live;
      stands = inl (record {
        definition = definition;
        own = own;
        stands = is ∙ ap (λ (k : ℕ). place.Section k v) same_section ∙ ap (place.Section section) same_value;
      });
    })
defined_place modules chosen at definition (place.Absolute v) position section value is within own live e = absurd cc
defined_place modules chosen at definition place.Slot position section value is within own live e = absurd cc
defined_place modules chosen at definition place.Thunk position section value is within own live e = absurd cc

-- ---- the linker's names

-- the linker means no section by a name
linker_places_nothing : (name : List ℕ) (position section value : ℕ) → linker_meaning name ≡ Some (meaning.Section position section value) → ⊥
unfolding linker_meaning
linker_places_nothing name position section value e = base (same_name name image_base_name) (list_any (same_name name) zero_names) e
  where
    base : (is_base is_zero : Bool) → cond is_base (Some meaning.ImageBase) (cond is_zero (Some (meaning.Absolute 0)) None) ≡ Some (meaning.Section position section value) → ⊥
    base true is_zero e = cc
    base false true e = cc
    base false false e = cc

-- ---- defaults

-- a default that is a place is inside its section
place_inside : (bytes : List ℕ) (s v section value : ℕ) → place_default bytes s v ≡ default.Place section value → is_inside bytes section value ≡ true
place_inside bytes s v section value e = go (is_inside bytes s v) refl e
  where
    go : (b : Bool) → is_inside bytes s v ≡ b → cond b (default.Place s v) default.Nothing ≡ default.Place section value → is_inside bytes section value ≡ true
    go false is e = absurd cc
    go true is e =
        let same_section : s ≡ section = cc in
        let same_value : v ≡ value = cc in
        ap (λ (k : ℕ). is_inside bytes k value) (sym same_section) ∙ ap (is_inside bytes s) (sym same_value) ∙ is

either : {P : Type 0} (section value : ℕ) (b : Bool) (x y : WeakDefault) → (x ≡ default.Place section value → P) → (y ≡ default.Place section value → P) → cond b x y ≡ default.Place section value → P
either section value true x y first second e = first e
either section value false x y first second e = second e

default_inside : (bytes : List ℕ) (tag section value : ℕ) → default_of bytes tag ≡ default.Place section value → is_inside bytes section value ≡ true
unfolding default_of symbol_default
default_inside bytes tag section value e =
    let symbol = symbol_at bytes tag in
    let s = section_of_number (section_number_in symbol) in
    let v = value_in symbol in
    either section value (starts_symbol bytes tag) (symbol_default bytes symbol) default.Nothing
    (λ global. either section value (is_global symbol) (default.Name (name_in symbol)) (local_default bytes symbol) (λ no. absurd cc)
    (λ local. either section value (is_absolute symbol) (default.Absolute v) (cond (lt_z SYM_UNDEFINED (section_number_in symbol)) (place_default bytes s v) default.Nothing) (λ no. absurd cc)
    (λ placed. either section value (lt_z SYM_UNDEFINED (section_number_in symbol)) (place_default bytes s v) default.Nothing (λ there. place_inside bytes s v section value there) (λ no. absurd cc) placed)
    local)
    global)
    (λ no. absurd cc) e

-- a weak external is one of its module's, and a place that it means is inside
record IsSaid (modules : List ModuleView) (entry : Said) : Type 0 where
  within : entry.«module» < length modules
  weak : Weak
  own : Contains (weaks_of (module_at modules entry.«module»).bytes) weak
  inside : (section value : ℕ) → entry.default ≡ default.Place section value → is_inside (module_at modules entry.«module»).bytes section value ≡ true

weaks_are : (modules : List ModuleView) → All (IsSaid modules) (all_weaks modules)
weaks_are modules =
    all_joined (IsSaid modules) (λ k. said_by k (module_at modules k).bytes) 0 (length modules) (λ k low high.
    let bytes = (module_at modules k).bytes in
    let within : k < length modules = omega arith in
    All-map (IsSaid modules) (said k bytes) (weaks_of bytes)
    (All-weaker (Contains (weaks_of bytes)) (λ w. IsSaid modules (said k bytes w)) (λ w there. record {
      within = within;
      weak = w;
      own = there;
      inside = λ section value e. default_inside bytes w.tag section value e;
    }) (weaks_of bytes) (All-contains_itself (weaks_of bytes))))

-- ---- a step

chosen_place : (modules : List ModuleView) (chosen : List (List Bool)) (at s v position section value : ℕ) (weak : Weak) → at < length modules → Contains (weaks_of (module_at modules at).bytes) weak → is_inside (module_at modules at).bytes s v ≡ true → place_meaning chosen at s v ≡ Ok (meaning.Section position section value) → MeansPlace modules chosen position section value
chosen_place modules chosen at s v position section value weak within own inside e = go (is_chosen_in chosen at s) refl e
  where
    go : (b : Bool) → is_chosen_in chosen at s ≡ b → cond b (Ok (meaning.Section at s v)) (Err Undefined) ≡ Ok (meaning.Section position section value) → MeansPlace modules chosen position section value
    go false is e = absurd cc
    go true is e =
        let same : at ≡ position = cc in
        let same_section : s ≡ section = cc in
        let same_value : v ≡ value = cc in
        subst (λ (m : ℕ). MeansPlace modules chosen m section value) same
        (record {
          within = within;
          chosen_is = ap (is_chosen_in chosen at) (sym same_section) ∙ is;
          stands = inr (record {
            weak = weak;
            own = own;
            inside = ap (λ (k : ℕ). is_inside (module_at modules at).bytes k value) (sym same_section) ∙ ap (is_inside (module_at modules at).bytes s) (sym same_value) ∙ inside;
          });
        })

ends_are : (a b : Result Meaning NoMeaning) → Ends a ≡ Ends b → a ≡ b
ends_are a b e = ap ended e
  where
    ended : Step → Result Meaning NoMeaning
    ended (Ends r) = r
    ended (Leads slot n) = a

leads_nowhere : (slot : Bool) (name : List ℕ) (end : Result Meaning NoMeaning) → Leads slot name ≡ Ends end → ⊥
leads_nowhere slot name end e = cc

default_place : (modules : List ModuleView) (chosen : List (List Bool)) (at : ℕ) (d : WeakDefault) (position section value : ℕ) (weak : Weak) → at < length modules → Contains (weaks_of (module_at modules at).bytes) weak → ((s v : ℕ) → d ≡ default.Place s v → is_inside (module_at modules at).bytes s v ≡ true) → default_step chosen at d ≡ Ends (Ok (meaning.Section position section value)) → MeansPlace modules chosen position section value
default_place modules chosen at (default.Name name) position section value weak within own inside e = absurd (leads_nowhere false name (Ok (meaning.Section position section value)) e)
default_place modules chosen at (default.Place s v) position section value weak within own inside e = chosen_place modules chosen at s v position section value weak within own (inside s v refl) (ends_are (place_meaning chosen at s v) (Ok (meaning.Section position section value)) e)
default_place modules chosen at (default.Absolute v) position section value weak within own inside e = let same = ends_are (Ok (meaning.Absolute v)) (Ok (meaning.Section position section value)) e in absurd cc
default_place modules chosen at default.Nothing position section value weak within own inside e = let same = ends_are (Err Undefined) (Ok (meaning.Section position section value)) e in absurd cc

weak_place : (modules : List ModuleView) (chosen : List (List Bool)) (name : List ℕ) (found : Option Said) (pair : Option (List ℕ × List ℕ)) (position section value : ℕ) → ((entry : Said) → found ≡ Some entry → IsSaid modules entry) → weak_step chosen found (alternate_step name pair) ≡ Ends (Ok (meaning.Section position section value)) → MeansPlace modules chosen position section value
weak_place modules chosen name None None position section value each e = absurd (by_itself (begins_import name) e)
  where
    by_itself : (b : Bool) → cond b (Leads true (behind_import name)) (Ends (Err Undefined)) ≡ Ends (Ok (meaning.Section position section value)) → ⊥
    by_itself true e = leads_nowhere true (behind_import name) (Ok (meaning.Section position section value)) e
    by_itself false e = let same = ends_are (Err Undefined) (Ok (meaning.Section position section value)) e in cc
weak_place modules chosen name None (Some pair) position section value each e = absurd (leads_nowhere false pair.1 (Ok (meaning.Section position section value)) e)
weak_place modules chosen name (Some entry) pair position section value each e =
    let is = each entry refl in
    default_place modules chosen entry.«module» entry.default position section value is.weak is.within is.own is.inside e

live_place : (modules : List ModuleView) (chosen : List (List Bool)) (entry : Provided) (position section value : ℕ) → (IsProvided modules entry × (is_live chosen entry ≡ true)) → defined_meaning entry ≡ meaning.Section position section value → MeansPlace modules chosen position section value
live_place modules chosen entry position section value is e =
    defined_place modules chosen entry.«module» entry.definition entry.definition.place position section value refl is.0.within is.0.own is.1 e

own_place : (modules : List ModuleView) (chosen : List (List Bool)) (name : List ℕ) (found : Option Provided) (common : Option Offered) (position section value : ℕ) → ((entry : Provided) → found ≡ Some entry → IsProvided modules entry × (is_live chosen entry ≡ true)) → option_or (option_map defined_meaning found) (option_or (option_map common_meaning common) (linker_meaning name)) ≡ Some (meaning.Section position section value) → MeansPlace modules chosen position section value
own_place modules chosen name (Some entry) common position section value each e =
    let same : defined_meaning entry ≡ meaning.Section position section value = cc in
    live_place modules chosen entry position section value (each entry refl) same
own_place modules chosen name None (Some entry) position section value each e = absurd cc
own_place modules chosen name None None position section value each e = absurd (linker_places_nothing name position section value e)

step_place : (view : LinkView) (chosen : List (List Bool)) (name : List ℕ) (position section value : ℕ) → step view chosen name ≡ Ends (Ok (meaning.Section position section value)) → MeansPlace view.modules chosen position section value
unfolding step
step_place view chosen name position section value e = go (own_meaning view.modules chosen name) refl e
  where
    go : (own : Option Meaning) → own_meaning view.modules chosen name ≡ own → own_or own (weak_step chosen (weak_named view.modules name) (alternate_step name (alternate_named view name))) ≡ Ends (Ok (meaning.Section position section value)) → MeansPlace view.modules chosen position section value
    go None is e =
        weak_place view.modules chosen name (weak_named view.modules name) (alternate_named view name) position section value (λ entry found. found_is (IsSaid view.modules) (says name) (all_weaks view.modules) entry (weaks_are view.modules) found) e
    go (Some m) is e =
        let means : Ok m ≡ Ok (meaning.Section position section value) = ends_are (Ok m) (Ok (meaning.Section position section value)) e in
        let same : Some m ≡ Some (meaning.Section position section value) = cc in
        own_place view.modules chosen name (definition_named view.modules chosen name) (common_named view.modules name) position section value
        (λ entry found. found_is (λ x. IsProvided view.modules x × (is_live chosen x ≡ true)) (has_name name) (live_definitions view.modules chosen) entry (passing (IsProvided view.modules) (is_live chosen) (all_definitions view.modules) (definitions_are view.modules)) found)
        (is ∙ same)

-- ---- a name

-- a slot is no place in a section
no_slot_place : (name : List ℕ) (end : Result Meaning NoMeaning) (position section value : ℕ) → slot_of name end ≡ Ok (meaning.Section position section value) → ⊥
no_slot_place name (Err none) position section value e = cc
no_slot_place name (Ok meant) position section value e = go (is_local_slot meant) e
  where
    go : (b : Bool) → cond b (Err Undefined) (Ok (meaning.LocalSlot name)) ≡ Ok (meaning.Section position section value) → ⊥
    go true e = cc
    go false e = cc

within_place : (view : LinkView) (chosen : List (List Bool)) (steps : ℕ) (name : List ℕ) (position section value : ℕ) → meaning_within view chosen steps name ≡ Ok (meaning.Section position section value) → MeansPlace view.modules chosen position section value
unfolding meaning_within
within_place view chosen zero name position section value e = absurd cc
within_place view chosen (suc steps) name position section value e =
    go (step view chosen name) refl e (λ other later. within_place view chosen steps other position section value later)
  where
    go : (s : Step) → step view chosen name ≡ s → at_end (meaning_within view chosen steps) s ≡ Ok (meaning.Section position section value) → ((other : List ℕ) → meaning_within view chosen steps other ≡ Ok (meaning.Section position section value) → MeansPlace view.modules chosen position section value) → MeansPlace view.modules chosen position section value
    go (Ends end) is e later = step_place view chosen name position section value (is ∙ ap Ends e)
    go (Leads false other) is e later = later other e
    go (Leads true other) is e later = absurd (no_slot_place other (meaning_within view chosen steps other) position section value e)

pub meaning_stands : (view : LinkView) (chosen : List (List Bool)) (name : List ℕ) (position section value : ℕ) → meaning_of view chosen name ≡ Ok (meaning.Section position section value) → MeansPlace view.modules chosen position section value
unfolding meaning_of
meaning_stands view chosen name position section value e =
    within_place view chosen (length (names_ahead view name) + 1) name position section value e

-- each of the modules opens
pub module_opens : (modules : List ModuleView) (position : ℕ) → All IsOpened modules → position < length modules → opening_error (module_at modules position).bytes ≡ None
module_opens modules position all lt = all position no_module lt
