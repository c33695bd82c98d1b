-- A name without a number: nothing defines it.
use Rattle.std.proofs.Common.{◌≡◌, ℕ, zero, suc, ◌<◌, Bool, true, false, cond, List, [], ◌∷◌, ◌≤◌, length, get_or, map, filter, Option, Some, None, refl, sym, ap, subst, ◌∙◌, add-one, arith}
use Rattle.std.proofs.lemmas.Grind.{common_steps}
use Rattle.std.specs.Prelude.{position, Ok, Err, option_map}
use Rattle.std.specs.List.{position_or_len, All, AllZip, find}
use Rattle.std.specs.Option.{option_or}
use Rattle.std.proofs.lemmas.Bool.{true≢false}
use Rattle.std.proofs.lemmas.Option.{slice_get_within, get_or_from_slice_get, slice_get-get_or}
use Rattle.std.proofs.lemmas.List.Elements.{All-append, All-filter, All-map}
use Rattle.std.proofs.lemmas.List.Quantifiers.{position-Some}
use Rattle.std.proofs.lemmas.List.Sums.{fails_before_first}
use Rattle.std.proofs.lemmas.List.{length-map}
use Rattle.link_base.specs.NameText.{same_name, begins_import, behind_import}
use Rattle.link_base.proofs.RangeLemmas.{all_joined}
use Rattle.std.proofs.lemmas.Slice.Eq.{bytes_eq-Decides}
use Rattle.module_view.specs.Module.{ModuleView, module_at}
use Rattle.module_view.specs.ImportModule.{module_definitions}
use Rattle.module_view.specs.SymbolLists.{commons_of, weaks_of}
use Rattle.module_view.specs.declared.definition.Definition.{Definition}
use Rattle.module_view.specs.declared.definition.Common.{Common}
use Rattle.module_view.specs.declared.reference.Weak.{Weak}
use Rattle.symbol_table.specs.declared.meaning.Meaning.{Meaning}
use Rattle.symbol_table.specs.declared.meaning.NoMeaning.TheVariants.{Undefined}
use Rattle.symbol_names.specs.declared.noted.ModuleNames.{ModuleNames}
use Rattle.symbol_names.specs.declared.noted.NotedAlternate.{NotedAlternate}
use Rattle.symbol_names.specs.declared.given.GivenNames.{GivenNames}
use Rattle.symbol_names.specs.Alternates.{alternates_by, all_alternates, is_left, alternate_named}
use Rattle.symbol_table.specs.TableParts.{link_view}
use Rattle.symbol_table.specs.LinkerNames.{linker_meaning}
use Rattle.symbol_names.specs.Lists.{of_all, Provided, provided, provided_by, has_name, is_live, all_definitions, live_definitions, Offered, offered, offered_by, offers, all_commons, Said, said, said_by, says, all_weaks}
use Rattle.symbol_table.specs.Resolution.{defined_meaning, common_meaning, definition_named, common_named, weak_named, greatest_of, Ends, Leads, own_or, slot_step, alternate_step, weak_step, slot_of, at_end, step, meaning_within, names_ahead, meaning_of}
use Rattle.symbol_names.specs.Interning.{Numbers, NotesDefinition, NotesCommon, NotesAlternate, NotesWeak, NotesModule}
use Rattle.symbol_names.specs.Kept.{noted_view}
use Rattle.symbol_table.proofs.ChainLemmas.{settles_before}
use Rattle.symbol_table.proofs.EndLemmas.{settles_means, means_settles}

-- ---- where a test finds nothing

pub none_found : {X : Type 0} (test : X → Bool) (xs : List X) → All (λ x. test x ≡ false) xs → find test xs ≡ None
none_found test [] all = refl
none_found {X} test (x ∷ xs) all =
    ap (λ (b : Bool). cond b (Some x) (find test xs)) (all 0 x (omega arith)) ∙ none_found test xs (λ k d lt. all (suc k) d (omega arith))

none_kept : {X : Type 0} (test : X → Bool) (xs : List X) → All (λ x. test x ≡ false) xs → filter test xs ≡ []
none_kept test [] all = refl
none_kept {X} test (x ∷ xs) all =
    ap (λ (b : Bool). cond b (x ∷ filter test xs) (filter test xs)) (all 0 x (omega arith)) ∙ none_kept test xs (λ k d lt. all (suc k) d (omega arith))

-- ---- a name without a number

abbrev pub Absent : List (List ℕ) → List ℕ → Type 0
Absent names name = (number : ℕ) → Numbers names number name → ⊥

-- other names have numbers
pub differs : (names : List (List ℕ)) (name other : List ℕ) (number : ℕ) → Absent names name → Numbers names number other → same_name other name ≡ false
differs names name other number absent numbered = go (same_name other name) refl
  where
    go : (b : Bool) → same_name other name ≡ b → same_name other name ≡ false
    go false e = e
    go true e = absurd (absent number (numbered ∙ ap Some ((bytes_eq-Decides other name).0 e)))

pub zip_left : {X Y : Type 0} (R : X → Y → Type 0) (P : X → Type 0) (xs : List X) (ys : List Y) → AllZip R xs ys → ((x : X) (y : Y) → R x y → P x) → All P xs
zip_left R P [] ys zip each = λ k d lt. absurd (omega arith)
zip_left R P (x ∷ xs) [] zip each = absurd zip
zip_left {X} R P (x ∷ xs) (y ∷ ys) zip each = go (zip_left R P xs ys zip.1 each)
  where
    go : All P xs → All P (x ∷ xs)
    go later zero d lt = each x y zip.0
    go later (suc k) d lt = later k d (omega arith)

pub module_noted : (names : List (List ℕ)) (kept : List ModuleNames) (k : ℕ) → All (NotesModule names) kept → k < length kept → (noted : ModuleNames) × (NotesModule names noted × (module_at (map noted_view kept) k ≡ noted_view noted))
module_noted names [] k all lt = absurd (omega arith)
module_noted names (m ∷ kept) zero all lt = (m, (all 0 m (omega arith), refl))
module_noted names (m ∷ kept) (suc k) all lt = module_noted names kept k (λ j d below. all (suc j) d (omega arith)) (omega arith)

module _ (names : List (List ℕ)) (kept : List ModuleNames) (noted : All (NotesModule names) kept) (name : List ℕ) (absent : Absent names name) where
  pub no_definition : All (λ entry. has_name name entry ≡ false) (all_definitions (map noted_view kept))
  no_definition =
      all_joined (λ entry. has_name name entry ≡ false) (λ k. provided_by k (module_at (map noted_view kept) k)) 0 (length (map noted_view kept)) (λ k low high.
      let found = module_noted names kept k noted (omega (arith, length-map kept noted_view)) in
      let own = module_definitions (noted_view found.0) in
      let each = zip_left (NotesDefinition names) (λ (d : Definition). same_name d.name name ≡ false) own found.0.definitions.items found.1.0.definitions (λ d m is. differs names name d.name m.name absent is.named) in
      subst (λ (v : ModuleView). All (λ entry. has_name name entry ≡ false) (provided_by k v)) (sym found.1.1)
      (All-map (λ entry. has_name name entry ≡ false) (provided k) own each))

  pub no_common : All (λ entry. offers name entry ≡ false) (all_commons (map noted_view kept))
  no_common =
      all_joined (λ entry. offers name entry ≡ false) (λ k. offered_by k (module_at (map noted_view kept) k).bytes) 0 (length (map noted_view kept)) (λ k low high.
      let found = module_noted names kept k noted (omega (arith, length-map kept noted_view)) in
      let own = commons_of found.0.bytes.now in
      let each = zip_left (NotesCommon names) (λ (d : Common). same_name d.name name ≡ false) own found.0.commons.items found.1.0.commons (λ d m is. differs names name d.name m.name absent is.named) in
      subst (λ (v : ModuleView). All (λ entry. offers name entry ≡ false) (offered_by k v.bytes)) (sym found.1.1)
      (All-map (λ entry. offers name entry ≡ false) (offered k) own each))

  no_weak : All (λ entry. says name entry ≡ false) (all_weaks (map noted_view kept))
  no_weak =
      all_joined (λ entry. says name entry ≡ false) (λ k. said_by k (module_at (map noted_view kept) k).bytes) 0 (length (map noted_view kept)) (λ k low high.
      let found = module_noted names kept k noted (omega (arith, length-map kept noted_view)) in
      let own = weaks_of found.0.bytes.now in
      let each = zip_left (NotesWeak names found.0.bytes.now) (λ (w : Weak). same_name w.name name ≡ false) own found.0.weaks.items found.1.0.weaks (λ w m is. differs names name w.name m.name absent is.named) in
      subst (λ (v : ModuleView). All (λ entry. says name entry ≡ false) (said_by k v.bytes)) (sym found.1.1)
      (All-map (λ entry. says name entry ≡ false) (said k found.0.bytes.now) own each))

  no_alternate : (given : GivenNames) → AllZip (NotesAlternate names) given.pairs.items given.noted.items → All (λ pair. is_left name pair ≡ false) (all_alternates (link_view given kept))
  no_alternate given pairs =
      All-append (λ pair. is_left name pair ≡ false) given.pairs.items (of_all alternates_by (map noted_view kept))
      (lefts_differ given.pairs.items given.noted.items pairs)
      (all_joined (λ pair. is_left name pair ≡ false) (λ k. alternates_by k (module_at (map noted_view kept) k).bytes) 0 (length (map noted_view kept)) (λ k low high.
      let found = module_noted names kept k noted (omega (arith, length-map kept noted_view)) in
      subst (λ (v : ModuleView). All (λ pair. is_left name pair ≡ false) (alternates_by k v.bytes)) (sym found.1.1)
      (lefts_differ (alternates_by k found.0.bytes.now) found.0.alternates.items found.1.0.alternates)))
    where
      lefts_differ : (pairs : List (List ℕ × List ℕ)) (notes : List NotedAlternate) → AllZip (NotesAlternate names) pairs notes → All (λ pair. is_left name pair ≡ false) pairs
      lefts_differ pairs notes zipped =
          zip_left (NotesAlternate names) (λ (p : List ℕ × List ℕ). same_name p.0 name ≡ false) pairs notes zipped (λ p m is. differs names name p.0 m.left absent is.left)

  step_is : (given : GivenNames) (chosen : List (List Bool)) → AllZip (NotesAlternate names) given.pairs.items given.noted.items → step (link_view given kept) chosen name ≡ own_or (linker_meaning name) (slot_step name)
  unfolding step
  step_is given chosen pairs =
      let view = link_view given kept in
      let modules = map noted_view kept in
      let behind = λ (found : Option Said) (pair : Option (List ℕ × List ℕ)). weak_step chosen found (alternate_step name pair) in
      let defined : definition_named modules chosen name ≡ None =
      none_found (has_name name) (live_definitions modules chosen) (All-filter (is_live chosen) (λ entry. has_name name entry ≡ false) (all_definitions modules) no_definition) in
      let common : common_named modules name ≡ None = ap greatest_of (none_kept (offers name) (all_commons modules) no_common) in
      let weak : weak_named modules name ≡ None = none_found (says name) (all_weaks modules) no_weak in
      let alternate : alternate_named view name ≡ None = none_found (is_left name) (all_alternates view) (no_alternate given pairs) in
      ap (λ (found : Option Provided). own_or (option_or (option_map defined_meaning found) (option_or (option_map common_meaning (common_named modules name)) (linker_meaning name))) (behind (weak_named modules name) (alternate_named view name))) defined
      ∙ ap (λ (found : Option Offered). own_or (option_or (option_map common_meaning found) (linker_meaning name)) (behind (weak_named modules name) (alternate_named view name))) common
      ∙ ap (λ (found : Option Said). own_or (linker_meaning name) (behind found (alternate_named view name))) weak
      ∙ ap (λ (pair : Option (List ℕ × List ℕ)). own_or (linker_meaning name) (behind None pair)) alternate

  -- it means what the linker means by it
  pub absent_own : (given : GivenNames) (chosen : List (List Bool)) (meant : Meaning) → AllZip (NotesAlternate names) given.pairs.items given.noted.items → linker_meaning name ≡ Some meant → meaning_of (link_view given kept) chosen name ≡ Ok meant
  unfolding meaning_of meaning_within
  absent_own given chosen meant pairs own =
      let view = link_view given kept in
      let count = length (names_ahead view name) in
      ap (λ (n : ℕ). meaning_within view chosen n name) (add-one count)
      ∙ ap (at_end (meaning_within view chosen count)) (step_is given chosen pairs ∙ ap (λ (o : Option Meaning). own_or o (slot_step name)) own)

  -- or nothing
  pub absent_nothing : (given : GivenNames) (chosen : List (List Bool)) → AllZip (NotesAlternate names) given.pairs.items given.noted.items → linker_meaning name ≡ None → begins_import name ≡ false → meaning_of (link_view given kept) chosen name ≡ Err Undefined
  unfolding meaning_of meaning_within
  absent_nothing given chosen pairs own plain =
      let view = link_view given kept in
      let count = length (names_ahead view name) in
      ap (λ (n : ℕ). meaning_within view chosen n name) (add-one count)
      ∙ ap (at_end (meaning_within view chosen count))
      (step_is given chosen pairs
      ∙ ap (λ (o : Option Meaning). own_or o (slot_step name)) own
      ∙ ap (λ (b : Bool). cond b (Leads true (behind_import name)) (Ends (Err Undefined))) plain)

  -- or it is a slot
  pub absent_slot : (given : GivenNames) (chosen : List (List Bool)) (rest : List ℕ) → AllZip (NotesAlternate names) given.pairs.items given.noted.items → linker_meaning name ≡ None → begins_import name ≡ true → rest ≡ behind_import name → meaning_of (link_view given kept) chosen name ≡ slot_of rest (meaning_of (link_view given kept) chosen rest)
  absent_slot given chosen rest pairs own begins is =
      let view = link_view given kept in
      let leads : step view chosen name ≡ Leads true rest =
      step_is given chosen pairs
      ∙ ap (λ (o : Option Meaning). own_or o (slot_step name)) own
      ∙ ap (λ (b : Bool). cond b (Leads true (behind_import name)) (Ends (Err Undefined))) begins
      ∙ ap (Leads true) (sym is) in
      settles_means view chosen name (slot_of rest (meaning_of view chosen rest)) (settles_before view chosen name rest true (meaning_of view chosen rest) leads (means_settles view chosen rest))

-- ---- the number of a name

pub position_numbers : (names : List (List ℕ)) (name : List ℕ) (number : ℕ) → position (same_name name) names ≡ Some number → Numbers names number name
position_numbers names name number e =
    let found = position-Some (same_name name) names number [] e in
    slice_get-get_or names number [] found.0 ∙ ap Some (sym ((bytes_eq-Decides name (get_or names number [])).0 found.1))

nowhere : {X : Type 0} (test : X → Bool) (xs : List X) → position test xs ≡ None → length xs ≤ position_or_len test xs
nowhere test xs e = grind (arith, common_steps)

pub position_absent : (names : List (List ℕ)) (name : List ℕ) → position (same_name name) names ≡ None → (number : ℕ) → Numbers names number name → ⊥
position_absent names name e number numbered =
    let within = slice_get_within names number name numbered in
    let fails = fails_before_first (same_name name) names number [] (omega (arith, nowhere (same_name name) names e)) in
    let is : get_or names number [] ≡ name = get_or_from_slice_get names number name [] numbered in
    absurd (true≢false (sym ((bytes_eq-Decides name (get_or names number [])).1 (sym is)) ∙ fails))
