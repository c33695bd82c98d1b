-- The end of a chain is what a name means: a chain that has not ended after one step more than there are names that it can come
-- to has come to a name twice.
use Rattle.std.proofs.Common.{◌≡◌, ℕ, zero, suc, ◌+◌, ◌<◌, ◌≤◌, Bool, true, false, cond, ◌||◌, List, [], ◌∷◌, length, map, take, drop, ◌⊎◌, Option, None, Some, is_some, Result, Ok, Err, refl, sym, ap, ◌∙◌, inl, inr, add-one, arith}
use Rattle.std.specs.List.{range_with_len, list_any, find, position_or_len, slice_get, flat_map, cons_option}
use Rattle.std.specs.Prelude.{filter_map}
use Rattle.std.proofs.Math.Seq.{drop-drop}
use Rattle.std.proofs.lemmas.List.{length-take, length-drop}
use Rattle.std.proofs.lemmas.List.Folds.{find_at, list_any-append, list_any_at}
use Rattle.link_base.specs.NameText.{same_name, import_prefix, begins_import, behind_import}
use Rattle.symbol_names.specs.LinkView.{LinkView}
use Rattle.symbol_names.specs.Alternates.{is_left, all_alternates, alternate_named}
use Rattle.std.proofs.lemmas.List.FromFn.{get_or-map-range_with_len, length-map-range_with_len}
use Rattle.std.proofs.lemmas.Bool.{false≢true, cases_eq, or_cases, or_left, or_right}
use Rattle.std.proofs.lemmas.Option.{same_Some, slice_get_within}
use Rattle.std.proofs.lemmas.Slice.Eq.{bytes_eq-Decides}
use Rattle.link_base.proofs.PigeonLemmas.{pigeon}
use Rattle.symbol_table.specs.declared.meaning.Meaning.{Meaning}
use Rattle.symbol_table.specs.declared.meaning.Meaning.TheVariants as meaning
use Rattle.symbol_table.specs.declared.meaning.NoMeaning.{NoMeaning}
use Rattle.symbol_table.specs.declared.meaning.NoMeaning.TheVariants.{Undefined, WeakCycle}
use Rattle.symbol_names.specs.declared.weak_default.WeakDefault.{WeakDefault}
use Rattle.symbol_names.specs.declared.weak_default.WeakDefault.TheVariants as default
use Rattle.symbol_names.specs.Lists.{Said, says, all_weaks}
use Rattle.symbol_table.specs.Resolution.{Step, Ends, Leads, own_or, own_meaning, name_said, default_name, default_step, alternate_step, weak_step, weak_named, step, is_local_slot, passed_on, at_end, meaning_within, led_to, tails_of, names_ahead, meaning_of}
use Rattle.symbol_table.specs.Links.{Settles}
use Rattle.symbol_table.proofs.ChainLemmas.{passed_cycle}

-- ---- a step

-- no step is the end of a chain that has none
abbrev is_cycle : Step → Bool
is_cycle (Leads slot name) = false
is_cycle (Ends (Ok meaning)) = false
is_cycle (Ends (Err Undefined)) = false
is_cycle (Ends (Err WeakCycle)) = true

no_cycle_if : (b : Bool) (meaning : Meaning) → is_cycle (Ends (cond b (Ok meaning) (Err Undefined))) ≡ false
no_cycle_if true meaning = refl
no_cycle_if false meaning = refl

no_slot_cycle : (b : Bool) (name : List ℕ) → is_cycle (cond b (Leads true name) (Ends (Err Undefined))) ≡ false
no_slot_cycle true name = refl
no_slot_cycle false name = refl

no_step_cycle : (chosen : List (List Bool)) (name : List ℕ) (own : Option Meaning) (weak : Option Said) (pair : Option (List ℕ × List ℕ)) → is_cycle (own_or own (weak_step chosen weak (alternate_step name pair))) ≡ false
no_step_cycle chosen name (Some meaning) weak pair = refl
no_step_cycle chosen name None None None = no_slot_cycle (begins_import name) (behind_import name)
no_step_cycle chosen name None None (Some pair) = refl
no_step_cycle chosen name None (Some entry) pair = by_default entry.default
  where
    by_default : (said : WeakDefault) → is_cycle (default_step chosen entry.«module» said) ≡ false
    by_default (default.Name name) = refl
    by_default (default.Place section value) = no_cycle_if _ _
    by_default (default.Absolute value) = refl
    by_default default.Nothing = refl

-- ---- names of a chain

abbrev name_after : Step → List ℕ → List ℕ
name_after (Ends end) name = name
name_after (Leads slot other) name = other

abbrev slot_after : Step → Bool
slot_after (Ends end) = false
slot_after (Leads slot other) = slot

next_name : LinkView → List (List Bool) → List ℕ → List ℕ
next_name view chosen name = name_after (step view chosen name) name

next_slot : LinkView → List (List Bool) → List ℕ → Bool
next_slot view chosen name = slot_after (step view chosen name)

-- the name that a name has led to after so many steps
nth_name : LinkView → List (List Bool) → ℕ → List ℕ → List ℕ
nth_name view chosen zero name = name
nth_name view chosen (suc steps) name = nth_name view chosen steps (next_name view chosen name)

-- a name that has no end within one step more leads on to one that has none
record NoEnd (view : LinkView) (chosen : List (List Bool)) (steps : ℕ) (name : List ℕ) : Type 0 where
  leads : step view chosen name ≡ Leads (next_slot view chosen name) (next_name view chosen name)
  later : meaning_within view chosen steps (next_name view chosen name) ≡ Err WeakCycle

step_no_cycle : (view : LinkView) (chosen : List (List Bool)) (name : List ℕ) → is_cycle (step view chosen name) ≡ false
unfolding step
step_no_cycle view chosen name = no_step_cycle chosen name (own_meaning view.modules chosen name) (weak_named view.modules name) (alternate_named view name)

-- a slot has no end where its name has none
passed_no_end : (slot : Bool) (name : List ℕ) (end : Result Meaning NoMeaning) → passed_on slot name end ≡ Err WeakCycle → end ≡ Err WeakCycle
passed_no_end false name end e = e
passed_no_end true name (Err none) e = e
passed_no_end true name (Ok meant) e = absurd (go (is_local_slot meant) e)
  where
    go : (b : Bool) → cond b (Err Undefined) (Ok (meaning.LocalSlot name)) ≡ Err WeakCycle → ⊥
    go true e = cc
    go false e = cc

no_end : (view : LinkView) (chosen : List (List Bool)) (steps : ℕ) (name : List ℕ) → meaning_within view chosen (suc steps) name ≡ Err WeakCycle → NoEnd view chosen steps name
unfolding meaning_within next_name next_slot
no_end view chosen steps name none = go (step view chosen name) refl
  where
    go : (made : Step) → step view chosen name ≡ made → NoEnd view chosen steps name
    go (Leads slot other) e =
        let same : next_name view chosen name ≡ other = ap (λ (s : Step). name_after s name) e in
        let same_slot : next_slot view chosen name ≡ slot = ap slot_after e in
        record {
          leads = e ∙ ap (λ (b : Bool). Leads b other) (sym same_slot) ∙ ap (Leads (next_slot view chosen name)) (sym same);
          later = ap (meaning_within view chosen steps) same
              ∙ passed_no_end slot other (meaning_within view chosen steps other) (sym (ap (at_end (meaning_within view chosen steps)) e) ∙ none);
        }
    go (Ends end) e =
        let is : end ≡ Err WeakCycle = sym (ap (at_end (meaning_within view chosen steps)) e) ∙ none in
        absurd (false≢true (sym (step_no_cycle view chosen name) ∙ ap is_cycle (e ∙ ap Ends is)))

-- so as many names in a row lead on as the steps that are made
all_lead : (view : LinkView) (chosen : List (List Bool)) (steps : ℕ) (name : List ℕ) → meaning_within view chosen steps name ≡ Err WeakCycle → (k : ℕ) → k < steps → step view chosen (nth_name view chosen k name) ≡ Leads (next_slot view chosen (nth_name view chosen k name)) (nth_name view chosen (suc k) name)
unfolding nth_name
all_lead view chosen zero name none k less = absurd (omega (arith, less))
all_lead view chosen (suc steps) name none zero less = (no_end view chosen steps name none).leads
all_lead view chosen (suc steps) name none (suc k) less =
    all_lead view chosen steps (next_name view chosen name) (no_end view chosen steps name none).later k (omega (arith, less))

abbrev is_name : List ℕ → List ℕ → Bool
is_name name other = same_name other name

is_itself : (name : List ℕ) → is_name name name ≡ true
is_itself name = (bytes_eq-Decides name name).1 refl

-- ---- lists that have something

any_joined : {X Y : Type 0} (f : X → List Y) (test : X → Bool) (other : Y → Bool) (xs : List X) → list_any test xs ≡ true → ((x : X) → test x ≡ true → list_any other (f x) ≡ true) → list_any other (flat_map f xs) ≡ true
any_joined f test other [] any each = absurd (false≢true any)
any_joined f test other (x ∷ xs) any each =
    list_any-append other (f x) (flat_map f xs)
    ∙ elim (or_cases (test x) (list_any test xs) any) [
      | inl here ↦ or_left (list_any other (f x)) _ (each x here)
      | inr later ↦ or_right (list_any other (f x)) _ (any_joined f test other xs later each)
    ]

-- the name that what is found says is among those that all say
found_said : {X : Type 0} (f : X → Option (List ℕ)) (test : X → Bool) (xs : List X) (x : X) (name : List ℕ) → find test xs ≡ Some x → f x ≡ Some name → list_any (is_name name) (filter_map f xs) ≡ true
found_said f test [] x name found said = absurd cc
found_said {X} f test (y ∷ ys) x name found said = go (test y) found (λ later. found_said f test ys x name later said)
  where
    more : (o : Option (List ℕ)) → list_any (is_name name) (filter_map f ys) ≡ true → list_any (is_name name) (cons_option o (filter_map f ys)) ≡ true
    more None any = any
    more (Some z) any = or_right (is_name name z) _ any

    go : (b : Bool) → cond b (Some y) (find test ys) ≡ Some x → (find test ys ≡ Some x → list_any (is_name name) (filter_map f ys) ≡ true) → list_any (is_name name) (cons_option (f y) (filter_map f ys)) ≡ true
    go true found later =
        let here : y ≡ x = same_Some y x found in
        ap (λ (o : Option (List ℕ)). list_any (is_name name) (cons_option o (filter_map f ys))) (ap f here ∙ said)
        ∙ or_left (is_name name name) _ (is_itself name)
    go false found later = more (f y) (later found)

found_mapped : {X : Type 0} (f : X → List ℕ) (test : X → Bool) (xs : List X) (x : X) → find test xs ≡ Some x → list_any (is_name (f x)) (map f xs) ≡ true
found_mapped f test [] x found = absurd cc
found_mapped {X} f test (y ∷ ys) x found = go (test y) found (λ later. found_mapped f test ys x later)
  where
    go : (b : Bool) → cond b (Some y) (find test ys) ≡ Some x → (find test ys ≡ Some x → list_any (is_name (f x)) (map f ys) ≡ true) → list_any (is_name (f x)) (map f (y ∷ ys)) ≡ true
    go true found later = or_left (is_name (f x) (f y)) _ (ap (λ (z : X). is_name (f x) (f z)) (same_Some y x found) ∙ is_itself (f x))
    go false found later = or_right (is_name (f x) (f y)) _ (later found)

-- ---- where a name leads

-- to one that a weak external or an alternate leads to, or to what is left behind the prefix
abbrev Goes : LinkView → List ℕ → List ℕ → Type 0
Goes view name other =
    (list_any (is_name other) (led_to view) ≡ true) ⊎ ((begins_import name ≡ true) × (other ≡ behind_import name))

goes_where : (view : LinkView) (chosen : List (List Bool)) (name : List ℕ) (slot : Bool) (other : List ℕ) → step view chosen name ≡ Leads slot other → Goes view name other
unfolding step
goes_where view chosen name slot other leads =
    by_parts (own_meaning view.modules chosen name) (weak_named view.modules name) refl (alternate_named view name) refl leads
  where
    said : List (List ℕ)
    said = filter_map default_name (all_weaks view.modules)

    rights : List (List ℕ)
    rights = map (λ (pair : List ℕ × List ℕ). pair.1) (all_alternates view)

    name_is : (one : Bool) (first : List ℕ) → Leads one first ≡ Leads slot other → first ≡ other
    name_is one first e = ap (λ (s : Step). name_after s other) e

    by_default : (entry : Said) → weak_named view.modules name ≡ Some entry → (d : WeakDefault) → entry.default ≡ d → default_step chosen entry.«module» d ≡ Leads slot other → Goes view name other
    by_default entry found (default.Name first) is e =
        inl (list_any-append (is_name other) said rights
        ∙ or_left (list_any (is_name other) said) _ (found_said default_name (says name) (all_weaks view.modules) entry other found (ap name_said is ∙ ap Some (name_is false first e))))
    by_default entry found (default.Place section value) is e = absurd cc
    by_default entry found (default.Absolute value) is e = absurd cc
    by_default entry found default.Nothing is e = absurd cc

    by_itself : (b : Bool) → begins_import name ≡ b → cond b (Leads true (behind_import name)) (Ends (Err Undefined)) ≡ Leads slot other → Goes view name other
    by_itself true begins e = inr (begins, sym (name_is true (behind_import name) e))
    by_itself false begins e = absurd cc

    by_parts : (own : Option Meaning) (weak : Option Said) → weak_named view.modules name ≡ weak → (pair : Option (List ℕ × List ℕ)) → alternate_named view name ≡ pair → own_or own (weak_step chosen weak (alternate_step name pair)) ≡ Leads slot other → Goes view name other
    by_parts (Some meant) weak found pair also e = absurd cc
    by_parts None (Some entry) found pair also e = by_default entry found entry.default refl e
    by_parts None None found (Some pair) also e =
        inl (list_any-append (is_name other) said rights
        ∙ or_right (list_any (is_name other) said) _
        (ap (λ (n : List ℕ). list_any (is_name n) rights) (sym (name_is false pair.1 e)) ∙ found_mapped (λ (p : List ℕ × List ℕ). p.1) (is_left name) (all_alternates view) pair also))
    by_parts None None found None also e = by_itself (begins_import name) refl e

-- ---- the names ahead

-- a name is what is left of one of some texts
record IsTail (texts : List (List ℕ)) (name : List ℕ) : Type 0 where
  text : List ℕ
  cut : ℕ
  among : list_any (is_name text) texts ≡ true
  within : cut ≤ length text
  is : name ≡ drop cut text

pub begins_long : (name : List ℕ) → begins_import name ≡ true → 6 ≤ length name
begins_long name begins =
    let is : take 6 name ≡ import_prefix = (bytes_eq-Decides (take 6 name) import_prefix).0 begins in
    omega (arith, length-take 6 name, ap length is)

pub behind_is : (name : List ℕ) → begins_import name ≡ true → behind_import name ≡ drop 6 name
behind_is name begins = ap (λ (b : Bool). cond b (drop 6 name) name) begins

-- a name that is led to is one of those ahead
tail_goes : (view : LinkView) (start name other : List ℕ) → IsTail (start ∷ led_to view) name → Goes view name other → IsTail (start ∷ led_to view) other
tail_goes view start name other tail (inl among) = record {
  text = other;
  cut = 0;
  among = or_right (is_name other start) _ among;
  within = omega arith;
  is = refl;
}
tail_goes view start name other tail (inr parts) = record {
  text = tail.text;
  cut = tail.cut + 6;
  among = tail.among;
  within = omega (arith, tail.within, begins_long name parts.0, ap length tail.is, length-drop tail.cut tail.text);
  is = parts.1 ∙ behind_is name parts.0 ∙ ap (drop 6) tail.is ∙ drop-drop 6 tail.cut tail.text;
}

nth_tail : (view : LinkView) (chosen : List (List Bool)) (start name : List ℕ) (steps : ℕ) → IsTail (start ∷ led_to view) name → ((k : ℕ) → k < steps → step view chosen (nth_name view chosen k name) ≡ Leads (next_slot view chosen (nth_name view chosen k name)) (nth_name view chosen (suc k) name)) → IsTail (start ∷ led_to view) (nth_name view chosen steps name)
unfolding nth_name
nth_tail view chosen start name zero tail lead = tail
nth_tail view chosen start name (suc steps) tail lead =
    nth_tail view chosen start (next_name view chosen name) steps
    (tail_goes view start name (next_name view chosen name) tail (goes_where view chosen name (next_slot view chosen name) (next_name view chosen name) (lead 0 (omega arith))))
    (λ k less. lead (suc k) (omega (arith, less)))

tail_ahead : (view : LinkView) (start name : List ℕ) → IsTail (start ∷ led_to view) name → list_any (is_name name) (names_ahead view start) ≡ true
tail_ahead view start name tail =
    any_joined tails_of (is_name tail.text) (is_name name) (start ∷ led_to view) tail.among (λ text same.
    let is_text : tail.text ≡ text = sym ((bytes_eq-Decides text tail.text).0 same) in
    let count = length text + 1 in
    let cut : tail.cut < count = omega (arith, tail.within, ap length is_text) in
    let tails = map (λ (k : ℕ). drop k text) (range_with_len 0 count) in
    list_any_at (is_name name) tails tail.cut name (omega (arith, cut, length-map-range_with_len (λ (k : ℕ). drop k text) 0 count))
    (ap (is_name name) (get_or-map-range_with_len (λ (k : ℕ). drop k text) 0 count tail.cut tail.cut name cut (omega arith) ∙ ap (drop tail.cut) (sym is_text) ∙ sym tail.is) ∙ is_itself name))

-- each has a place among them
place_of : List (List ℕ) → List ℕ → ℕ
place_of names name = position_or_len (is_name name) names

found_if_any : {X : Type 0} (test : X → Bool) (xs : List X) → list_any test xs ≡ true → is_some (find test xs) ≡ true
found_if_any test [] any = absurd (false≢true any)
found_if_any {X} test (x ∷ xs) any = go (test x) any (found_if_any test xs)
  where
    go : (b : Bool) → (b || list_any test xs) ≡ true → (list_any test xs ≡ true → is_some (find test xs) ≡ true) → is_some (cond b (Some x) (find test xs)) ≡ true
    go true any later = refl
    go false any later = later any

found_passes : (name : List ℕ) (names : List (List ℕ)) (one : List ℕ) → find (is_name name) names ≡ Some one → one ≡ name
found_passes name [] one e = absurd cc
found_passes name (first ∷ rest) one e = go (found_passes name rest one) (same_name first name) refl e
  where
    go : (find (is_name name) rest ≡ Some one → one ≡ name) → (b : Bool) → same_name first name ≡ b → cond b (Some first) (find (is_name name) rest) ≡ Some one → one ≡ name
    go later true passes e = sym (same_Some first one e) ∙ (bytes_eq-Decides first name).0 passes
    go later false fails e = later e

stands_at : (names : List (List ℕ)) (name : List ℕ) → list_any (is_name name) names ≡ true → slice_get names (place_of names name) ≡ Some name
unfolding place_of
stands_at names name any = sym (find_at (is_name name) names) ∙ go (find (is_name name) names) refl (found_if_any (is_name name) names any)
  where
    go : (found : Option (List ℕ)) → find (is_name name) names ≡ found → is_some found ≡ true → find (is_name name) names ≡ Some name
    go None e some = absurd (false≢true some)
    go (Some one) e some = e ∙ ap Some (found_passes name names one e)

-- ---- a name that comes twice

-- a chain that comes back to a name has no end within any number of steps
endless : (view : LinkView) (chosen : List (List Bool)) (name : List ℕ) (early late : ℕ) → early < late → nth_name view chosen early name ≡ nth_name view chosen late name → ((k : ℕ) → k < late → step view chosen (nth_name view chosen k name) ≡ Leads (next_slot view chosen (nth_name view chosen k name)) (nth_name view chosen (suc k) name)) → (steps k : ℕ) → k < late → meaning_within view chosen steps (nth_name view chosen k name) ≡ Err WeakCycle
unfolding meaning_within
endless view chosen name early late apart same lead zero k less = refl
endless view chosen name early late apart same lead (suc steps) k less =
    let slot = next_slot view chosen (nth_name view chosen k name) in
    let later = nth_name view chosen (suc k) name in
    let none : meaning_within view chosen steps later ≡ Err WeakCycle = elim (cases_eq (suc k) late) [
      | inl back ↦
          ap (λ (k : ℕ). meaning_within view chosen steps (nth_name view chosen k name)) back
          ∙ ap (meaning_within view chosen steps) (sym same)
          ∙ endless view chosen name early late apart same lead steps early apart
      | inr on ↦ endless view chosen name early late apart same lead steps (suc k) (omega (arith, less, on))
    ] in
    ap (at_end (meaning_within view chosen steps)) (lead k less)
    ∙ ap (passed_on slot later) none
    ∙ passed_cycle slot later

-- so has one that has not ended after one step more than there are names ahead
never_ends : (view : LinkView) (chosen : List (List Bool)) (name : List ℕ) → meaning_within view chosen (suc (length (names_ahead view name))) name ≡ Err WeakCycle → (steps : ℕ) → meaning_within view chosen steps name ≡ Err WeakCycle
unfolding nth_name
never_ends view chosen name none steps =
    let ahead = names_ahead view name in
    let count = length ahead in
    let lead = all_lead view chosen (suc count) name none in
    let nth = λ (k : ℕ). nth_name view chosen k name in
    let place = λ (k : ℕ). place_of ahead (nth k) in
    let start : IsTail (name ∷ led_to view) name = record { text = name; cut = 0; among = or_left (is_name name name) _ (is_itself name); within = omega arith; is = refl } in
    let there = λ (k : ℕ) (le : k ≤ count). stands_at ahead (nth k) (tail_ahead view name (nth k) (nth_tail view chosen name name k start (λ j less. lead j (omega (arith, less, le))))) in
    let met = pigeon place count (λ k le. slice_get_within ahead (place k) (nth k) (there k le)) in
    let same : nth met.first ≡ nth met.other =
    same_Some (nth met.first) (nth met.other) (sym (there met.first (omega (arith, met.apart, met.within))) ∙ ap (slice_get ahead) met.same ∙ there met.other (omega (arith, met.within))) in
    endless view chosen name met.first met.other met.apart same (λ k less. lead k (omega (arith, less, met.within))) steps 0 (omega (arith, met.apart))

-- ---- a chain that has ended has ended at every later step

kept : (view : LinkView) (chosen : List (List Bool)) (steps more : ℕ) (name : List ℕ) → steps ≤ more → (meaning_within view chosen steps name ≡ Err WeakCycle → ⊥) → meaning_within view chosen more name ≡ meaning_within view chosen steps name
unfolding meaning_within
kept view chosen zero more name le ends = absurd (ends refl)
kept view chosen (suc steps) zero name le ends = absurd (omega (arith, le))
kept view chosen (suc steps) (suc more) name le ends = go (λ other. kept view chosen steps more other (omega (arith, le))) (step view chosen name) ends
  where
    go : ((other : List ℕ) → (meaning_within view chosen steps other ≡ Err WeakCycle → ⊥) → meaning_within view chosen more other ≡ meaning_within view chosen steps other) → (made : Step) → (at_end (meaning_within view chosen steps) made ≡ Err WeakCycle → ⊥) → at_end (meaning_within view chosen more) made ≡ at_end (meaning_within view chosen steps) made
    go later (Ends end) ends = refl
    go later (Leads slot other) ends =
        ap (passed_on slot other) (later other (λ none. ends (ap (passed_on slot other) none ∙ passed_cycle slot other)))

-- ---- the law

abbrev is_no_end : Result Meaning NoMeaning → Bool
is_no_end (Ok meaning) = false
is_no_end (Err Undefined) = false
is_no_end (Err WeakCycle) = true

no_end_is : (end : Result Meaning NoMeaning) → is_no_end end ≡ true → end ≡ Err WeakCycle
no_end_is (Ok meaning) e = absurd (false≢true e)
no_end_is (Err Undefined) e = absurd (false≢true e)
no_end_is (Err WeakCycle) e = refl

-- the end that a chain settles at is what its name means
pub settles_means : (view : LinkView) (chosen : List (List Bool)) (name : List ℕ) (end : Result Meaning NoMeaning) → Settles view chosen name end → meaning_of view chosen name ≡ end
unfolding meaning_of
settles_means view chosen name end settles =
    ap (λ (n : ℕ). meaning_within view chosen n name) (add-one count) ∙ go (is_no_end (meaning_within view chosen (suc count) name)) refl
  where
    count : ℕ
    count = length (names_ahead view name)

    go : (b : Bool) → is_no_end (meaning_within view chosen (suc count) name) ≡ b → meaning_within view chosen (suc count) name ≡ end
    go true e =
        let none = no_end_is (meaning_within view chosen (suc count) name) e in
        none ∙ sym (never_ends view chosen name none (suc settles.steps)) ∙ settles.stays (suc settles.steps) (omega arith)
    go false e =
        let much = suc count + suc settles.steps in
        sym (kept view chosen (suc count) much name (omega arith) (λ none. false≢true (sym e ∙ ap is_no_end none)))
        ∙ settles.stays much (omega arith)

-- and each chain settles at it
pub means_settles : (view : LinkView) (chosen : List (List Bool)) (name : List ℕ) → Settles view chosen name (meaning_of view chosen name)
unfolding meaning_of
means_settles view chosen name = go (is_no_end (meaning_within view chosen (suc count) name)) refl
  where
    count : ℕ
    count = length (names_ahead view name)

    same : meaning_within view chosen (count + 1) name ≡ meaning_within view chosen (suc count) name
    same = ap (λ (n : ℕ). meaning_within view chosen n name) (add-one count)

    go : (b : Bool) → is_no_end (meaning_within view chosen (suc count) name) ≡ b → Settles view chosen name (meaning_within view chosen (count + 1) name)
    go true e =
        let none = no_end_is (meaning_within view chosen (suc count) name) e in
        record { steps = 0; stays = λ more less. never_ends view chosen name none more ∙ sym (same ∙ none) }
    go false e =
        record { steps = count; stays = λ more less. kept view chosen (suc count) more name (omega (arith, less)) (λ none. false≢true (sym e ∙ ap is_no_end none)) ∙ sym same }
