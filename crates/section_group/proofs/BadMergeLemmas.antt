-- A merge is bad exactly where a test says so.
use Rattle.std.proofs.Common.{◌≡◌, ◌≢◌, ℕ, zero, suc, ◌+◌, ◌*◌, ◌<◌, ◌≤◌, ◌-◌, Bool, true, false, cond, not, ◌||◌, List, [], ◌∷◌, length, get_or, Option, Some, None, is_some, IsSome, unwrap_or, refl, sym, ap, ◌∙◌, subst, inl, inr, arith}
use Rattle.std.proofs.lemmas.Option.{same_Some, none-some}
use Rattle.std.specs.Option.{option_map_or}
use Rattle.std.specs.List.{position_or_len}
use Rattle.std.specs.Map.{lookup, keys_of}
use Rattle.std.proofs.lemmas.Bool.{false≢true, true≢false, or_parts, or_cases, not-true, not-false}
use Rattle.std.proofs.lemmas.List.Sums.{passes_at_first}
use Rattle.std.proofs.lemmas.Map.Entries.{length-keys_of}
use Rattle.link_base.proofs.NameTextLemmas.{same_is, same_refl}
use Rattle.link_base.proofs.NumberLemmas.{far_enough}
use Rattle.section_group.specs.Merging.{target, led, next_name, all_merges, preset_merges, same_name, merge_at, final_name, names_reserved, ComesBack, HasOtherTarget, IsBadMerge, HasNoBadMerge}
use Rattle.section_group.specs.Chains.{target_among, leads_elsewhere, goes_on, fails}
use Rattle.std.specs.Option.{option_or}
use Rattle.section_group.proofs.ChainLemmas.{target_among-append, led-add}
use Rattle.link_base.proofs.PigeonLemmas.{pigeon}

some_there : (o : Option (List ℕ)) → is_some o ≡ true → IsSome o
some_there None e = absurd (false≢true e)
some_there (Some x) e = refl

-- ---- the end of a chain

step_none : (o : Option (List ℕ)) (name : List ℕ) → is_some o ≡ false → unwrap_or o name ≡ name
step_none None name e = refl
step_none (Some x) name e = absurd (true≢false e)

-- at its end a chain stays
stays_at_end : (given : List (List ℕ × List ℕ)) (n : ℕ) (name : List ℕ) → is_some (target given name) ≡ false → led given n name ≡ name
unfolding led
stays_at_end given zero name ended = refl
stays_at_end given (suc n) name ended =
    ap (next_name given) (stays_at_end given n name ended) ∙ step_none (target given name) name ended

-- a chain that has ended has ended at every later step, in the same name
pub ended_later : (given : List (List ℕ × List ℕ)) (a b : ℕ) (name : List ℕ) → a ≤ b → goes_on given a name ≡ false → led given b name ≡ led given a name
ended_later given a b name le ended =
    let parts : b ≡ a + (b - a) = omega arith in
    ap (λ (n : ℕ). led given n name) parts ∙ led-add given a (b - a) name
    ∙ stays_at_end given (b - a) (led given a name) ended

-- a chain that goes on has gone on at every earlier step
went_on : (given : List (List ℕ × List ℕ)) (a b : ℕ) (name : List ℕ) → a ≤ b → goes_on given b name ≡ true → goes_on given a name ≡ true
went_on given a b name le on = go (goes_on given a name) refl
  where
    go : (t : Bool) → goes_on given a name ≡ t → t ≡ true
    go true e = refl
    go false e = sym e ∙ ap (λ (x : List ℕ). is_some (target given x)) (sym (ended_later given a b name le e)) ∙ on

-- ---- a chain that goes on for long comes back

lookup_passes : (t : List ℕ → Bool) (es : List (List ℕ × List ℕ)) → is_some (lookup t es) ≡ true → position_or_len t (keys_of es) < length es
lookup_passes t [] e = absurd (false≢true e)
lookup_passes t (x ∷ es) e = go (t x.0) e (λ h. lookup_passes t es h)
  where
    go : (b : Bool) → is_some (cond b (Some x.1) (lookup t es)) ≡ true → (is_some (lookup t es) ≡ true → position_or_len t (keys_of es) < length es) → cond (not b) (1 + position_or_len t (keys_of es)) 0 < suc (length es)
    go true h below = omega arith
    go false h below = omega (arith, below h)

place_of : List (List ℕ × List ℕ) → List ℕ → ℕ → ℕ
place_of given name n = position_or_len (same_name (led given n name)) (keys_of (all_merges given))

name_at_place : (given : List (List ℕ × List ℕ)) (name : List ℕ) (n : ℕ) → place_of given name n < length (all_merges given) → led given n name ≡ get_or (keys_of (all_merges given)) (place_of given name n) []
unfolding place_of
name_at_place given name n lt =
    let keys = keys_of (all_merges given) in
    let x = led given n name in
    let p = position_or_len (same_name x) keys in
    let in' : p < length keys = omega (arith, length-keys_of (all_merges given)) in
    same_is x (get_or keys p []) (passes_at_first (same_name x) keys [] in')

place_fits : (given : List (List ℕ × List ℕ)) (name : List ℕ) (n : ℕ) → goes_on given n name ≡ true → place_of given name n < length (all_merges given)
unfolding place_of target
place_fits given name n on = lookup_passes (same_name (led given n name)) (all_merges given) on

pub comes_back : (given : List (List ℕ × List ℕ)) (steps : ℕ) (name : List ℕ) → length (all_merges given) ≤ steps → goes_on given steps name ≡ true → ComesBack given name
comes_back given steps name far on =
    let on_at = λ (k : ℕ) (le : k ≤ steps). went_on given k steps name le on in
    let place = place_of given name in
    let met = pigeon place (length (all_merges given)) (λ k le. place_fits given name k (on_at k (omega arith))) in
    let at = λ (k : ℕ) (le : k ≤ steps). name_at_place given name k (place_fits given name k (on_at k le)) in
    record {
      early = met.first;
      late = met.other;
      apart = met.apart;
      goes_on = some_there (target given (led given met.first name)) (on_at met.first (omega (arith, met.apart, met.within)));
      again = at met.other (omega (arith, met.within)) ∙ ap (λ (p : ℕ). get_or (keys_of (all_merges given)) p []) (sym met.same) ∙ sym (at met.first (omega (arith, met.apart, met.within)));
    }

-- ---- a chain that comes back does not end

round : (given : List (List ℕ × List ℕ)) (name : List ℕ) (early gap : ℕ) → led given (early + gap) name ≡ led given early name → (turns : ℕ) → led given (early + turns * gap) name ≡ led given early name
round given name early gap again zero = ap (λ (n : ℕ). led given n name) (omega arith)
round given name early gap again (suc turns) =
    let more : early + suc turns * gap ≡ (early + turns * gap) + gap = omega arith in
    ap (λ (n : ℕ). led given n name) more ∙ led-add given (early + turns * gap) gap name
    ∙ ap (led given gap) (round given name early gap again turns) ∙ sym (led-add given early gap name) ∙ again

there_is : (o : Option (List ℕ)) → IsSome o → is_some o ≡ true
there_is None h = h
there_is (Some x) h = refl

pub endless : (given : List (List ℕ × List ℕ)) (name : List ℕ) → ComesBack given name → (n : ℕ) → goes_on given n name ≡ true
endless given name back n = go (goes_on given n name) refl
  where
    go : (t : Bool) → goes_on given n name ≡ t → t ≡ true
    go true e = refl
    go false e =
        let gap = back.late - back.early in
        let whole : back.early + gap ≡ back.late = omega (arith, back.apart) in
        let again = round given name back.early gap (ap (λ (k : ℕ). led given k name) whole ∙ back.again) n in
        let late : n ≤ back.early + n * gap = omega (arith, far_enough n gap (omega (arith, back.apart))) in
        let same : led given back.early name ≡ led given n name = sym again ∙ ended_later given n (back.early + n * gap) name late e in
        sym e ∙ ap (λ (x : List ℕ). is_some (target given x)) (sym same) ∙ there_is (target given (led given back.early name)) back.goes_on

-- ---- the first merge of a name

-- a merge has a first merge of its name, at or before it
record FirstOf (merges : List (List ℕ × List ℕ)) (k : ℕ) : Type 0 where
  at : ℕ
  not_after : at ≤ k
  same : (get_or merges at ([], [])).0 ≡ (get_or merges k ([], [])).0
  leads : target_among merges (get_or merges k ([], [])).0 ≡ Some (get_or merges at ([], [])).1

first_of_name : (merges : List (List ℕ × List ℕ)) (k : ℕ) → k < length merges → FirstOf merges k
first_of_name [] k lt = absurd (omega arith)
first_of_name (m ∷ ms) zero lt =
    record { at = 0; not_after = omega arith; same = refl; leads = ap (λ (b : Bool). cond b (Some m.1) (target_among ms m.0)) (same_refl m.0) }
first_of_name (m ∷ ms) (suc k) lt = go (same_name (get_or ms k ([], [])).0 m.0) refl (first_of_name ms k (omega arith))
  where
    name : List ℕ
    name = (get_or ms k ([], [])).0

    go : (b : Bool) → same_name (get_or ms k ([], [])).0 m.0 ≡ b → FirstOf ms k → FirstOf (m ∷ ms) (suc k)
    go true e rest =
        record { at = 0; not_after = omega arith; same = sym (same_is (get_or ms k ([], [])).0 m.0 e); leads = ap (λ (b : Bool). cond b (Some m.1) (target_among ms (get_or ms k ([], [])).0)) e }
    go false e rest =
        record {
          at = suc rest.at;
          not_after = omega (arith, rest.not_after);
          same = rest.same;
          leads = ap (λ (b : Bool). cond b (Some m.1) (target_among ms (get_or ms k ([], [])).0)) e ∙ rest.leads;
        }

given_first : (given : List (List ℕ × List ℕ)) (name x : List ℕ) → target_among given name ≡ Some x → target given name ≡ Some x
unfolding target
given_first given name x e =
    target_among-append given preset_merges name ∙ ap (λ (o : Option (List ℕ)). option_or o (target_among preset_merges name)) e

target_of : (given : List (List ℕ × List ℕ)) (k : ℕ) (lt : k < length given) → target given (merge_at given k).0 ≡ Some (merge_at given (first_of_name given k lt).at).1
target_of given k lt = given_first given (merge_at given k).0 _ (first_of_name given k lt).leads

-- ---- the tests

-- the test of the target at a merge, by the first merge of its name
elsewhere_at : (given : List (List ℕ × List ℕ)) (k : ℕ) (lt : k < length given) → leads_elsewhere given (merge_at given k) ≡ not (same_name (merge_at given k).1 (merge_at given (first_of_name given k lt).at).1)
elsewhere_at given k lt = ap (λ (o : Option (List ℕ)). not (option_map_or (same_name (merge_at given k).1) o false)) (target_of given k lt)

other_target : (given : List (List ℕ × List ℕ)) (k : ℕ) → k < length given → leads_elsewhere given (merge_at given k) ≡ true → HasOtherTarget given k
other_target given k lt other =
    let f = first_of_name given k lt in
    let differ = not-true (same_name (merge_at given k).1 (merge_at given f.at).1) (sym (elsewhere_at given k lt) ∙ other) in
    let apart : f.at ≢ k = λ (e : f.at ≡ k). false≢true (sym differ ∙ ap (λ (j : ℕ). same_name (merge_at given k).1 (merge_at given j).1) e ∙ same_refl (merge_at given k).1) in
    record {
      earlier = f.at;
      before = omega (arith, f.not_after, apart);
      same = f.same;
      other = λ e. false≢true (sym differ ∙ ap (same_name (merge_at given k).1) e ∙ same_refl (merge_at given k).1);
    }

same_right : (given : List (List ℕ × List ℕ)) (k : ℕ) (lt : k < length given) → leads_elsewhere given (merge_at given k) ≡ false → target given (merge_at given k).0 ≡ Some (merge_at given k).1
same_right given k lt passed =
    let r = (merge_at given (first_of_name given k lt).at).1 in
    let equal = same_is (merge_at given k).1 r (not-false (same_name (merge_at given k).1 r) (sym (elsewhere_at given k lt) ∙ passed)) in
    target_of given k lt ∙ ap Some (sym equal)

same_targets : (given : List (List ℕ × List ℕ)) (j k : ℕ) → j < length given → k < length given → leads_elsewhere given (merge_at given j) ≡ false → leads_elsewhere given (merge_at given k) ≡ false → (merge_at given j).0 ≡ (merge_at given k).0 → (merge_at given j).1 ≡ (merge_at given k).1
same_targets given j k lt lt' pass pass' same =
    same_Some _ _ (sym (same_right given j lt pass) ∙ ap (target given) same ∙ same_right given k lt' pass')

-- a merge that fails a test is bad
pub failed_is_bad : (given : List (List ℕ × List ℕ)) (steps k : ℕ) → k < length given → length (all_merges given) ≤ steps → fails given steps (merge_at given k) ≡ true → IsBadMerge given k
failed_is_bad given steps k lt far e =
    let m = merge_at given k in
    elim (or_cases (leads_elsewhere given m) (goes_on given steps m.0 || names_reserved m) e) [
      | inl other ↦ inl (other_target given k lt other)
      | inr more ↦ inr (elim (or_cases (goes_on given steps m.0) (names_reserved m) more) [
        | inl on ↦ inl (comes_back given steps m.0 far on)
        | inr reserved ↦ inr reserved
      ])
    ]

-- where no merge up to one fails a test, that one is not bad
pub passed_is_not_bad : (given : List (List ℕ × List ℕ)) (steps k : ℕ) → k < length given → ((j : ℕ) → j ≤ k → fails given steps (merge_at given j) ≡ false) → ¬ IsBadMerge given k
passed_is_not_bad given steps k lt passed bad =
    let m = merge_at given k in
    let tests = λ (j : ℕ) (le : j ≤ k). or_parts (leads_elsewhere given (merge_at given j)) (goes_on given steps (merge_at given j).0 || names_reserved (merge_at given j)) (passed j le) in
    let more = or_parts (goes_on given steps m.0) (names_reserved m) (tests k (omega arith)).1 in
    elim bad [
      | inl conflict ↦ conflict.other (same_targets given conflict.earlier k (omega (arith, conflict.before, lt)) lt (tests conflict.earlier (omega (arith, conflict.before))).0 (tests k (omega arith)).0 conflict.same)
      | inr rest ↦ elim rest [
        | inl back ↦ false≢true (sym more.0 ∙ endless given m.0 back steps)
        | inr reserved ↦ false≢true (sym more.1 ∙ reserved)
      ]
    ]

-- ---- where no merge is bad, no chain comes back

given_at : (merges : List (List ℕ × List ℕ)) (name : List ℕ) → is_some (target_among merges name) ≡ true → (k : ℕ) × (k < length merges) × ((get_or merges k ([], [])).0 ≡ name)
given_at [] name e = absurd (false≢true e)
given_at (m ∷ ms) name e = go (same_name name m.0) refl e (given_at ms name)
  where
    go : (b : Bool) → same_name name m.0 ≡ b → is_some (cond b (Some m.1) (target_among ms name)) ≡ true → (is_some (target_among ms name) ≡ true → (k : ℕ) × (k < length ms) × ((get_or ms k ([], [])).0 ≡ name)) → (k : ℕ) × (k < suc (length ms)) × ((get_or (m ∷ ms) k ([], [])).0 ≡ name)
    go true is h rest = (0, omega arith, sym (same_is name m.0 is))
    go false is h rest = let found = rest h in (suc found.0, omega (arith, found.1), found.2)

next_back : (given : List (List ℕ × List ℕ)) (name : List ℕ) → ComesBack given name → ComesBack given (next_name given name)
unfolding led
next_back given name back =
    let shift = λ (n : ℕ). led-add given 1 n name in
    let on = λ (n : ℕ). endless given name back (1 + n) in
    let after = λ (n : ℕ). let more : 1 + n ≡ suc n = omega arith in sym (shift n) ∙ ap (λ (k : ℕ). led given k name) more in
    record {
      early = back.early;
      late = back.late;
      apart = back.apart;
      goes_on = some_there (target given (led given back.early (next_name given name))) (ap (λ (x : List ℕ). is_some (target given x)) (sym (shift back.early)) ∙ on back.early);
      again = after back.late ∙ ap (next_name given) back.again ∙ sym (after back.early);
    }

-- no preset leads to a name that a preset leads on from
abbrev AllEnd : List (List ℕ × List ℕ) → Type 0
AllEnd [] = Unit {0}
AllEnd (m ∷ ms) = (is_some (target_among preset_merges m.1) ≡ false) × AllEnd ms

presets_end : AllEnd preset_merges
unfolding preset_merges
presets_end = (refl, (refl, (refl, (refl, (refl, tt)))))

end_of : (ms : List (List ℕ × List ℕ)) (name y : List ℕ) → AllEnd ms → target_among ms name ≡ Some y → is_some (target_among preset_merges y) ≡ false
end_of [] name y ends e = absurd (none-some _ e)
end_of (m ∷ ms) name y ends e = go (same_name name m.0) e (end_of ms name y ends.1)
  where
    go : (b : Bool) → cond b (Some m.1) (target_among ms name) ≡ Some y → (target_among ms name ≡ Some y → is_some (target_among preset_merges y) ≡ false) → is_some (target_among preset_merges y) ≡ false
    go true h rest = ap (λ (x : List ℕ). is_some (target_among preset_merges x)) (sym (same_Some _ _ h)) ∙ ends.0
    go false h rest = rest h

target_is : (given : List (List ℕ × List ℕ)) (name : List ℕ) → target given name ≡ option_or (target_among given name) (target_among preset_merges name)
unfolding target
target_is given name = target_among-append given preset_merges name

-- a name that a given merge leads on from
given_back : (given : List (List ℕ × List ℕ)) (name : List ℕ) → HasNoBadMerge given → ComesBack given name → is_some (target_among given name) ≡ true → ⊥
given_back given name good back e =
    let found = given_at given name e in
    good found.0 found.1 (inr (inl (subst (ComesBack given) (sym found.2) back)))

goes_on_now : (given : List (List ℕ × List ℕ)) (name : List ℕ) → ComesBack given name → is_some (option_or (target_among given name) (target_among preset_merges name)) ≡ true
unfolding led
goes_on_now given name back = ap is_some (sym (target_is given name)) ∙ endless given name back 0

by_preset : (given : List (List ℕ × List ℕ)) (name y : List ℕ) → HasNoBadMerge given → ComesBack given name → target given name ≡ Some y → target_among preset_merges name ≡ Some y → ⊥
by_preset given name y good back leads preset =
    let there = subst (ComesBack given) (ap (λ (o : Option (List ℕ)). unwrap_or o name) leads) (next_back given name back) in
    given_back given y good there (second (target_among given y) (target_among preset_merges y) (end_of preset_merges name y presets_end preset) (goes_on_now given y there))
  where
    second : (o p : Option (List ℕ)) → is_some p ≡ false → is_some (option_or o p) ≡ true → is_some o ≡ true
    second None p e h = absurd (false≢true (sym e ∙ h))
    second (Some x) p e h = refl

pub no_back : (given : List (List ℕ × List ℕ)) (name : List ℕ) → HasNoBadMerge given → ¬ ComesBack given name
no_back given name good back =
    go (target_among given name) (target_among preset_merges name) refl refl (goes_on_now given name back)
  where
    go : (o p : Option (List ℕ)) → target_among given name ≡ o → target_among preset_merges name ≡ p → is_some (option_or o p) ≡ true → ⊥
    go (Some x) p e f h = given_back given name good back (ap is_some e)
    go None None e f h = false≢true h
    go None (Some y) e f h = by_preset given name y good back (target_is given name ∙ ap (λ (q : Option (List ℕ)). option_or q (target_among preset_merges name)) e ∙ f) f

-- so the name that is far along a chain is the end
pub far_is_final : (given : List (List ℕ × List ℕ)) (steps : ℕ) (name : List ℕ) → length (all_merges given) ≤ steps → HasNoBadMerge given → led given steps name ≡ final_name given name
far_is_final given steps name far good = go (goes_on given (length (all_merges given)) name) refl
  where
    go : (b : Bool) → goes_on given (length (all_merges given)) name ≡ b → led given steps name ≡ final_name given name
    go true e = absurd (no_back given name good (comes_back given (length (all_merges given)) name (omega arith) e))
    go false e = ended_later given (length (all_merges given)) steps name far e
