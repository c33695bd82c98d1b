-- Following merges by the places of their names.
use Rattle.std.proofs.Common.{◌≡◌, ℕ, zero, suc, Bool, true, false, cond, not, ◌+◌, ◌*◌, ◌<◌, ◌≤◌, All, List, [], ◌∷◌, length, length-append, map, position, get_or, None, Result, Ok, Err, IfOk, sym, ap, subst, ◌∙◌, arith}
use Rattle.std.proofs.lemmas.List.{get_or_default, length-map, ext_get_or}
use Rattle.std.proofs.lemmas.List as list
use Rattle.std.proofs.lemmas.List.Elements.{All-get_or, All-from_get_or}
use Rattle.std.proofs.Math.ListN.{get_or-map}
use Rattle.std.proofs.Math.Nat.{mul-le-mul_left}
use Rattle.std.specs.List.{position_or_len}
use Rattle.std.specs.Map.{lookup, keys_of, values_of}
use Rattle.section_group.specs.declared.renames.Renames.{Renames}
use Rattle.section_group.specs.Merging.{led, preset_merges, same_name}
use Rattle.section_group.specs.Chains.{led_by, AreTargets, Leads, Follows}
use Rattle.section_group.specs.Places.{place_among, next_places, target_at, later_place, AreOwnPlaces, LeadsFar}
use Rattle.section_group.proofs.ChainLemmas.{leads_one, leads_twice, led-add, no_place}

most : (test : List ℕ → Bool) (keys : List (List ℕ)) → position_or_len test keys ≤ length keys
most test [] = omega arith
most test (key ∷ keys) = go (test key) (most test keys)
  where
    go : (b : Bool) → position_or_len test keys ≤ length keys → cond (not b) (1 + position_or_len test keys) 0 ≤ suc (length keys)
    go true h = omega arith
    go false h = omega (arith, h)

-- a name that is not found has the place behind all
pub past_all : (keys : List (List ℕ)) (name : List ℕ) (n : ℕ) → n ≡ length keys → None ≡ position (same_name name) keys → n ≡ position_or_len (same_name name) keys
past_all keys name n is none = omega (arith, no_place (position_or_len (same_name name) keys) (length keys) none, most (same_name name) keys)

length-nexts : (entries : List (List ℕ × List ℕ)) → length (next_places entries) ≡ length (values_of entries)
length-nexts entries = length-map (values_of entries) (place_among entries)

-- the targets at the own places are all targets
own_targets : (entries : List (List ℕ × List ℕ)) (places : List ℕ) → AreOwnPlaces (length (next_places entries)) places → map (target_at entries) places ≡ values_of entries
own_targets entries places own =
    let values = values_of entries in
    let n : length places ≡ length values = own.len ∙ length-nexts entries in
    ext_get_or [] (map (target_at entries) places) values (length-map places (target_at entries) ∙ n) (λ i lt.
    let in' : i < length places = omega (arith, length-map places (target_at entries)) in
    list.get_or-map (target_at entries) places i 0 [] in' ∙ ap (target_at entries) (own.own i (omega (arith, own.len))))

pub own_within : (count : ℕ) (places : List ℕ) → AreOwnPlaces count places → All (λ last. last < count) places
own_within count places own =
    All-from_get_or (λ last. last < count) places 0 (λ i lt. let in' : i < count = omega (arith, own.len) in subst (λ (n : ℕ). n < count) (sym (own.own i in')) in')

pub leads_own : (given entries : List (List ℕ × List ℕ)) (places : List ℕ) → AreTargets given entries → AreOwnPlaces (length (next_places entries)) places → Leads given 1 (keys_of entries) (map (target_at entries) places)
leads_own given entries places targets own name =
    ap (λ (ends : List (List ℕ)). led_by (keys_of entries) ends name) (own_targets entries places own) ∙ leads_one given entries targets name

-- a target of a later place is where the target of the last one leads
later_target : (entries : List (List ℕ × List ℕ)) (lasts : List ℕ) (last : ℕ) → last < length (next_places entries) → target_at entries (later_place (next_places entries) lasts last) ≡ led_by (keys_of entries) (map (target_at entries) lasts) (target_at entries last)
unfolding led_by
later_target entries lasts last lt =
    let within : last < length (values_of entries) = omega (arith, length-nexts entries) in
    let place = place_among entries (target_at entries last) in
    let next : get_or (next_places entries) last 0 ≡ place = list.get_or-map (place_among entries) (values_of entries) last [] 0 within in
    ap (λ (p : ℕ). target_at entries (get_or lasts p last)) next ∙ sym (get_or-map (target_at entries) lasts place last)

later_targets : (entries : List (List ℕ × List ℕ)) (all lasts : List ℕ) → All (λ last. last < length (next_places entries)) lasts → map (target_at entries) (map (later_place (next_places entries) all) lasts) ≡ map (led_by (keys_of entries) (map (target_at entries) all)) (map (target_at entries) lasts)
later_targets entries all lasts within =
    let f = later_place (next_places entries) all in
    let g = led_by (keys_of entries) (map (target_at entries) all) in
    let t = target_at entries in
    let left = length-map (map f lasts) t ∙ length-map lasts f in
    ext_get_or [] (map t (map f lasts)) (map g (map t lasts)) (left ∙ sym (length-map (map t lasts) g ∙ length-map lasts t)) (λ i lt.
    let in' : i < length lasts = omega (arith, left) in
    let at = All-get_or (λ last. last < length (next_places entries)) lasts i 0 in' within in
    list.get_or-map t (map f lasts) i 0 [] (omega (arith, length-map lasts f))
    ∙ ap t (list.get_or-map f lasts i 0 0 in')
    ∙ later_target entries all (get_or lasts i 0) at
    ∙ ap g (sym (list.get_or-map t lasts i 0 [] in'))
    ∙ sym (list.get_or-map g (map t lasts) i [] [] (omega (arith, length-map lasts t))))

-- a round leads twice as far
leads_later : (given entries : List (List ℕ × List ℕ)) (steps : ℕ) (lasts later : List ℕ) → later ≡ map (later_place (next_places entries) lasts) lasts → All (λ last. last < length (next_places entries)) lasts → Leads given steps (keys_of entries) (map (target_at entries) lasts) → Leads given (steps + steps) (keys_of entries) (map (target_at entries) later)
leads_later given entries steps lasts later is within leads =
    leads_twice given steps (keys_of entries) (map (target_at entries) lasts) (map (target_at entries) later)
    (ap (map (target_at entries)) is ∙ later_targets entries lasts lasts within) leads

pub leads_round : (given entries : List (List ℕ × List ℕ)) (steps : ℕ) (nexts lasts later : List ℕ) → nexts ≡ next_places entries → later ≡ map (later_place nexts lasts) lasts → All (λ last. last < length nexts) lasts → Leads given steps (keys_of entries) (map (target_at entries) lasts) → Leads given (steps + steps) (keys_of entries) (map (target_at entries) later)
leads_round given entries steps nexts lasts later is made within leads =
    leads_later given entries steps lasts later (made ∙ ap (λ (ns : List ℕ). map (later_place ns lasts) lasts) is) (subst (λ (ns : List ℕ). All (λ last. last < length ns) lasts) is within) leads

-- ends that stay as they are where the steps are twice as many stay so for ever
stays_led : (given : List (List ℕ × List ℕ)) (steps : ℕ) → ((name : List ℕ) → led given (steps + steps) name ≡ led given steps name) → (turns : ℕ) (name : List ℕ) → led given (turns * steps + steps) name ≡ led given steps name
stays_led given steps same zero name = ap (λ (n : ℕ). led given n name) (omega arith)
stays_led given steps same (suc turns) name =
    let more : suc turns * steps + steps ≡ (turns * steps + steps) + steps = omega arith in
    ap (λ (n : ℕ). led given n name) more ∙ led-add given (turns * steps + steps) steps name
    ∙ ap (led given steps) (stays_led given steps same turns name) ∙ sym (led-add given steps steps name) ∙ same name

far_enough : (n steps : ℕ) → 1 ≤ steps → n ≤ n * steps + steps
far_enough n steps pos = omega (arith, mul-le-mul_left n pos)

pub leads_far : (given entries : List (List ℕ × List ℕ)) (steps far : ℕ) (lasts : List ℕ) → 1 ≤ steps → Leads given steps (keys_of entries) (map (target_at entries) lasts) → Leads given (steps + steps) (keys_of entries) (map (target_at entries) lasts) → LeadsFar given entries far lasts
leads_far given entries steps far lasts pos once twice =
    record {
      steps = far * steps + steps;
      far = far_enough far steps pos;
      leads = λ name. once name ∙ sym (stays_led given steps (λ n. sym (twice n) ∙ once n) far name);
    }

-- so the targets at the last places are the ends of the chains
follows_far : (given entries led_entries : List (List ℕ × List ℕ)) (lasts : List ℕ) (ends : List (List ℕ)) → led_entries ≡ entries → ends ≡ map (target_at entries) lasts → AreTargets given entries → LeadsFar given entries (length given + 5) lasts → Follows given led_entries ends
unfolding preset_merges
follows_far given entries led_entries lasts ends same is targets led =
    record {
      steps = led.steps;
      far = omega (arith, length-append given preset_merges, led.far);
      targets = λ name. ap (λ (es : List (List ℕ × List ℕ)). lookup (same_name name) es) same ∙ targets name;
      leads = λ name. ap (λ (es : List (List ℕ × List ℕ)). led_by (keys_of es) ends name) same ∙ ap (λ (e : List (List ℕ)). led_by (keys_of entries) e name) is ∙ led.leads name;
    }

pub follows_made : {E : Type 0} (given entries : List (List ℕ × List ℕ)) (lasts : List ℕ) (made : Result Renames E) → IfOk made (λ r. r.targets.entries ≡ entries) → IfOk made (λ r. r.ends.items ≡ map (target_at entries) lasts) → AreTargets given entries → LeadsFar given entries (length given + 5) lasts → IfOk made (λ r. Follows given r.targets.entries r.ends.items)
follows_made given entries lasts (Ok r) same is targets led = follows_far given entries r.targets.entries lasts r.ends.items same is targets led
follows_made given entries lasts (Err e) same is targets led = tt
