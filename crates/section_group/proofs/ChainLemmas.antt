-- Following merges: look-ups, chains, and where chains come back.
use Rattle.std.proofs.Common.{◌≡◌, ℕ, zero, suc, ltb, not, map, position, unwrap_or, lt-ltb, le-ltb, ◌+◌, ◌<◌, ◌≤◌, Bool, true, false, cond, List, [], ◌∷◌, ◌++◌, length, take, get_or, Option, Some, None, refl, sym, ap, ◌∙◌, inl, inr, arith}
use Rattle.std.proofs.lemmas.Option.{same_Some}
use Rattle.std.proofs.lemmas.List.{take_more, get_or_default, get_or_past, length-map}
use Rattle.std.proofs.Math.ListN.{get_or-map}
use Rattle.std.proofs.Math.Numerals.{one-add}
use Rattle.std.specs.List.{position_or_len}
use Rattle.std.proofs.lemmas.Bool.{cases_lt}
use Rattle.std.specs.Map.{lookup, keys_of, values_of}
use Rattle.link_base.proofs.NameTextLemmas.{same_is, same_flip}
use Rattle.section_group.specs.Merging.{led, next_name, same_name}
use Rattle.section_group.specs.Merging.{same_name}
use Rattle.section_group.specs.Chains.{target_among, led_by, AreTargets, Leads}
use Rattle.std.specs.Option.{option_or}

or_else_cond : (b : Bool) (x : List ℕ) (o p : Option (List ℕ)) → option_or (cond b (Some x) o) p ≡ cond b (Some x) (option_or o p)
or_else_cond true x o p = refl
or_else_cond false x o p = refl

-- the first merge of the first list, or else of the second
pub target_among-append : (xs ys : List (List ℕ × List ℕ)) (q : List ℕ) → target_among (xs ++ ys) q ≡ option_or (target_among xs q) (target_among ys q)
target_among-append [] ys q = refl
target_among-append (x ∷ xs) ys q =
    ap (cond (same_name q x.0) (Some x.1)) (target_among-append xs ys q)
    ∙ sym (or_else_cond (same_name q x.0) x.1 (target_among xs q) (target_among ys q))

pub or_else_assoc : (a b c : Option (List ℕ)) → option_or (option_or a b) c ≡ option_or a (option_or b c)
or_else_assoc None b c = refl
or_else_assoc (Some x) b c = refl

-- ---- one more merge

more_targets : (merges : List (List ℕ × List ℕ)) (i : ℕ) (item : List ℕ × List ℕ) (q : List ℕ) → i < length merges → item ≡ get_or merges i item → target_among (take (i + 1) merges) q ≡ option_or (target_among (take i merges) q) (cond (same_name q item.0) (Some item.1) None)
more_targets merges i item q lt is =
    ap (λ (t : List (List ℕ × List ℕ)). target_among t q) (take_more merges i item lt ∙ ap (λ (x : List ℕ × List ℕ). take i merges ++ x ∷ []) (sym is))
    ∙ target_among-append (take i merges) (item ∷ []) q

-- a name that has a target keeps it
kept : (o : Option (List ℕ)) (b : Bool) (x right : List ℕ) → (b ≡ true → o ≡ Some x) → cond b (Some x) o ≡ option_or o (cond b (Some right) None)
kept None true x right there = absurd (not_some (there refl))
  where
    not_some : None ≡ Some x → ⊥
    not_some h = cc
kept None false x right there = refl
kept (Some y) true x right there = sym (there refl)
kept (Some y) false x right there = refl

-- the map after the target that a name has is put in again
pub puts_again : (left right before : List ℕ) (old new : List ℕ → Option (List ℕ)) → old left ≡ Some before → ((q : List ℕ) → new q ≡ cond (same_name left q) (Some before) (old q)) → (q : List ℕ) → new q ≡ option_or (old q) (target_among ((left, right) ∷ []) q)
puts_again left right before old new there after q =
    after q ∙ ap (λ (b : Bool). cond b (Some before) (old q)) (same_flip left q)
    ∙ kept (old q) (same_name q left) before right (λ e. ap old (same_is q left e) ∙ there)

-- the map after a step, at a name: it had what the merges up to i give over what it had at first
pub adds : (merges : List (List ℕ × List ℕ)) (i : ℕ) (item : List ℕ × List ℕ) (first old new : Option (List ℕ)) (q : List ℕ) → i < length merges → item ≡ get_or merges i item → old ≡ option_or first (target_among (take i merges) q) → new ≡ option_or old (target_among (item ∷ []) q) → new ≡ option_or first (target_among (take (i + 1) merges) q)
adds merges i item first old new q lt is before after =
    after ∙ ap (λ (o : Option (List ℕ)). option_or o (target_among (item ∷ []) q)) before
    ∙ or_else_assoc first (target_among (take i merges) q) (target_among (item ∷ []) q)
    ∙ ap (option_or first) (sym (more_targets merges i item q lt is))

-- ---- what a name leads to

found_place : (n m k : ℕ) → Some k ≡ cond (ltb n m) (Some n) None → (k ≡ n) × (n < m)
found_place n m k e =
    elim (cases_lt n m) [
      | inl lt ↦ (same_Some k n (rw lt-ltb at e), lt)
      | inr le ↦ absurd (not_some k (rw le-ltb at e))
    ]
  where
    not_some : (a : ℕ) → Some a ≡ None → ⊥
    not_some a h = cc

pub no_place : (n m : ℕ) → None ≡ cond (ltb n m) (Some n) None → m ≤ n
no_place n m e =
    elim (cases_lt n m) [
      | inl lt ↦ absurd (not_some n (rw lt-ltb at e))
      | inr le ↦ le
    ]
  where
    not_some : (a : ℕ) → None ≡ Some a → ⊥
    not_some a h = cc

pub led_at : (keys ends : List (List ℕ)) (name x : List ℕ) (k : ℕ) → Some k ≡ position (same_name name) keys → length ends ≡ length keys → x ≡ get_or ends k x → x ≡ led_by keys ends name
unfolding led_by
led_at keys ends name x k found same is =
    let p = position_or_len (same_name name) keys in
    let at = found_place p (length keys) k found in
    is ∙ get_or_default ends k x name (omega (arith, at.0, at.1)) ∙ ap (λ (j : ℕ). get_or ends j name) at.0

pub led_none : (keys ends : List (List ℕ)) (name : List ℕ) → None ≡ position (same_name name) keys → length ends ≡ length keys → name ≡ led_by keys ends name
unfolding led_by
led_none keys ends name none same =
    let p = position_or_len (same_name name) keys in
    sym (get_or_past ends p name (omega (arith, no_place p (length keys) none)))

-- a name is led to the value of its entry
by_lookup : (t : List ℕ → Bool) (es : List (List ℕ × List ℕ)) (d : List ℕ) → get_or (values_of es) (position_or_len t (keys_of es)) d ≡ unwrap_or (lookup t es) d
by_lookup t [] d = refl
by_lookup t (e ∷ es) d = go (t e.0) (by_lookup t es d)
  where
    go : (b : Bool) → get_or (values_of es) (position_or_len t (keys_of es)) d ≡ unwrap_or (lookup t es) d → get_or (e.1 ∷ values_of es) (cond (not b) (1 + position_or_len t (keys_of es)) 0) d ≡ unwrap_or (cond b (Some e.1) (lookup t es)) d
    go true h = refl
    go false h = rw one-add h

pub leads_one : (given entries : List (List ℕ × List ℕ)) → AreTargets given entries → Leads given 1 (keys_of entries) (values_of entries)
unfolding led_by led
leads_one given entries targets name =
    by_lookup (same_name name) entries name ∙ ap (λ (o : Option (List ℕ)). unwrap_or o name) (targets name)

-- twice as far
pub led-add : (given : List (List ℕ × List ℕ)) (a b : ℕ) (name : List ℕ) → led given (a + b) name ≡ led given b (led given a name)
unfolding led
led-add given a zero name = ap (λ (n : ℕ). led given n name) (omega arith)
led-add given a (suc b) name =
    let e : a + suc b ≡ suc (a + b) = omega arith in
    ap (λ (n : ℕ). led given n name) e ∙ ap (next_name given) (led-add given a b name)

twice : (keys ends : List (List ℕ)) (name : List ℕ) → led_by keys (map (led_by keys ends) ends) name ≡ led_by keys ends (led_by keys ends name)
unfolding led_by
twice keys ends name =
    let p = position_or_len (same_name name) keys in
    let f = λ (x : List ℕ). get_or ends (position_or_len (same_name x) keys) x in
    elim (cases_lt p (length ends)) [
      | inl lt ↦
          let in' : p < length (map f ends) = omega (arith, length-map ends f) in
          get_or_default (map f ends) p name (f name) in' ∙ get_or-map f ends p name
      | inr le ↦
          let past : get_or ends p name ≡ name = get_or_past ends p name le in
          get_or_past (map f ends) p name (omega (arith, length-map ends f)) ∙ sym past ∙ ap f (sym past)
    ]

pub leads_twice : (given : List (List ℕ × List ℕ)) (steps : ℕ) (keys ends further : List (List ℕ)) → further ≡ map (led_by keys ends) ends → Leads given steps keys ends → Leads given (steps + steps) keys further
leads_twice given steps keys ends further is leads name =
    ap (λ (e : List (List ℕ)). led_by keys e name) is ∙ twice keys ends name ∙ leads (led_by keys ends name)
    ∙ ap (led given steps) (leads name) ∙ sym (led-add given steps steps name)
