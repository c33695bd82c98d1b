-- Chains of links: a part that was followed is walked back with its end, and a chain that comes back to itself has none.
use Rattle.std.proofs.Common.{◌≡◌, ◌≢◌, ℕ, zero, suc, ◌+◌, ◌<◌, Bool, true, false, cond, ◌||◌, ◌⊎◌, nat_eq, List, [], ◌∷◌, ◌++◌, length, set, Option, None, Some, is_some, Result, Err, refl, sym, ap, ◌∙◌, subst, inl, inr, arith}
use Rattle.std.proofs.Math.Bool.{or-false}
use Rattle.std.specs.List.{All, count_by}
use Rattle.std.proofs.Math.ListN.{length-set}
use Rattle.std.proofs.lemmas.Bool.{false≢true, eqb-true, eq-eqb, cases_eq, or_cases, or_parts, or_left, or_right}
use Rattle.std.proofs.lemmas.List.{get_or_default, get_or-set_same, get_or-set_other, length-append, get_or_append_left, get_or_push}
use Rattle.std.proofs.lemmas.List.Elements.{All-append}
use Rattle.std.proofs.lemmas.Option.{same_Some}
use Rattle.std.proofs.lemmas.List.Folds.{list_any-append}
use Rattle.std.proofs.lemmas.List.Sums.{sum_by-set}
use Rattle.symbol_names.specs.LinkView.{LinkView}
use Rattle.symbol_table.specs.declared.chains.Passed.{Passed}
use Rattle.symbol_table.specs.declared.meaning.Meaning.{Meaning}
use Rattle.symbol_table.specs.declared.meaning.NoMeaning.{NoMeaning}
use Rattle.symbol_table.specs.declared.meaning.NoMeaning.TheVariants.{WeakCycle}
use Rattle.symbol_table.specs.declared.link.Link.{Link}
use Rattle.symbol_table.specs.declared.link.Link.TheVariants as link
use Rattle.symbol_names.specs.Interning.{Numbers}
use Rattle.symbol_table.specs.Resolution.{Step, Ends, Leads, passed_on, step, at_end, meaning_within}
use Rattle.symbol_table.specs.Links.{no_link, link_at, next_of, end_of, LeadsBelow, IsStep, AreSteps, Settles, LeadsOn, IsKnown, AreKnown, is_from, is_on, LeadAlong, WasPassed, SettlesAt, IsWalked}

abbrev pub cycle : Result Meaning NoMeaning
cycle = Err WeakCycle

-- a slot of what has no end has none
pub passed_cycle : (slot : Bool) (name : List ℕ) → passed_on slot name cycle ≡ cycle
passed_cycle false name = refl
passed_cycle true name = refl

-- ---- the links that lead on

abbrev pub leads_on : Link → Bool
leads_on one = is_some (next_of one)

-- one link less leads on, where one that does is set to an end
pub fewer_lead : (links : List Link) (at : ℕ) (next : ℕ × Bool) (end : Result Meaning NoMeaning) → at < length links → next_of (link_at links at) ≡ Some next → count_by leads_on (set links at (link.Ends end)) < count_by leads_on links
fewer_lead links at next end within leads =
    let weight : Link → ℕ = λ one. cond (leads_on one) 1 0 in
    let one : weight (link_at links at) ≡ 1 = ap (λ (o : Option (ℕ × Bool)). cond (is_some o) 1 0) leads in
    omega (arith, sum_by-set weight links at (link.Ends end) no_link within, one)

-- a link that leads on is the one that leads to that number
leads_to : (one : Link) (next : ℕ × Bool) → next_of one ≡ Some next → one ≡ link.Leads next.0 next.1
leads_to (link.Ends end) next e = absurd cc
leads_to (link.Leads number slot) next e = ap (λ (n : ℕ × Bool). link.Leads n.0 n.1) (same_Some (number, slot) next e)

-- one that does not has an end
ends_with : (one : Link) → next_of one ≡ None → one ≡ link.Ends (end_of one)
ends_with (link.Ends end) e = refl
ends_with (link.Leads number slot) e = absurd cc

no_end : (end : Result Meaning NoMeaning) (next : ℕ) (slot : Bool) → link.Leads next slot ≡ link.Ends end → ⊥
no_end end next slot e = absurd cc

-- ---- the names on a path

on_with_last : (path : List Passed) (one : Passed) (number : ℕ) → is_on (path ++ one ∷ []) number ≡ (is_on path number || nat_eq number one.number)
on_with_last path one number =
    list_any-append (is_from number) path (one ∷ []) ∙ ap (λ (b : Bool). is_on path number || b) (or-false (nat_eq number one.number))

-- the links of these names were taken for a cycle
pub record AreTaken (path : List Passed) (before after : List Link) : Type 0 where
  pub on : (number : ℕ) → is_on path number ≡ true → link_at after number ≡ link.Ends cycle
  pub off : (number : ℕ) → is_on path number ≡ false → link_at after number ≡ link_at before number

none_taken : (links : List Link) → AreTaken [] links links
none_taken links = record {
  on = λ number on. absurd (false≢true on);
  off = λ number off. refl;
}

one_more_taken : (path : List Passed) (one : Passed) (before after : List Link) → one.number < length after → AreTaken path before after → AreTaken (path ++ one ∷ []) before (set after one.number (link.Ends cycle))
one_more_taken path one before after within taken = record {
  on = λ number on. elim (cases_eq number one.number) [
    | inl here ↦ ap (link_at (set after one.number (link.Ends cycle))) here ∙ get_or-set_same after one.number (link.Ends cycle) no_link within
    | inr apart ↦
        get_or-set_other after one.number number (link.Ends cycle) no_link apart
        ∙ taken.on number (before_it number apart (or_cases _ _ (sym (on_with_last path one number) ∙ on)))
  ];
  off = λ number off.
      let both = or_parts _ _ (sym (on_with_last path one number) ∙ off) in
      get_or-set_other after one.number number (link.Ends cycle) no_link (λ same. false≢true (sym both.1 ∙ eq-eqb number one.number same))
      ∙ taken.off number both.0;
}
  where
    before_it : (number : ℕ) → number ≢ one.number → (is_on path number ≡ true) ⊎ (nat_eq number one.number ≡ true) → is_on path number ≡ true
    before_it number apart (inl on) = on
    before_it number apart (inr same) = absurd (apart (eqb-true number one.number same))

-- ---- a path that is followed

longer_along : (number : ℕ) (path : List Passed) (one : Passed) → LeadAlong number path one.number → LeadAlong number (path ++ one ∷ []) one.next
longer_along number [] one along = (along, refl)
longer_along number (first ∷ rest) one along = (along.0, longer_along first.next rest one along.1)

-- the link of a name led to the next
abbrev pub LedOn : List Link → Passed → Type 0
LedOn links one = link_at links one.number ≡ link.Leads one.next one.slot

-- both names have numbers below a count
abbrev pub IsBelow : ℕ → Passed → Type 0
IsBelow count one = (one.number < count) × (one.next < count)

-- the path that was followed from a number to another, whose links were taken for a cycle meanwhile
pub record IsPath (start now : List Link) (path : List Passed) (number at : ℕ) : Type 0 where
  pub long : length now ≡ length start
  pub within : at < length start
  pub all : All (IsBelow (length start)) path
  pub led : All (LedOn start) path
  pub along : LeadAlong number path at
  pub taken : AreTaken path start now

only : {X : Type 0} (P : X → Type 0) (x : X) → P x → All P (x ∷ [])
only P x holds zero d less = holds
only P x holds (suc k) d less = absurd (omega arith)

-- a number whose link still leads on is not on the path
off_path : (start now : List Link) (path : List Passed) (number at next : ℕ) (slot : Bool) → IsPath start now path number at → link_at now at ≡ link.Leads next slot → is_on path at ≡ false
off_path start now path number at next slot is leads = go (is_on path at) refl
  where
    go : (b : Bool) → is_on path at ≡ b → b ≡ false
    go false e = refl
    go true e = absurd (no_end cycle next slot (sym leads ∙ is.taken.on at e))

-- at the start
pub path_start : (links : List Link) (path : List Passed) (number : ℕ) → path ≡ [] → number < length links → IsPath links links path number number
path_start links path number empty within = subst (λ (path : List Passed). IsPath links links path number number) (sym empty) (record {
  long = refl;
  within = within;
  all = λ k d less. absurd (omega arith);
  led = λ k d less. absurd (omega arith);
  along = refl;
  taken = none_taken links;
})

-- one link more is followed
pub path_more : (start now : List Link) (path more : List Passed) (number at : ℕ) (next : ℕ × Bool) → All (LeadsBelow (length start)) start → IsPath start now path number at → next_of (link_at now at) ≡ Some next → more ≡ path ++ record { number = at; next = next.0; slot = next.1 } ∷ [] → IsPath start (set now at (link.Ends cycle)) more number next.0
path_more start now path more number at next below is some parts =
    let one : Passed = record { number = at; next = next.0; slot = next.1 } in
    let leads = leads_to (link_at now at) next some in
    let first : link_at start at ≡ link.Leads next.0 next.1 = sym (is.taken.off at (off_path start now path number at next.0 next.1 is leads)) ∙ leads in
    let reached : next.0 < length start = subst (LeadsBelow (length start)) first (below at no_link is.within) in
    subst (λ (more : List Passed). IsPath start (set now at (link.Ends cycle)) more number next.0) (sym parts) (record {
      long = length-set now at (link.Ends cycle) ∙ is.long;
      within = reached;
      all = All-append (IsBelow (length start)) path (one ∷ []) is.all (only (IsBelow (length start)) one (is.within, reached));
      led = All-append (LedOn start) path (one ∷ []) is.led (only (LedOn start) one first);
      along = longer_along number path one is.along;
      taken = one_more_taken path one start now (omega (arith, is.within, is.long)) is.taken;
    })

-- ---- what is known of a chain

-- a name has the end that the name that it leads to passes on
stays_before : (view : LinkView) (chosen : List (List Bool)) (name other : List ℕ) (slot : Bool) (end : Result Meaning NoMeaning) → step view chosen name ≡ Leads slot other → (settles : Settles view chosen other end) → (more : ℕ) → suc settles.steps < more → meaning_within view chosen more name ≡ passed_on slot other end
unfolding meaning_within
stays_before view chosen name other slot end leads settles zero less = absurd (omega arith)
stays_before view chosen name other slot end leads settles (suc more) less =
    ap (at_end (meaning_within view chosen more)) leads ∙ ap (passed_on slot other) (settles.stays more (omega (arith, less)))

pub settles_before : (view : LinkView) (chosen : List (List Bool)) (name other : List ℕ) (slot : Bool) (end : Result Meaning NoMeaning) → step view chosen name ≡ Leads slot other → Settles view chosen other end → Settles view chosen name (passed_on slot other end)
settles_before view chosen name other slot end leads settles = record {
  steps = suc settles.steps;
  stays = stays_before view chosen name other slot end leads settles;
}

-- what is known of a link that leads on, and of one that has an end
leads_known : (view : LinkView) (chosen : List (List Bool)) (names : List (List ℕ)) (links : List Link) (number next : ℕ) (slot : Bool) (name : List ℕ) → AreKnown view chosen names links → Numbers names number name → link_at links number ≡ link.Leads next slot → LeadsOn view chosen names name next slot
leads_known view chosen names links number next slot name known numbered leads =
    subst (IsKnown view chosen names name) leads (known.each number name numbered)

ends_known : (view : LinkView) (chosen : List (List Bool)) (names : List (List ℕ)) (links : List Link) (number : ℕ) (end : Result Meaning NoMeaning) (name : List ℕ) → AreKnown view chosen names links → Numbers names number name → link_at links number ≡ link.Ends end → Settles view chosen name end
ends_known view chosen names links number end name known numbered ends =
    subst (IsKnown view chosen names name) ends (known.each number name numbered)

-- ---- a path that comes back to itself

-- the next of a name that is on a path is on it too, if that at the end is
record GoesOn (links : List Link) (path : List Passed) (number : ℕ) : Type 0 where
  next : ℕ
  slot : Bool
  leads : link_at links number ≡ link.Leads next slot
  again : is_on path next ≡ true

goes_on : (links : List Link) (whole : List Passed) (number : ℕ) (path : List Passed) (at : ℕ) → LeadAlong number path at → All (LedOn links) path → ((one : ℕ) → is_on path one ≡ true → is_on whole one ≡ true) → is_on whole at ≡ true → (one : ℕ) → is_on path one ≡ true → GoesOn links whole one
goes_on links whole number [] at along led part back one on = absurd (false≢true on)
goes_on links whole number (first ∷ rest) at along led part back one on =
    let part_rest = λ (k : ℕ) (e : is_on rest k ≡ true). part k (or_right (nat_eq k first.number) _ e) in
    let later_led : All (LedOn links) rest = λ k d less. led (suc k) d (omega arith) in
    elim (or_cases (nat_eq one first.number) (is_on rest one) on) [
      | inl here ↦ record {
        next = first.next;
        slot = first.slot;
        leads = ap (link_at links) (eqb-true one first.number here) ∙ led 0 first (omega arith);
        again = next_on first.next rest along.1 part_rest;
      }
      | inr later ↦ goes_on links whole first.next rest at along.1 later_led part_rest back one later
    ]
  where
    next_on : (number : ℕ) (path : List Passed) → LeadAlong number path at → ((one : ℕ) → is_on path one ≡ true → is_on whole one ≡ true) → is_on whole number ≡ true
    next_on number [] along part = ap (is_on whole) along ∙ back
    next_on number (first ∷ rest) along part = part number (or_left (nat_eq number first.number) _ (eq-eqb number first.number along.0))

-- within any number of steps a name on the path has no end
no_end_within : (view : LinkView) (chosen : List (List Bool)) (names : List (List ℕ)) (links : List Link) (number : ℕ) (path : List Passed) (at : ℕ) → AreKnown view chosen names links → LeadAlong number path at → All (LedOn links) path → is_on path at ≡ true → (steps one : ℕ) (name : List ℕ) → is_on path one ≡ true → Numbers names one name → meaning_within view chosen steps name ≡ cycle
unfolding meaning_within
no_end_within view chosen names links number path at known along led back zero one name on numbered = refl
no_end_within view chosen names links number path at known along led back (suc steps) one name on numbered =
    let more = goes_on links path number path at along led (λ k e. e) back one on in
    let leads = leads_known view chosen names links one more.next more.slot name known numbered more.leads in
    ap (at_end (meaning_within view chosen steps)) leads.leads
    ∙ ap (passed_on more.slot leads.other) (no_end_within view chosen names links number path at known along led back steps more.next leads.other more.again leads.numbered)
    ∙ passed_cycle more.slot leads.other

-- ---- what a path ends with

-- a path that was followed is walked back from its end
pub path_walked : (view : LinkView) (chosen : List (List Bool)) (names : List (List ℕ)) (start now : List Link) (path : List Passed) (number at : ℕ) (end : Result Meaning NoMeaning) → AreKnown view chosen names start → IsPath start now path number at → next_of (link_at now at) ≡ None → end ≡ end_of (link_at now at) → IsWalked view chosen names number path end now
path_walked view chosen names start now path number at end known is none same = record {
  at = at;
  along = is.along;
  passed = λ k d less. λ name numbered. leads_known view chosen names start _ _ _ name known numbered (is.led k d less);
  settles = go (is_on path at) refl;
  known = record {
    long = is.long ∙ known.long;
    off = λ one name off numbered. subst (IsKnown view chosen names name) (sym (is.taken.off one off)) (known.each one name numbered);
    on = λ one on. ap next_of (is.taken.on one on);
  };
}
  where
    ends : link_at now at ≡ link.Ends end
    ends = ends_with (link_at now at) none ∙ ap link.Ends (sym same)

    go : (b : Bool) → is_on path at ≡ b → SettlesAt view chosen names end at
    go true back = λ name numbered. record {
      steps = 0;
      stays = λ more less.
          no_end_within view chosen names start number path at known is.along is.led back more at name back numbered
          ∙ sym (same ∙ ap end_of (is.taken.on at back));
    }
    go false off = λ name numbered. ends_known view chosen names start at end name known numbered (sym (is.taken.off at off) ∙ ends)

-- ---- a path that is walked back

-- a path leads along its front, and from its last name to its end
record LastLeads (number : ℕ) (front : List Passed) (one : Passed) (at : ℕ) : Type 0 where
  along : LeadAlong number front one.number
  there : one.next ≡ at

last_leads : (number : ℕ) (front : List Passed) (one : Passed) (at : ℕ) → LeadAlong number (front ++ one ∷ []) at → LastLeads number front one at
last_leads number [] one at along = record { along = along.0; there = along.1 }
last_leads number (first ∷ rest) one at along =
    let later = last_leads first.next rest one at along.1 in
    record { along = (along.0, later.along); there = later.there }

front_all : {X : Type 0} (P : X → Type 0) (front : List X) (one : X) → All P (front ++ one ∷ []) → All P front
front_all P front one all = λ k d less.
    subst P (get_or_append_left front (one ∷ []) d k less) (all k d (omega (arith, less, length-append front (one ∷ []))))

last_all : {X : Type 0} (P : X → Type 0) (front : List X) (one : X) → All P (front ++ one ∷ []) → P one
last_all P front one all = subst P (get_or_push front one one (length front) refl) (all (length front) one (omega (arith, length-append front (one ∷ []))))

-- one name back
pub walked_back : (view : LinkView) (chosen : List (List Bool)) (names : List (List ℕ)) (number : ℕ) (front whole : List Passed) (one : Passed) (end passed : Result Meaning NoMeaning) (links : List Link) → one.number < length links → ((name : List ℕ) → Numbers names one.next name → passed ≡ passed_on one.slot name end) → whole ≡ front ++ one ∷ [] → IsWalked view chosen names number whole end links → IsWalked view chosen names number front passed (set links one.number (link.Ends passed))
walked_back view chosen names number front whole one end passed links within is_passed parts was_walked =
    let was = subst (λ (path : List Passed). IsWalked view chosen names number path end links) parts was_walked in
    let last = last_leads number front one was.at was.along in
    let after = set links one.number (link.Ends passed) in
    let settles_here : SettlesAt view chosen names passed one.number =
    λ name numbered.
    let leads = last_all (WasPassed view chosen names) front one was.passed name numbered in
    subst (Settles view chosen name) (sym (is_passed leads.other leads.numbered))
    (settles_before view chosen name leads.other one.slot end leads.leads
    (was.settles leads.other (subst (λ (k : ℕ). Numbers names k leads.other) last.there leads.numbered))) in
    record {
      at = one.number;
      along = last.along;
      passed = front_all (WasPassed view chosen names) front one was.passed;
      settles = settles_here;
      known = record {
        long = length-set links one.number (link.Ends passed) ∙ was.known.long;
        off = λ k name off numbered. elim (cases_eq k one.number) [
          | inl here ↦
              subst (IsKnown view chosen names name) (sym (ap (link_at after) here ∙ get_or-set_same links one.number (link.Ends passed) no_link within))
              (settles_here name (subst (λ (n : ℕ). Numbers names n name) here numbered))
          | inr apart ↦
              subst (IsKnown view chosen names name) (sym (get_or-set_other links one.number k (link.Ends passed) no_link apart))
              (was.known.off k name (on_with_last front one k ∙ ap (λ (b : Bool). b || nat_eq k one.number) off ∙ apart_is k apart (nat_eq k one.number) refl) numbered)
        ];
        on = λ k on. elim (cases_eq k one.number) [
          | inl here ↦ ap next_of (ap (link_at after) here ∙ get_or-set_same links one.number (link.Ends passed) no_link within)
          | inr apart ↦ ap next_of (get_or-set_other links one.number k (link.Ends passed) no_link apart) ∙ was.known.on k (on_with_last front one k ∙ ap (λ (b : Bool). b || nat_eq k one.number) on)
        ];
      };
    }
  where
    apart_is : (k : ℕ) → k ≢ one.number → (b : Bool) → nat_eq k one.number ≡ b → b ≡ false
    apart_is k apart false e = refl
    apart_is k apart true e = absurd (apart (eqb-true k one.number e))

-- to its start, so that all is known
pub all_known : (view : LinkView) (chosen : List (List Bool)) (names : List (List ℕ)) (number : ℕ) (path : List Passed) (end : Result Meaning NoMeaning) (links : List Link) → path ≡ [] → IsWalked view chosen names number path end links → AreKnown view chosen names links
all_known view chosen names number path end links empty walked =
    let is = subst (λ (path : List Passed). IsWalked view chosen names number path end links) empty walked in
    record { long = is.known.long; each = λ one name numbered. is.known.off one name refl numbered }

-- a link that is set to an end leads no further
pub below_set : (count : ℕ) (links : List Link) (at : ℕ) (end : Result Meaning NoMeaning) → at < length links → All (LeadsBelow count) links → All (LeadsBelow count) (set links at (link.Ends end))
below_set count links at end within all = λ k d less.
    let long = length-set links at (link.Ends end) in
    elim (cases_eq k at) [
      | inl here ↦
          subst (LeadsBelow count) (sym (ap (λ (n : ℕ). link_at (set links at (link.Ends end)) n) here ∙ get_or-set_same links at (link.Ends end) no_link within) ∙ get_or_default (set links at (link.Ends end)) k no_link d less) tt
      | inr apart ↦
          subst (LeadsBelow count) (sym (get_or-set_other links at k (link.Ends end) no_link apart) ∙ get_or_default (set links at (link.Ends end)) k no_link d less)
          (all k no_link (omega (arith, less, long)))
    ]

pub ended_set : (links : List Link) (at : ℕ) (end : Result Meaning NoMeaning) (other : ℕ) → at < length links → next_of (link_at links other) ≡ None → next_of (link_at (set links at (link.Ends end)) other) ≡ None
ended_set links at end other within none = elim (cases_eq other at) [
  | inl here ↦ ap next_of (ap (link_at (set links at (link.Ends end))) here ∙ get_or-set_same links at (link.Ends end) no_link within)
  | inr apart ↦ ap next_of (get_or-set_other links at other (link.Ends end) no_link apart) ∙ none
]

-- what holds while a path is walked back: what is left of it, with its end, by what there was at first
pub record NotesBack (names : List (List ℕ)) (first : List Link) (whole : List Passed) (last : Result Meaning NoMeaning) (links : List Link) (path : List Passed) (end : Result Meaning NoMeaning) : Type 0 where
  pub long : length links ≡ length first
  pub within : All (IsBelow (length names)) path
  pub below : (count : ℕ) → All (LeadsBelow count) first → All (LeadsBelow count) links
  pub walked : (view : LinkView) (chosen : List (List Bool)) (number : ℕ) → IsWalked view chosen names number whole last first → IsWalked view chosen names number path end links
  pub ended : (other : ℕ) → next_of (link_at first other) ≡ None → next_of (link_at links other) ≡ None

pub noted_back : (names : List (List ℕ)) (first : List Link) (whole : List Passed) (last : Result Meaning NoMeaning) (links : List Link) (path front : List Passed) (one : Passed) (end passed noted : Result Meaning NoMeaning) → length first ≡ length names → ((name : List ℕ) → Numbers names one.next name → passed ≡ passed_on one.slot name end) → noted ≡ passed → path ≡ front ++ one ∷ [] → NotesBack names first whole last links path end → NotesBack names first whole last (set links one.number (link.Ends noted)) front passed
noted_back names first whole last links path front one end passed noted count is_passed same parts was =
    let all = subst (All (IsBelow (length names))) parts was.within in
    let here = last_all (IsBelow (length names)) front one all in
    let within : one.number < length links = omega (arith, here.0, was.long, count) in
    subst (λ (e : Result Meaning NoMeaning). NotesBack names first whole last (set links one.number (link.Ends e)) front passed) (sym same) (record {
      long = length-set links one.number (link.Ends passed) ∙ was.long;
      within = front_all (IsBelow (length names)) front one all;
      below = λ n below. below_set n links one.number passed within (was.below n below);
      walked = λ view chosen number is. walked_back view chosen names number front path one end passed links within is_passed parts (was.walked view chosen number is);
      ended = λ other none. ended_set links one.number passed other within (was.ended other none);
    })

-- what had an end, and the name that the path starts at, have one when it was followed
pub followed_ends : (start now : List Link) (path : List Passed) (number at : ℕ) → IsPath start now path number at → next_of (link_at now at) ≡ None → next_of (link_at now number) ≡ None
followed_ends start now path number at is none = go path is.along is.taken
  where
    go : (path : List Passed) → LeadAlong number path at → AreTaken path start now → next_of (link_at now number) ≡ None
    go [] along taken = ap next_of (ap (link_at now) along) ∙ none
    go (first ∷ rest) along taken = ap next_of (taken.on number (or_left (nat_eq number first.number) _ (eq-eqb number first.number along.0)))

pub followed_stay : (start now : List Link) (path : List Passed) (number at : ℕ) → IsPath start now path number at → (other : ℕ) → next_of (link_at start other) ≡ None → next_of (link_at now other) ≡ None
followed_stay start now path number at is other none = go (is_on path other) refl
  where
    go : (b : Bool) → is_on path other ≡ b → next_of (link_at now other) ≡ None
    go true on = ap next_of (is.taken.on other on)
    go false off = ap next_of (is.taken.off other off) ∙ none

-- and no link leads further than the links go
pub followed_below : (start now : List Link) (path : List Passed) (number at : ℕ) → All (LeadsBelow (length start)) start → IsPath start now path number at → All (LeadsBelow (length start)) now
followed_below start now path number at below is = λ one d less.
    subst (LeadsBelow (length start)) (get_or_default now one no_link d less) (go one (omega (arith, less, is.long)) (is_on path one) refl)
  where
    go : (one : ℕ) → one < length start → (b : Bool) → is_on path one ≡ b → LeadsBelow (length start) (link_at now one)
    go one less true on = subst (LeadsBelow (length start)) (sym (is.taken.on one on)) tt
    go one less false off = subst (LeadsBelow (length start)) (sym (is.taken.off one off)) (below one no_link less)

-- where a link leads nowhere, its end is what the name means
pub known_end : (view : LinkView) (chosen : List (List Bool)) (names : List (List ℕ)) (links : List Link) (number : ℕ) (name : List ℕ) → AreKnown view chosen names links → Numbers names number name → next_of (link_at links number) ≡ None → Settles view chosen name (end_of (link_at links number))
known_end view chosen names links number name known numbered none =
    ends_known view chosen names links number (end_of (link_at links number)) name known numbered (ends_with (link_at links number) none)

-- ---- the chains of the names below a number are followed

pub record AreSettled (names : List (List ℕ)) (start now : List Link) (count : ℕ) : Type 0 where
  pub long : length now ≡ length start
  pub below : All (LeadsBelow (length start)) now
  pub known : (view : LinkView) (chosen : List (List Bool)) → AreKnown view chosen names start → AreKnown view chosen names now
  pub done : (number : ℕ) → number < count → next_of (link_at now number) ≡ None

-- one chain more
pub settled_more : (names : List (List ℕ)) (start now after : List Link) (number : ℕ) → AreSettled names start now number → length after ≡ length now → All (LeadsBelow (length now)) after → ((view : LinkView) (chosen : List (List Bool)) → AreKnown view chosen names now → AreKnown view chosen names after) → next_of (link_at after number) ≡ None → ((other : ℕ) → next_of (link_at now other) ≡ None → next_of (link_at after other) ≡ None) → AreSettled names start after (number + 1)
settled_more names start now after number is long below known ended stay = record {
  long = long ∙ is.long;
  below = subst (λ (n : ℕ). All (LeadsBelow n) after) is.long below;
  known = λ view chosen begun. known view chosen (is.known view chosen begun);
  done = λ other less. elim (cases_eq other number) [
    | inl here ↦ subst (λ (k : ℕ). next_of (link_at after k) ≡ None) (sym here) ended
    | inr apart ↦ stay other (is.done other (omega (arith, less, apart)))
  ];
}

-- a name that leads to no other
pub settled_same : (names : List (List ℕ)) (start now : List Link) (number : ℕ) → AreSettled names start now number → next_of (link_at now number) ≡ None → AreSettled names start now (number + 1)
settled_same names start now number is none = record {
  long = is.long;
  below = is.below;
  known = is.known;
  done = λ other less. elim (cases_eq other number) [
    | inl here ↦ subst (λ (k : ℕ). next_of (link_at now k) ≡ None) (sym here) none
    | inr apart ↦ is.done other (omega (arith, less, apart))
  ];
}

-- ---- the steps of names are known

ends_at_once : (view : LinkView) (chosen : List (List Bool)) (name : List ℕ) (other end : Result Meaning NoMeaning) → step view chosen name ≡ Ends end → other ≡ end → (more : ℕ) → 0 < more → meaning_within view chosen more name ≡ other
unfolding meaning_within
ends_at_once view chosen name other end e same zero less = absurd (omega arith)
ends_at_once view chosen name other end e same (suc more) less = ap (at_end (meaning_within view chosen more)) e ∙ sym same

pub steps_known : (view : LinkView) (chosen : List (List Bool)) (names : List (List ℕ)) (links : List Link) → AreSteps view chosen names links → AreKnown view chosen names links
steps_known view chosen names links are = record {
  long = are.long;
  each = λ number name numbered. one_known name (link_at links number) (step view chosen name) refl (are.each number name numbered);
}
  where
    one_known : (name : List ℕ) (one : Link) (made : Step) → step view chosen name ≡ made → IsStep names made one → IsKnown view chosen names name one
    one_known name (link.Ends other) (Ends end) e same = record { steps = 0; stays = ends_at_once view chosen name other end e same }
    one_known name (link.Leads number slotted) (Leads slot other) e is = record { other = other; numbered = is.1; leads = e ∙ ap (λ (b : Bool). Leads b other) (sym is.0) }
    one_known name (link.Leads number slotted) (Ends end) e never = absurd never
    one_known name (link.Ends end) (Leads slot other) e never = absurd never
