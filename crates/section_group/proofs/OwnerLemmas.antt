-- The first owner of a name, found piece by piece.
use Rattle.std.proofs.Common.{◌≡◌, ℕ, ◌+◌, ◌-◌, ◌<◌, Bool, true, false, ◌&&◌, not, cond, IsTrue, List, length, Option, Some, None, refl, sym, ap, ◌∙◌, subst, inl, inr, arith, rules}
use Rattle.std.specs.Option.{option_map_or}
use Rattle.std.specs.Ordering.{is_lt, nat_cmp, ordering_then}
use Rattle.std.specs.Cmp.{IsTotalOrder}
use Rattle.std.specs.Cmp.Rules.{comparing}
use Rattle.std.specs.declared.cmp.Ordering.TheVariants.{Equal}
use Rattle.std.proofs.lemmas.Bool.{cases_lt, false≢true, true≢false, and_from}
use Rattle.link_base.specs.Bytes.{all_below}
use Rattle.link_base.proofs.CallerLemmas.{first_below-found, first_below-all_fail, first_below-some, all_below-fails, all_below-from_each}
use Rattle.link_base.proofs.NameTextLemmas.{same_is}
use Rattle.link_base.proofs.OrderingLemmas.{one_number}
use Rattle.section_group.specs.SectionOrder.{Input, piece_at, is_used, base_name, place_cmp}
use Rattle.section_group.specs.Placement.{is_owner, is_first_owner, first_owner}
use Rattle.section_group.specs.Merging.{same_name}
use Rattle.section_group.specs.Gathering.{IsFirstUpTo, FollowsAnOwner}
use Rattle.section_group.proofs.OrderLemmas.{not_before_itself, not_before_better, level, then_level}

pub place_total : (input : Input) → IsTotalOrder (place_cmp input)
place_total input = search (comparing, rules)

-- pieces that are level by module, number and index are one
pub level_places : (input : Input) (j k : ℕ) → place_cmp input j k ≡ Equal → j ≡ k
level_places input j k e =
    let l = piece_at input j in
    let r = piece_at input k in
    one_number j k (then_level (nat_cmp l.number r.number) (nat_cmp j k) (then_level (nat_cmp l.module r.module) (ordering_then (nat_cmp l.number r.number) (nat_cmp j k)) e))

-- ---- one more piece

-- it does not own the name
pub first_extends : (input : Input) (i : ℕ) (name : List ℕ) (o : Option ℕ) → IsFirstUpTo input i name o → is_owner input name i ≡ false → IsFirstUpTo input (i + 1) name o
first_extends input i name None none other = λ k lt. elim (cases_lt k i) [
  | inl below ↦ none k below
  | inr above ↦ let same : k ≡ i = omega arith in ap (is_owner input name) same ∙ other
]
first_extends input i name (Some f) first other = (
  omega (arith, first.0),
  first.1,
  λ k lt owns. elim (cases_lt k i) [
    | inl below ↦ first.2 k below owns
    | inr above ↦ let same : k ≡ i = omega arith in absurd (false≢true (sym other ∙ ap (is_owner input name) (sym same) ∙ owns))
  ],
)

-- it owns the name and does not come before the first so far
pub first_stays : (input : Input) (i : ℕ) (name : List ℕ) (o : Option ℕ) → IsFirstUpTo input i name o → option_map_or (λ first. is_lt (place_cmp input i first)) o true ≡ false → IsFirstUpTo input (i + 1) name o
first_stays input i name None none later = absurd (true≢false later)
first_stays input i name (Some f) first later = (
  omega (arith, first.0),
  first.1,
  λ k lt owns. elim (cases_lt k i) [
    | inl below ↦ first.2 k below owns
    | inr above ↦ let same : k ≡ i = omega arith in ap (λ (j : ℕ). is_lt (place_cmp input j f)) same ∙ later
  ],
)

-- it owns the name and comes before the first so far
pub first_taken : (input : Input) (i : ℕ) (name : List ℕ) (o : Option ℕ) → IsFirstUpTo input i name o → IsTrue (is_owner input name i) → option_map_or (λ first. is_lt (place_cmp input i first)) o true ≡ true → IsFirstUpTo input (i + 1) name (Some i)
first_taken input i name o first owns earlier = (
  omega arith,
  owns,
  λ k lt owned. elim (cases_lt k i) [
    | inl below ↦ before o first earlier k below owned
    | inr above ↦ let same : k ≡ i = omega arith in ap (λ (j : ℕ). is_lt (place_cmp input j i)) same ∙ not_before_itself (place_total input) i
  ],
)
  where
    before : (o : Option ℕ) → IsFirstUpTo input i name o → option_map_or (λ first. is_lt (place_cmp input i first)) o true ≡ true → (k : ℕ) → k < i → is_owner input name k ≡ true → is_lt (place_cmp input k i) ≡ false
    before None none h k lt owned = absurd (false≢true (sym (none k lt) ∙ owned))
    before (Some f) first h k lt owned = not_before_better (place_total input) k i f h (first.2 k lt owned)

-- ---- all pieces

and_false : (a b : Bool) → (a ≡ true → b ≡ false) → (a && b) ≡ false
and_false true b h = h refl
and_false false b h = refl

not_and : (a b : Bool) → (a ≡ true → b ≡ false) → not (a && b) ≡ true
not_and true b h = ap not (h refl)
not_and false b h = refl

-- the piece before owns its base name and comes before it: the first so far stays
pub first_kept : (input : Input) (i : ℕ) (name : List ℕ) (o : Option ℕ) → FollowsAnOwner input i → IsFirstUpTo input i name o → IsFirstUpTo input (i + 1) name o
first_kept input i name o follows first = go (same_name (base_name (piece_at input i).name) name) refl
  where
    go : (b : Bool) → same_name (base_name (piece_at input i).name) name ≡ b → IsFirstUpTo input (i + 1) name o
    go true e =
        let here : base_name (piece_at input i).name ≡ name = same_is (base_name (piece_at input i).name) name e in
        let owns : is_owner input name (i - 1) ≡ true = ap (λ (n : List ℕ). is_owner input n (i - 1)) (sym here) ∙ follows.1 in
        first_stays input i name o first (later o first owns)
      where
        later : (o : Option ℕ) → IsFirstUpTo input i name o → is_owner input name (i - 1) ≡ true → option_map_or (λ first. is_lt (place_cmp input i first)) o true ≡ false
        later None none owns = absurd (false≢true (sym (none (i - 1) (omega (arith, follows.0))) ∙ owns))
        later (Some f) first owns = by_case (is_lt (place_cmp input i f)) refl
          where
            by_case : (b : Bool) → is_lt (place_cmp input i f) ≡ b → b ≡ false
            by_case false e = refl
            by_case true e =
                absurd (false≢true (sym (not_before_better (place_total input) (i - 1) i f e (first.2 (i - 1) (omega (arith, follows.0)) owns)) ∙ follows.2))
    go false e =
        first_extends input i name o first (and_false (is_used input i) (same_name (base_name (piece_at input i).name) name) (λ used. e))

pub first_is : (input : Input) (name : List ℕ) (o : Option ℕ) → IsFirstUpTo input (length input.pieces) name o → o ≡ first_owner input name
unfolding first_owner
first_is input name None none =
    sym (first_below-all_fail (length input.pieces) (is_first_owner input name) (λ k lt. and_false (is_owner input name k) _ (λ owns. absurd (false≢true (sym (none k lt) ∙ owns)))))
first_is input name (Some f) first =
    let n = length input.pieces in
    let o = place_total input in
    let test = is_first_owner input name in
    let passes = and_from (is_owner input name f) (all_below n (λ j. not (is_owner input name j && is_lt (place_cmp input j f)))) first.1 (all_below-from_each n (λ j. not (is_owner input name j && is_lt (place_cmp input j f))) (λ j lt. not_and (is_owner input name j) (is_lt (place_cmp input j f)) (λ owns. first.2 j lt owns))) in
    let fails = λ (k : ℕ) (lt : k < f).
    and_false (is_owner input name k) (all_below n (λ j. not (is_owner input name j && is_lt (place_cmp input j k)))) (λ owns.
    all_below-fails n f (λ j. not (is_owner input name j && is_lt (place_cmp input j k))) first.0
    (ap not (and_from (is_owner input name f) (is_lt (place_cmp input f k)) first.1 (precedes k lt (first.2 k (omega (arith, first.0)) owns)))))
    in
    sym (first_below-found f n test first.0 (first_below-all_fail f test fails) passes)
  where
    precedes : (k : ℕ) → k < f → is_lt (place_cmp input k f) ≡ false → is_lt (place_cmp input f k) ≡ true
    precedes k lt not_before = go (is_lt (place_cmp input f k)) refl
      where
        go : (b : Bool) → is_lt (place_cmp input f k) ≡ b → b ≡ true
        go true e = refl
        go false e = absurd (let same = level_places input f k (level (place_total input) k f not_before e) in omega arith)

-- the map after a piece that comes before the owner of its base name
pub owner_taken : (input : Input) (i : ℕ) (name base : List ℕ) (old : List ℕ → Option ℕ) (new : Option ℕ) → base ≡ base_name (piece_at input i).name → IsTrue (is_used input i) → ((name : List ℕ) → IsFirstUpTo input i name (old name)) → new ≡ cond (same_name base name) (Some i) (old name) → option_map_or (λ first. is_lt (place_cmp input i first)) (old (base_name (piece_at input i).name)) true ≡ true → IsFirstUpTo input (i + 1) name new
owner_taken input i name base old new is_base used first after earlier =
    subst (IsFirstUpTo input (i + 1) name) (sym after) (go (same_name base name) refl)
  where
    owns : same_name base name ≡ same_name (base_name (piece_at input i).name) name
    owns = ap (λ (b : List ℕ). same_name b name) is_base

    go : (b : Bool) → same_name base name ≡ b → IsFirstUpTo input (i + 1) name (cond b (Some i) (old name))
    go true e =
        let here : base_name (piece_at input i).name ≡ name = sym is_base ∙ same_is base name e in
        first_taken input i name (old name) (first name) (and_from (is_used input i) (same_name (base_name (piece_at input i).name) name) used (sym owns ∙ e)) (ap (λ (n : List ℕ). option_map_or (λ first. is_lt (place_cmp input i first)) (old n) true) (sym here) ∙ earlier)
    go false e =
        first_extends input i name (old name) (first name) (and_false (is_used input i) (same_name (base_name (piece_at input i).name) name) (λ u. sym owns ∙ e))

-- the map after a piece that does not come before the owner of its base name
pub owner_stays : (input : Input) (i : ℕ) (name : List ℕ) (old : List ℕ → Option ℕ) → ((name : List ℕ) → IsFirstUpTo input i name (old name)) → option_map_or (λ first. is_lt (place_cmp input i first)) (old (base_name (piece_at input i).name)) true ≡ false → IsFirstUpTo input (i + 1) name (old name)
owner_stays input i name old first later = go (same_name (base_name (piece_at input i).name) name) refl
  where
    go : (b : Bool) → same_name (base_name (piece_at input i).name) name ≡ b → IsFirstUpTo input (i + 1) name (old name)
    go true e =
        let here : base_name (piece_at input i).name ≡ name = same_is (base_name (piece_at input i).name) name e in
        first_stays input i name (old name) (first name) (ap (λ (n : List ℕ). option_map_or (λ first. is_lt (place_cmp input i first)) (old n) true) (sym here) ∙ later)
    go false e =
        first_extends input i name (old name) (first name) (and_false (is_used input i) (same_name (base_name (piece_at input i).name) name) (λ used. e))

pub owner_unused : (input : Input) (i : ℕ) (name : List ℕ) (o : Option ℕ) → is_used input i ≡ false → IsFirstUpTo input i name o → IsFirstUpTo input (i + 1) name o
owner_unused input i name o unused first =
    first_extends input i name o first (and_false (is_used input i) (same_name (base_name (piece_at input i).name) name) (λ used. absurd (false≢true (sym unused ∙ used))))

pub owner_within : (input : Input) (name : List ℕ) (f : ℕ) → first_owner input name ≡ Some f → f < length input.pieces
unfolding first_owner
owner_within input name f e = (first_below-some (length input.pieces) f (is_first_owner input name) e).0
