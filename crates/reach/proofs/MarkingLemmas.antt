-- Marking: one piece, and one after another.
use Rattle.std.proofs.Common.{◌≡◌, ℕ, zero, suc, ◌+◌, ◌<◌, Bool, true, false, not, cond, List, [], ◌∷◌, ◌++◌, length, get_or, set, refl, sym, ap, subst, ◌∙◌, inl, inr, length-append, arith}
use Rattle.std.specs.List.{Contains, count_by}
use Rattle.std.proofs.Math.ListN.{length-set}
use Rattle.std.proofs.lemmas.Bool.{cases_eq, cases_lt, false≢true}
use Rattle.std.proofs.lemmas.List.{get_or-set_same, get_or-set_other, get_or_past}
use Rattle.std.proofs.lemmas.List.Elements.{Contains-append_left, Contains-append_right, Contains-append_cases}
use Rattle.std.proofs.lemmas.List.Sums.{sum_by-set}
use Rattle.reach.specs.Marking.{IsMarked, Marks}
use Rattle.reach.specs.declared.marking.Marking.{Marking}

pub Marks-none : (Kind : ℕ → Type 0) (marking : Marking) → Marks Kind marking marking
Marks-none Kind marking = record {
  same_length = refl;
  stays = λ piece h. h;
  marks = λ piece h. inl h;
  stays_pending = λ piece h. h;
  makes_pending = λ piece h. inl h;
  work = refl;
}

pub Marks-then : (Kind More : ℕ → Type 0) (old now new : Marking) → ((piece : ℕ) → More piece → Kind piece) → Marks Kind old now → Marks More now new → Marks Kind old new
Marks-then Kind More old now new wider was is = record {
  same_length = is.same_length ∙ was.same_length;
  stays = λ piece h. is.stays piece (was.stays piece h);
  marks = λ piece h. elim (is.marks piece h) [
    | inl before ↦ elim (was.marks piece before) [
      | inl first ↦ inl first
      | inr kind ↦ inr (kind.0, is.stays_pending piece kind.1)
    ]
    | inr kind ↦ inr (wider piece kind.0, kind.1)
  ];
  stays_pending = λ piece h. is.stays_pending piece (was.stays_pending piece h);
  makes_pending = λ piece h. elim (is.makes_pending piece h) [
    | inl before ↦ elim (was.makes_pending piece before) [
      | inl first ↦ inl first
      | inr marked ↦ inr (is.stays piece marked)
    ]
    | inr marked ↦ inr marked
  ];
  work = is.work ∙ was.work;
}

-- what is marked is a piece
pub marked_within : (kept : List Bool) (piece : ℕ) → IsMarked kept piece → piece < length kept
marked_within kept piece marked =
    elim (cases_lt piece (length kept)) [
      | inl lt ↦ lt
      | inr past ↦ absurd (false≢true (sym (get_or_past kept piece false past) ∙ marked))
    ]

-- one more mark leaves one fewer piece that is not marked
one_fewer : (kept : List Bool) (piece : ℕ) → piece < length kept → get_or kept piece false ≡ false → count_by not (set kept piece true) + 1 ≡ count_by not kept
one_fewer kept piece lt unmarked =
    let f : Bool → ℕ = λ b. cond (not b) 1 0 in
    let counts = sum_by-set f kept piece true false lt in
    let one : f (get_or kept piece false) ≡ 1 = ap f unmarked in
    omega (arith, counts, one)

pub Marks-one : (old new : Marking) (piece : ℕ) → piece < length old.kept.items → get_or old.kept.items piece false ≡ false → new.kept.items ≡ set old.kept.items piece true → new.pending.items ≡ old.pending.items ++ piece ∷ [] → Marks (λ other. other ≡ piece) old new
Marks-one old new piece lt unmarked kept pending = record {
  same_length = ap length kept ∙ length-set old.kept.items piece true;
  stays = λ other h. elim (cases_eq other piece) [
    | inl here ↦ subst (IsMarked new.kept.items) (sym here) marked
    | inr apart ↦ ap (λ (flags : List Bool). get_or flags other false) kept ∙ get_or-set_other old.kept.items piece other true false apart ∙ h
  ];
  marks = λ other h. elim (cases_eq other piece) [
    | inl here ↦ inr (here, subst (Contains new.pending.items) (sym here) listed)
    | inr apart ↦ inl (sym (ap (λ (flags : List Bool). get_or flags other false) kept ∙ get_or-set_other old.kept.items piece other true false apart) ∙ h)
  ];
  stays_pending = λ other h. subst (λ (list : List ℕ). Contains list other) (sym pending) (Contains-append_left old.pending.items (piece ∷ []) other h);
  makes_pending = λ other h. elim (Contains-append_cases old.pending.items (piece ∷ []) other (subst (λ (list : List ℕ). Contains list other) pending h)) [
    | inl before ↦ inl before
    | inr last ↦ inr (subst (IsMarked new.kept.items) (only piece other last) marked)
  ];
  work = omega (arith, ap length pending, length-append old.pending.items (piece ∷ []), ap (count_by not) kept, one_fewer old.kept.items piece lt unmarked);
}
  where
    marked : IsMarked new.kept.items piece
    marked = ap (λ (flags : List Bool). get_or flags piece false) kept ∙ get_or-set_same old.kept.items piece true false lt

    listed : Contains new.pending.items piece
    listed = subst (λ (list : List ℕ). Contains list piece) (sym pending) (Contains-append_right old.pending.items (piece ∷ []) piece (0, omega arith, refl))

    only : (piece other : ℕ) → Contains (piece ∷ []) other → piece ≡ other
    only piece other (zero, lt, is) = is
    only piece other (suc k, lt, is) = absurd (omega arith)
