-- While edges are followed: what is marked is kept, and what is not pending is followed.
use Rattle.std.proofs.Common.{◌≡◌, ℕ, zero, suc, ◌<◌, ◌⊎◌, Bool, List, [], ◌∷◌, ◌++◌, length, refl, sym, ap, subst, ◌∙◌, inl, inr, arith}
use Rattle.std.specs.List.{Contains}
use Rattle.std.proofs.lemmas.List.Elements.{Contains-append_left, Contains-append_right, Contains-append_cases}
use Rattle.reach.specs.Paths.{LeadsTo, IsKept}
use Rattle.reach.specs.Marking.{IsMarked, IsFollowed, Marks}
use Rattle.reach.specs.declared.marking.Marking.{Marking}
use Rattle.reach.proofs.PathLemmas.{root_kept, next_kept, of_kept}
use Rattle.reach.proofs.MarkingLemmas.{marked_within}

pub record IsUnderway (pieces : ℕ) (edges : List (ℕ × ℕ)) (roots : List ℕ) (marking : Marking) : Type 0 where
  pub each_piece : length marking.kept.items ≡ pieces
  pub only : (piece : ℕ) → IsMarked marking.kept.items piece → IsKept pieces edges roots piece
  pub roots_marked : (piece : ℕ) → Contains roots piece → piece < pieces → IsMarked marking.kept.items piece
  pub pending : (piece : ℕ) → Contains marking.pending.items piece → IsMarked marking.kept.items piece
  pub followed : (piece : ℕ) → IsMarked marking.kept.items piece → Contains marking.pending.items piece ⊎ IsFollowed pieces edges marking.kept.items piece

no_item : {X : Type 0} (x : X) → Contains {X = X} [] x → ⊥
no_item x h = omega (arith, h.1)

module _ (pieces : ℕ) (edges : List (ℕ × ℕ)) (roots : List ℕ) where
  -- once the roots are marked
  pub underway_first : (none marking : Marking) → length none.kept.items ≡ pieces → ((piece : ℕ) → IsMarked none.kept.items piece → ⊥) → none.pending.items ≡ [] → Marks (Contains roots) none marking → ((piece : ℕ) → Contains roots piece → piece < pieces → IsMarked marking.kept.items piece) → IsUnderway pieces edges roots marking
  underway_first none marking each_piece unmarked empty marks roots_marked = record {
    each_piece = same;
    only = λ piece h. elim (marks.marks piece h) [
      | inl before ↦ absurd (unmarked piece before)
      | inr kind ↦ root_kept pieces edges roots piece kind.0 (subst (λ (n : ℕ). piece < n) same (marked_within marking.kept.items piece h))
    ];
    roots_marked = roots_marked;
    pending = λ piece h. elim (marks.makes_pending piece h) [
      | inl before ↦ absurd (no_item piece (subst (λ (list : List ℕ). Contains list piece) empty before))
      | inr marked ↦ marked
    ];
    followed = λ piece h. elim (marks.marks piece h) [
      | inl before ↦ absurd (unmarked piece before)
      | inr kind ↦ inl kind.1
    ];
  }
    where
      same : length marking.kept.items ≡ pieces
      same = marks.same_length ∙ each_piece

  -- once a pending piece is followed
  pub underway_more : (old popped new : Marking) (piece : ℕ) → IsUnderway pieces edges roots old → popped.kept.items ≡ old.kept.items → old.pending.items ≡ popped.pending.items ++ piece ∷ [] → Marks (LeadsTo edges piece) popped new → IsFollowed pieces edges new.kept.items piece → IsUnderway pieces edges roots new
  underway_more old popped new piece is kept pending marks follows = record {
    each_piece = same;
    only = λ other h. elim (marks.marks other h) [
      | inl before ↦ is.only other (was other before)
      | inr kind ↦ next_kept pieces edges roots piece other (is.only piece (is.pending piece listed)) kind.0 (subst (λ (n : ℕ). other < n) same (marked_within new.kept.items other h))
    ];
    roots_marked = λ other h lt. marks.stays other (will other (is.roots_marked other h lt));
    pending = λ other h. elim (marks.makes_pending other h) [
      | inl before ↦ marks.stays other (will other (is.pending other (subst (λ (list : List ℕ). Contains list other) (sym pending) (Contains-append_left popped.pending.items (piece ∷ []) other before))))
      | inr marked ↦ marked
    ];
    followed = λ other h. elim (marks.marks other h) [
      | inl before ↦ elim (is.followed other (was other before)) [
        | inl listed ↦ elim (Contains-append_cases popped.pending.items (piece ∷ []) other (subst (λ (list : List ℕ). Contains list other) pending listed)) [
          | inl still ↦ inl (marks.stays_pending other still)
          | inr here ↦ inr (subst (IsFollowed pieces edges new.kept.items) (last other here) follows)
        ]
        | inr done ↦ inr (λ next lt leads. marks.stays next (will next (done next lt leads)))
      ]
      | inr kind ↦ inl kind.1
    ];
  }
    where
      same : length new.kept.items ≡ pieces
      same = marks.same_length ∙ ap length kept ∙ is.each_piece

      was : (other : ℕ) → IsMarked popped.kept.items other → IsMarked old.kept.items other
      was other h = subst (λ (flags : List Bool). IsMarked flags other) kept h

      will : (other : ℕ) → IsMarked old.kept.items other → IsMarked popped.kept.items other
      will other h = subst (λ (flags : List Bool). IsMarked flags other) (sym kept) h

      listed : Contains old.pending.items piece
      listed = subst (λ (list : List ℕ). Contains list piece) (sym pending) (Contains-append_right popped.pending.items (piece ∷ []) piece (0, omega arith, refl))

      last : (other : ℕ) → Contains (piece ∷ []) other → piece ≡ other
      last other (zero, lt, e) = e
      last other (suc k, lt, e) = absurd (omega arith)

  -- once none is pending
  pub all_marked : (marking : Marking) → IsUnderway pieces edges roots marking → marking.pending.items ≡ [] → (piece : ℕ) → IsKept pieces edges roots piece → IsMarked marking.kept.items piece
  all_marked marking is none =
      of_kept pieces edges roots (IsMarked marking.kept.items) is.roots_marked
      (λ piece next marked leads lt. elim (is.followed piece marked) [
        | inl listed ↦ absurd (no_item piece (subst (λ (list : List ℕ). Contains list piece) none listed))
        | inr follows ↦ follows next lt leads
      ])
