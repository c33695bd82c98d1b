use Rattle.std.proofs.Common.{ℕ, ◌+◌, sym, subst, ◌∙◌}
use Rattle.section_group.specs.Gathering.{input_of, IsFirstSoFar}
use Rattle.section_group.proofs.ContentLemmas.{first_begins, first_moves, first_keeps, first_at_end}
use Rattle.section_group.proofs.content.first_piece.Goals as goal
use Rattle.section_group.proofs.content.first_piece.Goals.{then-precedes, else-precedes}

pub loop-index-init : goal.loop-index-init
loop-index-init c = first_begins (input_of c.args.parts.now) c.args.members.now c.requires.within c.requires.some

pub loop-index-preserved : goal.loop-index-preserved
loop-index-preserved c =
    let input = input_of c.args.parts.now in
    let members = c.args.members.now in
    let i = c.loop-index.index-index in
    elim c.if-precedes.branch [
      | then-precedes w ↦
          subst (λ (k : ℕ). IsFirstSoFar input members (i + 1) k) (sym w.first-is)
          (first_moves input members i c.loop-index.first c.requires.within c.loop-index-test.true c.loop-index.invariant (sym c.precedes.ensures ∙ w.if-precedes.true))
      | else-precedes w ↦
          subst (λ (k : ℕ). IsFirstSoFar input members (i + 1) k) (sym w.first-is)
          (first_keeps input members i c.loop-index.first c.loop-index.invariant (sym c.precedes.ensures ∙ w.if-precedes.false))
    ]

pub returns : goal.returns
returns c =
    first_at_end (input_of c.args.parts.now) c.args.members.now c.loop-index.index-index c.loop-index.first c.loop-index-test.false c.loop-index.invariant
