use Rattle.std.proofs.Common.{◌≡◌, ◌+◌, length, subst, sym, arith, ◌∙◌}
use Rattle.indexmap.specs.IndexMap.{get}
use Rattle.section_group.specs.Merging.{same_name}
use Rattle.section_group.specs.Gathering.{input_of, IsFirstUpTo}
use Rattle.section_group.proofs.OwnerLemmas.{owner_unused, first_is}
use Rattle.section_group.proofs.PartLemmas.{used_at}
use Rattle.section_group.proofs.owners.first_owners.Goals as goal
use Rattle.section_group.proofs.owners.first_owners.Goals.{then-parts-index+in_ok-take_owner, else-parts-index}

pub loop-index-preserved : goal.loop-index-preserved
loop-index-preserved c = λ name.
    let input = input_of c.args.parts.now in
    let i = c.loop-index.index in
    elim c.if-parts-index.branch [
      | then-parts-index+in_ok-take_owner w ↦
          subst (λ m. IsFirstUpTo input (i + 1) name (get same_name m name)) (sym w.owners-is) (w.in_ok-take_owner.ensures name)
      | else-parts-index w ↦
          subst (λ m. IsFirstUpTo input (i + 1) name (get same_name m name)) (sym w.owners-is) (owner_unused input i name (get same_name c.loop-index.owners name) (used_at input i c.loop-index-test.true ∙ w.if-parts-index.false) (c.loop-index.invariant name))
    ]

pub returns : goal.returns
returns c = λ name.
    let input = input_of c.args.parts.now in
    let all : c.loop-index.index ≡ length c.args.parts.now.pieces.now = omega arith in
    first_is input name _ (subst (λ n. IsFirstUpTo input n name (get same_name c.loop-index.owners name)) all (c.loop-index.invariant name))
