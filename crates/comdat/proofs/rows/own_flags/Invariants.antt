use Rattle.comdat.specs.ChosenBy.{by_choices}
use Rattle.comdat.proofs.RowLemmas.{RowSoFar}
use Rattle.comdat.proofs.rows.own_flags.Given as goal

abbrev pub invariant-loop-choice : goal.invariant-loop-choice
invariant-loop-choice l = RowSoFar (by_choices l.choices) l.selected l.rest l.flags.items l.choice-index
