use Rattle.std.proofs.Common.{◌≡◌, ◌∷◌, length, map, take}
use Rattle.comdat.specs.ChosenBy.{parent_by, by_choices}
use Rattle.comdat.proofs.rows.parents.Given as goal

abbrev pub invariant-loop-choice : goal.invariant-loop-choice
invariant-loop-choice l =
    l.parents.items ≡ 0 ∷ map (parent_by (length l.choices)) (by_choices (take l.choice-index l.choices))
