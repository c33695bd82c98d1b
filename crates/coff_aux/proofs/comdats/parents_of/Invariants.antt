use Rattle.std.proofs.Common.{◌≡◌, ◌∷◌, map, take, length}
use Rattle.coff_aux.specs.Comdats.{parent_in}
use Rattle.coff_aux.proofs.comdats.parents_of.Given as goal

abbrev pub invariant-loop-index : goal.invariant-loop-index
invariant-loop-index l =
    l.parents.items ≡ 0 ∷ map (parent_in (length l.records)) (take l.index l.records)
