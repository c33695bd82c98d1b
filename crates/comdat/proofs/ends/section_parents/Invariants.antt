use Rattle.std.proofs.Common.{◌≡◌, ◌∷◌, map}
use Rattle.std.specs.List.{range_with_len}
use Rattle.coff_records.specs.ObjectFile.{section_total}
use Rattle.comdat.specs.ChosenBy.{chosen_by, parent_by}
use Rattle.comdat.proofs.ends.section_parents.Given as goal

abbrev pub invariant-loop-index : goal.invariant-loop-index
invariant-loop-index l = l.parents.items ≡ 0 ∷ map (λ section. parent_by (section_total l.«module».bytes) (chosen_by l.«module».bytes section)) (range_with_len 1 l.index)
