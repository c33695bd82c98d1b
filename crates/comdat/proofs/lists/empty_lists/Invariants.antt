use Rattle.comdat.specs.Numbering.{AreEmpty}
use Rattle.comdat.proofs.lists.empty_lists.Given as goal

abbrev pub invariant-loop : goal.invariant-loop
invariant-loop l = AreEmpty l.counter l.lists.items
