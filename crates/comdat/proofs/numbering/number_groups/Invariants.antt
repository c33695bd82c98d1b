use Rattle.std.proofs.Common.{length}
use Rattle.comdat.proofs.NumberingLemmas.{Grouped}
use Rattle.comdat.proofs.numbering.number_groups.Given as goal

abbrev pub invariant-loop-index : goal.invariant-loop-index
invariant-loop-index l = Grouped l.entries (length l.names.keys) l.index l.groups.items l.numbers.items l.firsts.items
