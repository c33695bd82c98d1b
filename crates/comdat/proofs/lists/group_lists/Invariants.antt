use Rattle.std.proofs.Common.{length}
use Rattle.comdat.specs.Numbering.{AreLists}
use Rattle.comdat.proofs.lists.group_lists.Given as goal

abbrev pub invariant-loop-index : goal.invariant-loop-index
invariant-loop-index l =
    AreLists l.numbering.numbers.items l.index (length l.numbering.firsts.items) l.lists.items
