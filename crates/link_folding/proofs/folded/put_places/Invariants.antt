use Rattle.std.proofs.Common.{◌+◌}
use Rattle.icf.specs.Sections.{sections_of}
use Rattle.link_folding.specs.Steps.{ArePut}
use Rattle.link_folding.proofs.folded.put_places.Given as goal

abbrev pub invariant-loop-rank : goal.invariant-loop-rank
invariant-loop-rank l = ArePut (sections_of l.candidate) (sections_of l.first) (l.rank + 1) l.fn.places.items l.places.items
