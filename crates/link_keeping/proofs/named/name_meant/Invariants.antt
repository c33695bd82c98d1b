use Rattle.link_keeping.proofs.MeantLemmas.{AreNamedUpTo}
use Rattle.link_keeping.proofs.named.name_meant.Given as goal

abbrev pub invariant-loop-k : goal.invariant-loop-k
invariant-loop-k l = AreNamedUpTo l.fn.pieces.items l.meant l.k l.pieces.items
