use Rattle.link_folding.proofs.NumberLemmas.{AreOwn}
use Rattle.link_folding.proofs.candidates.own_candidates.Given as goal

abbrev pub invariant-loop-k : goal.invariant-loop-k
invariant-loop-k l = AreOwn l.names l.kept l.k l.found
