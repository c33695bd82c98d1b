use Rattle.std.proofs.Common.{◌≡◌, take}
use Rattle.link_directives.proofs.merges.given_again.Given as goal

abbrev pub invariant-loop-from : goal.invariant-loop-from
invariant-loop-from l = l.merges.items ≡ take l.from-index l.given
