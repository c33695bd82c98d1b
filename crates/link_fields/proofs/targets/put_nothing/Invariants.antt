use Rattle.std.proofs.Common.{◌≡◌, None, replicate}
use Rattle.link_fields.proofs.targets.put_nothing.Given as goal

abbrev pub invariant-loop : goal.invariant-loop
invariant-loop l = l.targets.items ≡ replicate l.counter None
