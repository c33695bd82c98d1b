use Rattle.std.proofs.Common.{◌≡◌, ◌++◌, replicate}
use Rattle.link_plan.proofs.LaidLemmas.{no_fix}
use Rattle.link_plan.proofs.kept_fields.push_none.Given as goal

abbrev pub invariant-loop : goal.invariant-loop
invariant-loop l = l.fixups.items ≡ l.fn.fixups.items ++ replicate l.counter no_fix
