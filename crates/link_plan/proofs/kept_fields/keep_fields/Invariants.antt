use Rattle.std.proofs.Common.{ℕ, [], false, map, get_or}
use Rattle.relocate.specs.Redirected.{redirected_fix}
use Rattle.link_plan.specs.Planned.{fixes_if}
use Rattle.link_plan.proofs.MadeLemmas.{AreMadeUpTo}
use Rattle.link_plan.proofs.kept_fields.keep_fields.Given as goal

abbrev pub invariant-loop-k : goal.invariant-loop-k
invariant-loop-k l = AreMadeUpTo (λ (k : ℕ). fixes_if (get_or l.kept k false) (map (redirected_fix l.places.places.now l.places.first l.places.table l.places.offsets.now) (get_or l.fn.fixups.items k []))) [] l.fn.fixups.items l.k l.fixups.items
