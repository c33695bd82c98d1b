use Rattle.std.proofs.Common.{ℕ, None, option_map, get_or}
use Rattle.relocate.specs.Redirected.{redirected}
use Rattle.link_plan.proofs.MadeLemmas.{AreMadeUpTo}
use Rattle.link_plan.proofs.kept_fields.place_exports.Given as goal

abbrev pub invariant-loop-k : goal.invariant-loop-k
invariant-loop-k l = AreMadeUpTo (λ (k : ℕ). option_map (redirected l.places.places.now l.places.first l.places.table l.places.offsets.now) (get_or l.fn.targets.items k None)) None l.fn.targets.items l.k l.targets.items
