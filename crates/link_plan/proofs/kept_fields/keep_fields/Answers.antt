use Rattle.std.proofs.Common.{ℕ, [], false, map, get_or, arith}
use Rattle.relocate.specs.Redirected.{redirected_fix}
use Rattle.link_plan.specs.Planned.{fixes_if}
use Rattle.link_plan.proofs.MadeLemmas.{all_made}
use Rattle.link_plan.proofs.kept_fields.keep_fields.Goals as goal

pub returns : goal.returns
returns c =
    all_made (λ (k : ℕ). fixes_if (get_or c.args.kept.now k false) (map (redirected_fix c.args.places.now.places.now c.args.places.now.first c.args.places.now.table c.args.places.now.offsets.now) (get_or c.args.fixups.now.items k []))) [] c.args.fixups.now.items c.loop-k.k c.loop-k.fixups.items (omega (arith, c.len-k-end.ensures)) c.loop-k.invariant
