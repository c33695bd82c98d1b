use Rattle.std.proofs.Common.{None, option_map, arith}
use Rattle.relocate.specs.Redirected.{redirected}
use Rattle.link_plan.proofs.MadeLemmas.{each_made}
use Rattle.link_plan.proofs.kept_fields.place_exports.Goals as goal

pub returns : goal.returns
returns c =
    each_made (option_map (redirected c.args.places.now.places.now c.args.places.now.first c.args.places.now.table c.args.places.now.offsets.now)) None c.args.targets.now.items c.loop-k.k c.loop-k.targets.items (omega (arith, c.len-k-end.ensures)) c.loop-k.invariant
