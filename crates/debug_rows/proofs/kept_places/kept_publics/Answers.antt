use Rattle.std.proofs.Common.{[], arith}
use Rattle.debug_rows.specs.KeptPublics.{kept_public}
use Rattle.debug_rows.proofs.ListLemmas.{kept_item_grows}
use Rattle.debug_rows.proofs.kept_places.kept_publics.Goals as goal

pub loop-public-preserved : goal.loop-public-preserved
loop-public-preserved c =
    kept_item_grows (kept_public c.args.kept.now c.args.places.now c.args.first c.args.table c.args.offsets.now) c.loop-public.public-index c.args.publics.now c.public-item.result [] c.loop-public.list.items c.push_kept.new.list.items (omega arith) c.public-item.is c.loop-public.invariant c.in_ok-push_kept.ensures
