use Rattle.std.proofs.Common.{arith}
use Rattle.section_group.specs.BarePieces.{bare}
use Rattle.debug_rows.specs.Publics.{slot_public}
use Rattle.debug_rows.proofs.ListLemmas.{kept_numbered_grows}
use Rattle.debug_rows.proofs.slot_publics.push_slots.Goals as goal

pub loop-k-preserved : goal.loop-k-preserved
loop-k-preserved c =
    kept_numbered_grows (slot_public c.args.names.now) bare c.loop-k.k c.args.pieces.now c.index-pieces-k.result c.args.publics.now.items c.loop-k.publics.items c.push_slot.new.publics.items (omega arith) c.index-pieces-k.is c.loop-k.invariant c.in_ok-push_slot.ensures
