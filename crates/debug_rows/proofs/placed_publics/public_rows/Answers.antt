use Rattle.std.proofs.Common.{[], arith}
use Rattle.section_group.specs.Uniqueness.{rows_of}
use Rattle.debug_rows.specs.PlacedPublics.{placed_row}
use Rattle.debug_rows.proofs.ListLemmas.{kept_item_grows}
use Rattle.debug_rows.proofs.placed_publics.public_rows.Goals as goal

pub loop-public-preserved : goal.loop-public-preserved
loop-public-preserved c =
    kept_item_grows (placed_row c.args.owner.now (rows_of c.args.sections.now) c.args.layout.now.sections.items c.args.layout.now.pieces.items) c.loop-public.public-index c.args.publics.now c.public-item.result [] c.loop-public.rows.items c.push_row.new.rows.items (omega arith) c.public-item.is c.loop-public.invariant c.in_ok-push_row.ensures
