use Rattle.std.proofs.Common.{arith}
use Rattle.debug_rows.specs.Contributions.{contribution_at}
use Rattle.debug_rows.proofs.ListLemmas.{kept_grows}
use Rattle.debug_rows.proofs.contribution_rows.push_pieces.Goals as goal

pub loop-index-preserved : goal.loop-index-preserved
loop-index-preserved c =
    kept_grows (contribution_at c.args.modules.now c.args.pieces.now c.args.rvas.now c.args.number c.args.start) c.loop-index.index-index c.args.indexes.now 0 c.args.list.now.items c.loop-index.list.items c.push_piece.new.list.items (omega arith) c.loop-index.invariant c.in_ok-push_piece.ensures
