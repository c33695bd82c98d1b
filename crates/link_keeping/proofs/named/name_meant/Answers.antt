use Rattle.std.proofs.Common.{arith}
use Rattle.link_keeping.proofs.MeantLemmas.{all_named}
use Rattle.link_keeping.proofs.named.name_meant.Goals as goal

pub returns : goal.returns
returns c =
    all_named c.args.pieces.now.items c.args.meant.now c.loop-k.k c.loop-k.pieces.items (omega (arith, c.len-k-end.ensures)) c.loop-k.invariant
