use Rattle.std.proofs.Common.{length, ap, arith}
use Rattle.link_folding.proofs.ChildLemmas.{all_gathered}
use Rattle.link_folding.proofs.candidates.fold_candidates.Goals as goal

pub returns : goal.returns
returns c =
    all_gathered c.args.names.now c.args.kept.now c.loop-position.found c.loop-position.position (omega (arith, ap length c.requires.same)) c.loop-position.invariant
