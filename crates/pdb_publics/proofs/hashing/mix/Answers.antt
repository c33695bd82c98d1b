use Rattle.std.proofs.Common.{arith}
use Rattle.pdb_publics.proofs.HashLemmas.{mixed_step}
use Rattle.pdb_publics.proofs.hashing.mix.Goals as goal

pub loop-rest-preserved : goal.loop-rest-preserved
loop-rest-preserved c =
    mixed_step c.args.text.now c.loop-rest.rest.now c.split_at.result.1.now c.loop-rest.mixed c.u32_in-mixed.result c.loop-rest.invariant (omega (arith, c.loop-rest-test.true)) c.u32_in-mixed.ensures c.split_at.ensures.back
