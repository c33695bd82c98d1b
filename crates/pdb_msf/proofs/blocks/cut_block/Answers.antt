use Rattle.std.proofs.Common.{◌*◌, arith}
use Rattle.pdb_msf.proofs.WritingLemmas.{cut_short}
use Rattle.pdb_msf.proofs.blocks.cut_block.Goals as goal

pub returns-then-rest-le-BLOCK_SIZE : goal.returns-then-rest-le-BLOCK_SIZE
returns-then-rest-le-BLOCK_SIZE c =
    cut_short c.args.bytes.now c.split_at.result.1.now (4096 * c.args.index) c.split_at.ensures.back (omega (arith, c.if-rest-le-BLOCK_SIZE.true))
