use Rattle.std.proofs.Common.{refl, arith}
use Rattle.pdb_msf.specs.BlockFile.{blocks_before}
use Rattle.pdb_msf.proofs.DirectoryLemmas.{len_most, one_more}
use Rattle.pdb_msf.proofs.directory.blocks_before.Goals as goal

pub loop-stream-init : goal.loop-stream-init
unfolding blocks_before
loop-stream-init c = (refl, omega arith)

pub overflow_add-blocks : goal.overflow_add-blocks
overflow_add-blocks c =
    let most = len_most c.args.bytes.now in
    let more = one_more c.args.bytes.now c.loop-stream.stream c.loop-stream.blocks c.blocks_for-blocks.result c.entry.result (omega arith) c.entry.ensures c.blocks_for-blocks.ensures c.loop-stream.invariant.0 c.loop-stream.invariant.1 in
    omega (arith, more.most, most, c.requires.sizes)

pub loop-stream-preserved : goal.loop-stream-preserved
loop-stream-preserved c =
    let more = one_more c.args.bytes.now c.loop-stream.stream c.loop-stream.blocks c.blocks_for-blocks.result c.entry.result (omega arith) c.entry.ensures c.blocks_for-blocks.ensures c.loop-stream.invariant.0 c.loop-stream.invariant.1 in
    (more.sum, more.most)
