use Rattle.std.proofs.Common.{◌+◌}
use Rattle.pdb_msf.specs.WrittenFile.{stream_total}
use Rattle.pdb_msf.proofs.WritingLemmas.{streams_step, streams_done}
use Rattle.pdb_msf.proofs.writing.push_streams.Goals as goal

pub loop-len-preserved : goal.loop-len-preserved
loop-len-preserved c =
    let step = streams_step c.args.total c.loop-len.n (c.args.first + stream_total c.args.lengths.now) c.loop-len.len-index c.blocks_for-n.result c.args.lengths.now c.loop-len.rest.now c.split_at.result.0.now c.split_at.result.1.now c.loop-len.out.items c.push_blocks.new.out.items _ c.loop-len-test.true c.loop-len.invariant.whole c.loop-len.invariant.end c.split_at.ensures.front c.split_at.ensures.back c.blocks_for-n.ensures c.in_ok-push_blocks.ensures c.loop-len.invariant.laid_out in
    record { whole = step.left; end = step.counted; laid_out = step.laid_out }

pub returns : goal.returns
returns c =
    streams_done c.args.total c.loop-len.n c.loop-len.len-index c.args.lengths.now c.loop-len.rest.now c.loop-len.out.items _ c.loop-len-test.false c.loop-len.invariant.laid_out
