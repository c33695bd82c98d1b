use Rattle.std.proofs.Common.{sym, ◌∙◌, arith}
use Rattle.pdb_msf.proofs.StreamLemmas.{list_within, no_blocks, joined_grows_by}
use Rattle.pdb_msf.proofs.streams.stream_bytes.Goals as goal

pub loop-index-init : goal.loop-index-init
loop-index-init c = c.in_ok-out.ensures.items ∙ sym (no_blocks c.args.bytes.now c.args.stream)

pub listed_block-requires-clause-last : goal.listed_block-requires-clause-last
listed_block-requires-clause-last c =
    let within = list_within c.args.bytes.now c.args.stream c.loop-index.index c.requires.stream (omega (arith, c.loop-index-test.true, c.blocks_for-count.ensures, c.requires.len)) in
    omega (arith, within, c.list_of-list.ensures.place)

pub loop-index-preserved : goal.loop-index-preserved
loop-index-preserved c =
    joined_grows_by c.args.bytes.now c.args.stream c.loop-index.index c.list_of-list.result c.loop-index.out.items _ c.listed_block.result.now c.list_of-list.ensures.place c.loop-index.invariant c.listed_block.ensures.block c.in_ok-extend_from_slice.ensures.items
