use Rattle.std.proofs.Common.{arith, sym, ◌∙◌, ◌/◌}
use Rattle.pdb_msf.proofs.StreamLemmas.{stream_there, list_within, byte_there, block_is}
use Rattle.pdb_msf.proofs.streams.stream_byte.Goals as goal

pub listed_block-block-requires-clause-last : goal.listed_block-block-requires-clause-last
listed_block-block-requires-clause-last c =
    let there = stream_there c.args.bytes.now c.args.stream c.in_ok-len.len (sym c.in_ok-len.was ∙ c.stream_len.ensures) in
    let within = list_within c.args.bytes.now c.args.stream (c.args.offset / 4096) there.there (omega (arith, there.len_is, c.if-offset-len.false)) in
    omega (arith, within, c.list_of-list.ensures.place)

pub returns : goal.returns
returns c =
    let there = stream_there c.args.bytes.now c.args.stream c.in_ok-len.len (sym c.in_ok-len.was ∙ c.stream_len.ensures) in
    byte_there c.args.bytes.now c.args.stream c.args.offset c.listed_block-block.result.now c.requires there.there (omega (arith, there.len_is, c.if-offset-len.false))
    (block_is c.args.bytes.now c.args.stream c.list_of-list.result (c.args.offset / 4096) c.listed_block-block.result.now c.list_of-list.ensures.place c.listed_block-block.ensures.block)
