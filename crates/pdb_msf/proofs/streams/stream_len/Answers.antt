use Rattle.std.proofs.Common.{arith}
use Rattle.pdb_msf.proofs.StreamLemmas.{sizes_there}
use Rattle.pdb_msf.proofs.streams.stream_len.Goals as goal

pub entry-requires-clause-index : goal.entry-requires-clause-index
entry-requires-clause-index c =
    let long = sizes_there c.args.bytes.now c.requires in
    omega (arith, long)

pub entry-requires-2-clause-index : goal.entry-requires-2-clause-index
entry-requires-2-clause-index c =
    let long = sizes_there c.args.bytes.now c.requires in
    omega (arith, long, c.entry.ensures, c.if-stream-entry.false)
