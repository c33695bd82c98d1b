use Rattle.std.proofs.Common.{arith}
use Rattle.pdb_msf.proofs.DirectoryLemmas.{listed_there, len_most}
use Rattle.pdb_msf.proofs.judging.is_listed_block.Goals as goal

pub entry-streams-requires-clause-index : goal.entry-streams-requires-clause-index
entry-streams-requires-clause-index c = (listed_there c.args.bytes.now c.args.index c.requires.index).some

pub overflow_add-streams-2 : goal.overflow_add-streams-2
overflow_add-streams-2 c =
    let there = listed_there c.args.bytes.now c.args.index c.requires.index in
    let most = len_most c.args.bytes.now in
    omega (arith, there.within, most, c.entry-streams.ensures)

pub entry-requires-clause-index : goal.entry-requires-clause-index
entry-requires-clause-index c =
    let there = listed_there c.args.bytes.now c.args.index c.requires.index in
    omega (arith, there.within, c.entry-streams.ensures)
