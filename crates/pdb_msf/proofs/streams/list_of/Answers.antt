use Rattle.std.proofs.Common.{arith}
use Rattle.pdb_msf.proofs.DirectoryLemmas.{len_most}
use Rattle.pdb_msf.proofs.StreamLemmas.{sizes_there}
use Rattle.pdb_msf.proofs.streams.list_of.Goals as goal

pub entry-requires-clause-index : goal.entry-requires-clause-index
entry-requires-clause-index c =
    let long = sizes_there c.args.bytes.now c.requires.opened in
    omega (arith, long)

pub overflow_add-result : goal.overflow_add-result
overflow_add-result c = omega arith

pub blocks_before-requires-clause-sizes : goal.blocks_before-requires-clause-sizes
blocks_before-requires-clause-sizes c =
    let long = sizes_there c.args.bytes.now c.requires.opened in
    omega (arith, long, c.requires.stream)

pub overflow_add-result-2 : goal.overflow_add-result-2
overflow_add-result-2 c =
    let long = sizes_there c.args.bytes.now c.requires.opened in
    let most = len_most c.args.bytes.now in
    omega (arith, long, most, c.requires.stream, c.blocks_before.ensures.most)

pub returns-clause-small : goal.returns-clause-small
returns-clause-small c =
    let long = sizes_there c.args.bytes.now c.requires.opened in
    let most = len_most c.args.bytes.now in
    omega (arith, long, most, c.requires.stream, c.blocks_before.ensures.most)
