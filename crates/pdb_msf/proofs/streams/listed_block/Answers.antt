use Rattle.std.proofs.Common.{arith}
use Rattle.pdb_msf.proofs.StreamLemmas.{directory_of, sizes_there, listed_in}
use Rattle.pdb_msf.proofs.streams.listed_block.Goals as goal

pub entry-requires-clause-directory : goal.entry-requires-clause-directory
entry-requires-clause-directory c = directory_of c.args.bytes.now c.requires.opened

pub entry-requires-clause-index : goal.entry-requires-clause-index
entry-requires-clause-index c =
    let long = sizes_there c.args.bytes.now c.requires.opened in
    omega (arith, long, c.requires.last)

pub slice_in-requires : goal.slice_in-requires
slice_in-requires c =
    let fits = listed_in c.args.bytes.now c.args.place c.requires.opened c.requires.first c.requires.last in
    omega (arith, fits, c.entry.ensures)
