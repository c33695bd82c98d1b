use Rattle.pdb_msf.proofs.DirectoryLemmas.{block_index}
use Rattle.pdb_msf.proofs.directory.entry.Goals as goal

pub directory_block-block-requires-clause-index : goal.directory_block-block-requires-clause-index
directory_block-block-requires-clause-index c = block_index c.args.bytes.now c.args.index c.requires.index
