use Rattle.pdb_publics.proofs.ReadLemmas.{byte_missing}
use Rattle.pdb_publics.proofs.stream.byte_in.Goals as goal

pub returns-in-None : goal.returns-in-None
returns-in-None c = byte_missing c.args.msf.now c.args.stream c.args.at c.in-None.ensures
