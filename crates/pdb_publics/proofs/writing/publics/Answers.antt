use Rattle.std.proofs.Common.{arith}
use Rattle.pdb_publics.proofs.StreamLemmas.{map_fits}
use Rattle.pdb_publics.proofs.writing.publics.Goals as goal

pub overflow_cast-placed : goal.overflow_cast-placed
overflow_cast-placed c = let fits = map_fits c.args.hashed.now c.args.placed.now in omega (arith, fits, c.requires.publics)
