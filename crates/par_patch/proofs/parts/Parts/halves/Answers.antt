use Rattle.std.proofs.Common.{arith}
use Rattle.par_patch.proofs.PartLemmas.{halved}
use Rattle.par_patch.proofs.parts.Parts.halves.Goals as goal

pub returns : goal.returns
returns c = halved c.args.self.now _ c.requires.parts (omega arith) (omega arith)
