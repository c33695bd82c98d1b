use Rattle.par_patch.proofs.Theorems.{one_range}
use Rattle.par_patch.proofs.laws.one_least_range.Goals as goal

pub returns : goal.returns
returns c = one_range
