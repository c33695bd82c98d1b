use Rattle.res_merge.proofs.Theorems.{resources_found}
use Rattle.res_merge.proofs.laws.resources_are_found_in_their_tree.Goals as goal

pub returns : goal.returns
returns c = resources_found
