use Rattle.res_merge.proofs.PositionLemmas.{tree_length_is}
use Rattle.res_merge.proofs.laws.a_tree_has_its_length.Goals as goal

pub returns : goal.returns
returns c = tree_length_is
