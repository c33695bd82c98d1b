use Rattle.section_group.proofs.Theorems.{one_grouping}
use Rattle.section_group.proofs.laws.one_grouping.Goals as goal

pub returns : goal.returns
returns c = one_grouping
