use Rattle.address_layout.proofs.Theorems.{one_layout}
use Rattle.address_layout.proofs.laws.one_layout.Goals as goal

pub returns : goal.returns
returns c = one_layout
