use Rattle.implib.proofs.Theorems.{rows_read}
use Rattle.implib.proofs.laws.members_are_read_back.Goals as goal

pub returns : goal.returns
returns c = rows_read
