use Rattle.base_reloc.proofs.RaiseNothing.{have_bytes}
use Rattle.base_reloc.proofs.RaisedBytes.{raised_by_bytes}
use Rattle.base_reloc.proofs.SettledLemmas.{raised_is}
use Rattle.base_reloc.proofs.laws.raised_numbers_settle_a_memory.Goals as goal

pub returns-clause-numbers : goal.returns-clause-numbers
returns-clause-numbers c fields old new delta first second = raised_is fields old new delta (have_bytes old first) (have_bytes new second)

pub returns-clause-bytes : goal.returns-clause-bytes
returns-clause-bytes c = raised_by_bytes
