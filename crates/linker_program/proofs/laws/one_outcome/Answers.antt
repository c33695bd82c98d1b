use Rattle.linker_program.proofs.OutcomeLemmas.{one_outcome}
use Rattle.linker_program.proofs.laws.one_outcome.Goals as goal

pub returns : goal.returns
returns c = one_outcome
