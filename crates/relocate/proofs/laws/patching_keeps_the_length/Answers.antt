use Rattle.relocate.proofs.BaseLemmas.{length_patched, nothing_patched}
use Rattle.relocate.proofs.laws.patching_keeps_the_length.Goals as goal

pub returns-clause-length : goal.returns-clause-length
returns-clause-length c = length_patched

pub returns-clause-no_relocations : goal.returns-clause-no_relocations
returns-clause-no_relocations c = nothing_patched
