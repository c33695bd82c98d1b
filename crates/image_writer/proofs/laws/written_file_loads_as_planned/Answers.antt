use Rattle.image_writer.proofs.RelocatableLemmas.{stays_means, moves_means}
use Rattle.image_writer.proofs.laws.written_file_loads_as_planned.Goals as goal

pub returns-clause-stays : goal.returns-clause-stays
returns-clause-stays c = stays_means

pub returns-clause-moves : goal.returns-clause-moves
returns-clause-moves c = moves_means
