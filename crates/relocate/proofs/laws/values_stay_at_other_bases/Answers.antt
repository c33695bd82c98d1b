use Rattle.relocate.proofs.BaseLemmas.{value_stays, value_moves, bytes_stay, range_stays, no_range_stays}
use Rattle.relocate.proofs.laws.values_stay_at_other_bases.Goals as goal

pub returns-clause-stays : goal.returns-clause-stays
returns-clause-stays c = value_stays

pub returns-clause-moves : goal.returns-clause-moves
returns-clause-moves c = value_moves

pub returns-clause-bytes : goal.returns-clause-bytes
returns-clause-bytes c = bytes_stay

pub returns-clause-range : goal.returns-clause-range
returns-clause-range c = range_stays

pub returns-clause-in_range : goal.returns-clause-in_range
returns-clause-in_range c = no_range_stays
