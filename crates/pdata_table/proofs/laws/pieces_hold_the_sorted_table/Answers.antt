use Rattle.pdata_table.proofs.PartLemmas.{rows_together, length-sorted_at, sorted_beside}
use Rattle.pdata_table.proofs.laws.pieces_hold_the_sorted_table.Goals as goal

pub returns-clause-rows : goal.returns-clause-rows
returns-clause-rows c = rows_together

pub returns-clause-len : goal.returns-clause-len
returns-clause-len c = length-sorted_at

pub returns-clause-beside : goal.returns-clause-beside
returns-clause-beside c = sorted_beside
