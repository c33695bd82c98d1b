use Rattle.pdata_table.proofs.TableLemmas.{rows_sorted, begins_sorted, length_sorted, sorted_small}
use Rattle.pdata_table.proofs.laws.rows_of_sorted_table.Goals as goal

pub returns-clause-rows : goal.returns-clause-rows
returns-clause-rows c = rows_sorted

pub returns-clause-begins : goal.returns-clause-begins
returns-clause-begins c = begins_sorted

pub returns-clause-len : goal.returns-clause-len
returns-clause-len c = length_sorted

pub returns-clause-bytes : goal.returns-clause-bytes
returns-clause-bytes c = sorted_small
