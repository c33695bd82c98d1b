use Rattle.pdata_table.proofs.TableLemmas.{sorted_table_is}
use Rattle.pdata_table.proofs.laws.sorted_table_is_the_only_one.Goals as goal

pub returns : goal.returns
returns c = sorted_table_is
