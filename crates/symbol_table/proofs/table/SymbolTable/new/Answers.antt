use Rattle.symbol_table.proofs.TableLemmas.{table_begins}
use Rattle.symbol_table.proofs.table.SymbolTable.new.Goals as goal

pub invariant_of-result : goal.invariant_of-result
invariant_of-result c =
    table_begins c.given_names.new.names.keys c.asked_by_words.new.names.keys c.in_ok-given.given c.new.result.items c.in_ok-asked.asked c.args.words.now c.asked_by_words.ensures.kept c.in_ok-asked.ensures.distinct c.new.ensures.items c.in_ok-given.ensures.words c.in_ok-given.ensures.noted c.in_ok-asked.ensures.list c.in_ok-asked.ensures.provided c.in_ok-asked.ensures.sought
