use Rattle.std.proofs.Common.{sym, ap, refl, ◌∙◌, arith}
use Rattle.coff_records.specs.SymbolRecord.{aux_count_in}
use Rattle.coff_records.proofs.SymbolsLemmas.{entries_end, entries_step, one_less}
use Rattle.coff_records.proofs.symbols.SymbolsIterator.next.Goals as goal

pub returns-then-index-count-clause-steps : goal.returns-then-index-count-clause-steps
returns-then-index-count-clause-steps c =
    let none = sym c.self.view_is ∙ entries_end c.self.inside.file c.self.inside.index (omega arith) in (none, none)

pub returns-clause-steps : goal.returns-clause-steps
returns-clause-steps c =
    sym c.self.view_is ∙ entries_step c.self.inside.file c.self.inside.index c.next_start-self-inside.result c.aux.result c.symbol-symbol.result (omega arith) c.symbol-symbol.ensures (c.aux.ensures ∙ ap aux_count_in c.symbol-symbol.ensures) (λ lt. c.next_start-self-inside.ensures.there (omega arith) ∙ refl) (λ le. c.next_start-self-inside.ensures.beyond (omega arith) ∙ c.record_count-count.ensures)

pub returns-clause-goes : goal.returns-clause-goes
returns-clause-goes c =
    let less = one_less _ _ _ (returns-clause-steps c) in record { on = λ _. (tt, tt, less); keeps = tt; rests = λ _. tt }
