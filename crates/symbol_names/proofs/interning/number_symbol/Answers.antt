use Rattle.std.proofs.Common.{subst}
use Rattle.symbol_names.specs.Interning.{Numbers}
use Rattle.symbol_names.proofs.NumberLemmas.{records_kept}
use Rattle.symbol_names.proofs.interning.number_symbol.Goals as goal

pub returns-clause-records : goal.returns-clause-records
returns-clause-records c =
    λ bytes named are. c.note_record.ensures c.number_of.new.names.keys bytes
    (record { starts = named.starts; named = subst (Numbers c.number_of.new.names.keys c.in_ok-number.number) named.name_is c.in_ok-number.ensures.numbered })
    (records_kept c.args.names.now.keys c.number_of.new.names.keys c.number_of.ensures.kept bytes c.args.records.now.items are)
