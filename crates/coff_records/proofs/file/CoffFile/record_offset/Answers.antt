use Rattle.coff_records.proofs.HeaderLemmas.{record_place}
use Rattle.coff_records.proofs.file.CoffFile.record_offset.Goals as goal

pub returns-clause-place : goal.returns-clause-place
returns-clause-place c =
    record_place c.args.self.now c.symbols_offset.result c.symbol_size.result c.args.index c.symbols_offset.ensures c.symbol_size.ensures.size
