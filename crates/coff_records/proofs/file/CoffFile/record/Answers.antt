use Rattle.coff_records.proofs.HeaderLemmas.{record_is}
use Rattle.coff_records.proofs.file.CoffFile.record.Goals as goal

pub returns-clause-part : goal.returns-clause-part
returns-clause-part c =
    record_is _ c.args.self.now _ _ _ c.args.index c.self.view_is c.record_offset.ensures.place c.symbol_size.ensures.size c.slice_in.ensures.part
