use Rattle.coff_object.proofs.Readable.{start_of, symbol_whole}
use Rattle.coff_object.proofs.object.Object.symbol_record.Goals as goal

pub symbol-requires-clause-whole : goal.symbol-requires-clause-whole
symbol-requires-clause-whole c =
    symbol_whole _ c.args.j c.self.invariant.well_formed (start_of _ _ c.args.j c.self.view_is c.requires)
