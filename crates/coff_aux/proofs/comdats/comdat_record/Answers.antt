use Rattle.coff_aux.specs.Steps.{symbol_noted}
use Rattle.coff_aux.proofs.ComdatLemmas.{section_symbol_starts}
use Rattle.coff_aux.proofs.comdats.comdat_record.Goals as goal

pub said_by_first-requires : goal.said_by_first-requires
said_by_first-requires c =
    section_symbol_starts c.args.object.now c.args.number (symbol_noted c.args.first) c.requires.symbol
