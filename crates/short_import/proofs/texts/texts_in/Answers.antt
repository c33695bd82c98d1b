use Rattle.std.proofs.Common.{sym}
use Rattle.short_import.proofs.WholeLemmas.{header_uncut, header_there}
use Rattle.short_import.proofs.texts.texts_in.Goals as goal

pub import_data-texts-requires : goal.import_data-texts-requires
import_data-texts-requires c = header_uncut _ (sym c.in_default.ensures)

pub returns-clause-header : goal.returns-clause-header
returns-clause-header c = header_there _ (sym c.in_default.ensures)
