use Rattle.std.proofs.Common.{◌∙◌}
use Rattle.coff_records.proofs.HeaderLemmas.{size_of_form}
use Rattle.coff_records.proofs.file.CoffFile.symbol_size.Goals as goal

pub returns-clause-size : goal.returns-clause-size
returns-clause-size c = c.symbol_size.ensures ∙ size_of_form _ _ _ c.self.view_is c.self.invariant.form
