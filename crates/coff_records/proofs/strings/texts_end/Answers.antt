use Rattle.coff_records.proofs.TextLemmas.{ends_at, ends_nowhere}
use Rattle.coff_records.proofs.strings.texts_end.Goals as goal

pub returns-in-Some : goal.returns-in-Some
returns-in-Some c = ends_at _ _ c.in-Some.ensures

pub returns-in-None : goal.returns-in-None
returns-in-None c = ends_nowhere _ c.in-None.ensures
