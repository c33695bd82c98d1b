use Rattle.link_base.specs.Bytes.{is_nul}
use Rattle.link_base.proofs.FoundLemmas.{before_place, before_none}
use Rattle.coff_records.proofs.ranges.before_nul.Goals as goal

pub returns-in-Some-clause-text : goal.returns-in-Some-clause-text
returns-in-Some-clause-text c = before_place is_nul c.args.bytes.now _ c.in-Some.ensures

pub returns-in-None-clause-text : goal.returns-in-None-clause-text
returns-in-None-clause-text c = before_none is_nul c.args.bytes.now c.in-None.ensures
