use Rattle.export_tables.proofs.TextLemmas.{ends_after, ends_nowhere}
use Rattle.std.proofs.Common.{subst}
use Rattle.memchr.specs.Find.{IsLastByte}
use Rattle.link_base.specs.Bytes.{is_nul}
use Rattle.export_tables.proofs.texts.texts_end.Goals as goal

pub returns-in-Some : goal.returns-in-Some
returns-in-Some c = ends_after c.args.memory.now c.in-Some.at (subst (IsLastByte is_nul c.args.memory.now) c.in-Some.is c.memrchr.ensures)

pub returns-in-None : goal.returns-in-None
returns-in-None c = ends_nowhere c.args.memory.now (subst (IsLastByte is_nul c.args.memory.now) c.in-None.is c.memrchr.ensures)
