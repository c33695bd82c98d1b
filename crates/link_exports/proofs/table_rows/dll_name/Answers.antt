use Rattle.std.proofs.Common.{sym, ◌∙◌}
use Rattle.link_exports.proofs.SlashLemmas.{behind_last, behind_none}
use Rattle.link_exports.proofs.table_rows.dll_name.Goals as goal

pub returns-in-Some : goal.returns-in-Some
returns-in-Some c = c.split_at.ensures.back ∙ sym (behind_last c.args.out.now c.in-Some.slash c.in-Some.ensures)

pub returns-in-None : goal.returns-in-None
returns-in-None c = sym (behind_none c.args.out.now c.in-None.ensures)
