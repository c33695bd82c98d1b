use Rattle.std.proofs.Common.{sym, ◌∙◌, Some, None}
use Rattle.export_tables.proofs.TextLemmas.{named_in_window}
use Rattle.export_tables.proofs.texts.is_text_at.Goals as goal

pub returns-in-Some : goal.returns-in-Some
returns-in-Some c =
    c.eq.ensures
    ∙ named_in_window c.args.memory.now c.args.name.now c.split_at.result.1.now c.split_at-2.result.0.now c.args.rva c.len-2.result (Some c.in-Some.text) c.split_at.ensures.back c.len-2.ensures c.split_at-2.ensures.front (sym c.in-Some.is ∙ c.cstr.ensures)

pub returns-in-None : goal.returns-in-None
returns-in-None c =
    named_in_window c.args.memory.now c.args.name.now c.split_at.result.1.now c.split_at-2.result.0.now c.args.rva c.len-2.result None c.split_at.ensures.back c.len-2.ensures c.split_at-2.ensures.front (sym c.in-None.is ∙ c.cstr.ensures)
