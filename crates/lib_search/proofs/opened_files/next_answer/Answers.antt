use Rattle.std.proofs.Common.{sym, ◌∙◌}
use Rattle.lib_search.proofs.OpenedFileLemmas.{next_holds}
use Rattle.lib_search.proofs.opened_files.next_answer.Goals as goal

pub returns-then-is_module : goal.returns-then-is_module
returns-then-is_module c = λ later held.
    next_holds c.args.file.now later c.args.answers.now c.next.new.self c.next.result (sym c.is_module.ensures ∙ c.if-is_module.true) c.next.ensures.cases held
