use Rattle.std.proofs.Common.{[], ◌∷◌, ◌++◌, ap, ◌∙◌}
use Rattle.std.specs.Prelude.{not}
use Rattle.std.specs.List.{list_any}
use Rattle.directives.specs.declared.item.Export.{Export}
use Rattle.link_exports.specs.Steps.{SaidRow}
use Rattle.link_exports.proofs.RowLemmas.{says_same, noted_now, noted_before}
use Rattle.link_exports.proofs.rows.note_row.Goals as goal

pub returns-in_ok-push-clause-rows : goal.returns-in_ok-push-clause-rows
returns-in_ok-push-clause-rows c =
    let rows = c.args.noted.now.rows.items in
    let keys = c.args.noted.now.said.keys in
    c.in_ok-push.ensures.items
    ∙ ap (λ (row : Export). rows ++ row ∷ []) c.again.ensures
    ∙ noted_now rows keys c.args.row.now c.in_ok-insert.field-0 c.requires.known
    (c.in_ok-insert.ensures.added ∙ ap (λ (said : SaidRow). not (list_any (says_same said) keys)) c.said_row.ensures) c.if-branch.true

pub returns-else-branch-clause-rows : goal.returns-else-branch-clause-rows
returns-else-branch-clause-rows c =
    let keys = c.args.noted.now.said.keys in
    noted_before c.args.noted.now.rows.items keys c.args.row.now c.in_ok-insert.field-0 c.requires.known
    (c.in_ok-insert.ensures.added ∙ ap (λ (said : SaidRow). not (list_any (says_same said) keys)) c.said_row.ensures) c.if-branch.false
