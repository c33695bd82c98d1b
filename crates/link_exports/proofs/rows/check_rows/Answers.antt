use Rattle.std.proofs.Common.{[], ◌∷◌, ◌++◌, take, sym, ap, ◌∙◌, subst, arith}
use Rattle.std.specs.List.{All}
use Rattle.std.proofs.lemmas.List.{take_all, take_more}
use Rattle.std.proofs.lemmas.List.Elements.{All-nil, All-cons, All-append}
use Rattle.directives.specs.declared.item.Export.{Export}
use Rattle.link_exports.specs.Exports.{CanBeTold}
use Rattle.link_exports.proofs.rows.check_rows.Goals as goal

pub returns-clause-told : goal.returns-clause-told
returns-clause-told c =
    subst (All CanBeTold) (take_all c.loop-row.row-index c.args.rows.now (omega arith)) c.loop-row.invariant

pub loop-row-preserved : goal.loop-row-preserved
loop-row-preserved c =
    let rows = c.args.rows.now in
    let k = c.loop-row.row-index in
    let row = c.row-item.result in
    subst (All CanBeTold) (sym (take_more rows k row (omega arith) ∙ ap (λ (r : Export). take k rows ++ r ∷ []) (sym c.row-item.is)))
    (All-append CanBeTold (take k rows) (row ∷ []) c.loop-row.invariant (All-cons CanBeTold row [] c.in_ok-check_row.ensures (All-nil CanBeTold)))
