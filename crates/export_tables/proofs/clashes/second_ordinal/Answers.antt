use Rattle.std.proofs.Common.{sym, ◌∙◌, ap, subst}
use Rattle.std.proofs.lemmas.List.{get_or_read}
use Rattle.export_tables.specs.Ordinals.{no_export}
use Rattle.directives.specs.declared.item.Export.{Export}
use Rattle.export_tables.proofs.ClashLemmas.{OrdinalsSoFar, ordinals_none, second_ordinal_found, ordinals_more}
use Rattle.export_tables.proofs.clashes.second_ordinal.Goals as goal

pub loop-index-init : goal.loop-index-init
loop-index-init c = subst (OrdinalsSoFar c.args.rows.now 0) (sym c.new-ordinals.ensures.empty) (ordinals_none c.args.rows.now)

pub returns-then-is_second : goal.returns-then-is_second
returns-then-is_second c =
    let is = get_or_read c.args.rows.now c.loop-index.index c.index-rows-index.result c.loop-index-test.true c.index-rows-index.is no_export in
    second_ordinal_found c.args.rows.now c.loop-index.index c.loop-index.ordinals.keys c.index-rows-index.result.ordinal c.loop-index.invariant c.loop-index-test.true (ap (λ (row : Export). row.ordinal) is) (sym c.in_ok-is_second.ensures.again ∙ c.if-is_second.true)

pub loop-index-preserved : goal.loop-index-preserved
loop-index-preserved c =
    let is = get_or_read c.args.rows.now c.loop-index.index c.index-rows-index.result c.loop-index-test.true c.index-rows-index.is no_export in
    ordinals_more c.args.rows.now c.loop-index.index c.loop-index.ordinals.keys c.asks_again.new.ordinals.keys c.index-rows-index.result.ordinal c.loop-index.invariant c.loop-index-test.true (ap (λ (row : Export). row.ordinal) is) (c.in_ok-is_second.ensures.added c.if-is_second.false) (sym c.in_ok-is_second.ensures.again ∙ c.if-is_second.false)
