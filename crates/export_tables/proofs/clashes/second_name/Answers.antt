use Rattle.std.proofs.Common.{sym, ◌∙◌, ap, subst}
use Rattle.std.proofs.lemmas.List.{get_or_read}
use Rattle.export_tables.specs.Ordinals.{no_export}
use Rattle.directives.specs.declared.item.Export.{Export}
use Rattle.export_tables.proofs.ClashLemmas.{NamesSoFar, names_none, second_name_found, names_more}
use Rattle.export_tables.proofs.clashes.second_name.Goals as goal

pub loop-index-init : goal.loop-index-init
loop-index-init c = subst (NamesSoFar c.args.rows.now 0) (sym c.new-names.ensures.empty) (names_none c.args.rows.now)

pub returns-then-not-is_new : goal.returns-then-not-is_new
returns-then-not-is_new c =
    let is = get_or_read c.args.rows.now c.loop-index.index c.index-rows-index.result c.loop-index-test.true c.index-rows-index.is no_export in
    second_name_found c.args.rows.now c.loop-index.index c.loop-index.names.keys c.again.result c.in_ok-is_new.is_new c.loop-index.invariant c.loop-index-test.true (c.again.ensures ∙ ap (λ (row : Export). row.name) is) c.in_ok-is_new.ensures.added c.if-not-is_new.true

pub loop-index-preserved : goal.loop-index-preserved
loop-index-preserved c =
    let is = get_or_read c.args.rows.now c.loop-index.index c.index-rows-index.result c.loop-index-test.true c.index-rows-index.is no_export in
    names_more c.args.rows.now c.loop-index.index c.loop-index.names.keys c.insert.new.self.keys c.again.result c.in_ok-is_new.is_new c.loop-index.invariant c.loop-index-test.true (c.again.ensures ∙ ap (λ (row : Export). row.name) is) c.in_ok-is_new.ensures.added c.in_ok-is_new.ensures.keys c.if-not-is_new.false
