use Rattle.std.proofs.Common.{refl, sym, ◌∙◌, ap}
use Rattle.std.proofs.lemmas.List.{get_or_read}
use Rattle.link_base.specs.Bytes.{first_below}
use Rattle.link_base.proofs.CallerLemmas.{first_below-more}
use Rattle.export_tables.specs.Ordinals.{no_export, is_zero, asks_for_zero}
use Rattle.directives.specs.declared.item.Export.{Export}
use Rattle.export_tables.proofs.ClashLemmas.{zero_found}
use Rattle.export_tables.proofs.clashes.zero_ordinal.Goals as goal

pub loop-index-init : goal.loop-index-init
unfolding first_below
loop-index-init c = refl

pub returns-then-is_zero : goal.returns-then-is_zero
returns-then-is_zero c =
    let is = get_or_read c.args.rows.now c.loop-index.index c.index-rows-index.result c.loop-index-test.true c.index-rows-index.is no_export in
    zero_found c.args.rows.now c.loop-index.index c.loop-index-test.true c.loop-index.invariant
    (ap (λ (row : Export). is_zero row.ordinal) (sym is) ∙ sym c.is_zero.ensures ∙ c.if-is_zero.true)

pub loop-index-preserved : goal.loop-index-preserved
loop-index-preserved c =
    let is = get_or_read c.args.rows.now c.loop-index.index c.index-rows-index.result c.loop-index-test.true c.index-rows-index.is no_export in
    first_below-more c.loop-index.index (asks_for_zero c.args.rows.now) c.loop-index.invariant
    (ap (λ (row : Export). is_zero row.ordinal) (sym is) ∙ sym c.is_zero.ensures ∙ c.if-is_zero.false)
