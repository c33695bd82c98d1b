use Rattle.std.proofs.Common.{◌≡◌, sym, ap, subst, arith, option_map}
use Rattle.std.proofs.lemmas.List.{get_or_read}
use Rattle.link_base.specs.declared.kinds.export.ExportFault.TheVariants.{TooMany}
use Rattle.export_tables.specs.Ordinals.{no_export, row_at, ordinal_of, has_great_ordinal, bad_row, first_bad, RefusesOrdinals}
use Rattle.export_tables.proofs.OrdinalLemmas.{NumberedSoFar, numbered_none, numbered_more, great_found, given_is}
use Rattle.export_tables.proofs.ordinals.numbered.Goals as goal

pub loop-index-init : goal.loop-index-init
loop-index-init c = subst (NumberedSoFar c.args.rows.now 0) (sym c.in_ok-ordinals.ensures.items) (numbered_none c.args.rows.now)

pub returns-then-ordinal-from-clause-refused : goal.returns-then-ordinal-from-clause-refused
returns-then-ordinal-from-clause-refused c =
    let rows = c.args.rows.now in
    let row : c.index-rows-index.result ≡ row_at rows c.loop-index.index = get_or_read rows c.loop-index.index c.index-rows-index.result c.loop-index-test.true c.index-rows-index.is no_export in
    let ordinal : c.ordinal_above-ordinal.result ≡ ordinal_of rows (row_at rows c.loop-index.index) =
    given_is rows c.in_ok-names.names.items c.sort.new.names.items c.deref.result.now c.index-rows-index.result (row_at rows c.loop-index.index) c.greatest-most.result c.ordinal_above-ordinal.result c.greatest-most.ensures c.in_ok-names.ensures c.sort.ensures.permutation c.deref.ensures.value row c.ordinal_above-ordinal.ensures in
    subst (RefusesOrdinals (first_bad TooMany rows (has_great_ordinal rows))) (sym c.bad.ensures)
    (ap (option_map (bad_row TooMany)) (great_found rows c.loop-index.index c.loop-index.ordinals.items c.ordinal_above-ordinal.result c.loop-index.invariant c.loop-index-test.true ordinal (omega (arith, c.if-ordinal-from.true, c.from.ensures))))

pub loop-index-preserved : goal.loop-index-preserved
loop-index-preserved c =
    let rows = c.args.rows.now in
    let row : c.index-rows-index.result ≡ row_at rows c.loop-index.index = get_or_read rows c.loop-index.index c.index-rows-index.result c.loop-index-test.true c.index-rows-index.is no_export in
    let ordinal : c.ordinal_above-ordinal.result ≡ ordinal_of rows (row_at rows c.loop-index.index) =
    given_is rows c.in_ok-names.names.items c.sort.new.names.items c.deref.result.now c.index-rows-index.result (row_at rows c.loop-index.index) c.greatest-most.result c.ordinal_above-ordinal.result c.greatest-most.ensures c.in_ok-names.ensures c.sort.ensures.permutation c.deref.ensures.value row c.ordinal_above-ordinal.ensures in
    numbered_more rows c.loop-index.index c.loop-index.ordinals.items c.push.new.self.items c.ordinal_above-ordinal.result c.loop-index.invariant c.loop-index-test.true ordinal (omega (arith, c.if-ordinal-from.false, c.from.ensures)) c.in_ok-push.ensures.items
