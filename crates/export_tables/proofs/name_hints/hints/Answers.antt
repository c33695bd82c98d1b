use Rattle.std.proofs.Common.{◌≡◌, arith}
use Rattle.std.proofs.lemmas.List.{get_or_read}
use Rattle.export_tables.specs.Ordinals.{no_export, row_at}
use Rattle.export_tables.specs.Hints.{hint_of}
use Rattle.export_tables.proofs.HintLemmas.{hint_is, sorted_few, hints_more}
use Rattle.export_tables.proofs.name_hints.hints.Goals as goal

pub overflow_cast-hint_in : goal.overflow_cast-hint_in
overflow_cast-hint_in c =
    omega (arith, c.hint_in.ensures.most, c.requires, sorted_few c.args.rows.now c.in_ok-names.names.items c.sort.new.names.items c.deref.result.now c.in_ok-names.ensures c.sort.ensures.permutation c.deref.ensures.value)

pub loop-row-preserved : goal.loop-row-preserved
loop-row-preserved c =
    let rows = c.args.rows.now in
    let k = c.loop-row.row-index in
    let is : c.row-item.result ≡ row_at rows k = get_or_read rows k c.row-item.result c.loop-row-test.true c.row-item.is no_export in
    let hint : c.hint_in.result ≡ hint_of rows (row_at rows k) =
    hint_is rows c.in_ok-names.names.items c.sort.new.names.items c.deref.result.now c.row-item.result (row_at rows k) c.hint_in.result c.in_ok-names.ensures c.sort.ensures.permutation c.deref.ensures.value is c.hint_in.ensures.hint in
    hints_more rows k c.loop-row.hints.items c.push.new.self.items c.hint_in.result c.loop-row-test.true c.loop-row.invariant hint c.in_ok-push.ensures.items
