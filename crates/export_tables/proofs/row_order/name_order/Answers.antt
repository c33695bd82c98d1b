use Rattle.export_tables.proofs.NameOrderLemmas.{order_is}
use Rattle.export_tables.proofs.row_order.name_order.Goals as goal

pub returns : goal.returns
returns c =
    order_is c.args.rows.now c.in_ok-entries.entries.items c.sort.new.names.items c.deref.result.now _ c.in_ok-entries.ensures c.sort.ensures.permutation c.sort.ensures.sorted c.deref.ensures.value c.in_ok-order.ensures
