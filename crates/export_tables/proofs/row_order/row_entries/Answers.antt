use Rattle.std.proofs.Common.{◌≡◌, sym, ◌∙◌}
use Rattle.std.proofs.lemmas.List.{get_or_read}
use Rattle.export_tables.specs.Ordinals.{no_export, row_at}
use Rattle.export_tables.proofs.NameOrderLemmas.{entry_more, named_entry}
use Rattle.export_tables.proofs.row_order.row_entries.Goals as goal

pub loop-index-preserved : goal.loop-index-preserved
loop-index-preserved c =
    let rows = c.args.rows.now in
    let k = c.loop-index.index in
    let row : c.index-rows-index.result ≡ row_at rows k = get_or_read rows k c.index-rows-index.result c.loop-index-test.true c.index-rows-index.is no_export in
    entry_more rows k c.loop-index.entries.items c.push.new.self.items _ c.loop-index.invariant
    (named_entry rows k _ c.again.result c.again.ensures (sym c.index-rows-index.is ∙ row)) c.in_ok-push.ensures.items
