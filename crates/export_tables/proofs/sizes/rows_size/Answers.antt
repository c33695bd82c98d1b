use Rattle.std.proofs.Common.{◌≡◌, refl, ap, ◌∙◌, arith}
use Rattle.std.proofs.lemmas.List.{get_or_read}
use Rattle.export_tables.specs.ExportTable.{no_row, row_at, row_size, rows_size}
use Rattle.export_tables.proofs.EntryLemmas.{rows_more}
use Rattle.export_tables.proofs.sizes.rows_size.Goals as goal

pub loop-index-init : goal.loop-index-init
unfolding rows_size
loop-index-init c = record { sum = refl; bound = omega arith }

pub loop-index-preserved : goal.loop-index-preserved
loop-index-preserved c =
    let row : c.index-rows-index.result ≡ row_at c.args.rows.now c.loop-index.index = get_or_read c.args.rows.now c.loop-index.index c.index-rows-index.result c.loop-index-test.true c.index-rows-index.is no_row in
    let size = c.row_size-size.ensures.size ∙ ap row_size row in
    record {
      sum = omega (arith, c.loop-index.invariant.sum, size, rows_more c.args.rows.now c.loop-index.index c.loop-index-test.true);
      bound = omega (arith, c.loop-index.invariant.bound, c.row_size-size.ensures.bound);
    }
