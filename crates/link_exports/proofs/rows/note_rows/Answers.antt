use Rattle.std.proofs.Common.{List, refl, arith}
use Rattle.directives.specs.declared.item.Export.{Export}
use Rattle.link_exports.proofs.RowLemmas.{rows_more}
use Rattle.link_exports.proofs.rows.note_rows.Goals as goal

pub loop-row-preserved : goal.loop-row-preserved
loop-row-preserved c = record {
  known = c.in_ok-note_row.ensures.known;
  rows = rows_more (λ (rows : List Export). rows) (λ xs ys. refl) c.args.noted.now.rows.items c.loop-row.noted.rows.items c.note_row.new.noted.rows.items c.args.rows.now c.loop-row.row-index c.row-item.result (omega arith) c.row-item.is c.loop-row.invariant.rows c.in_ok-note_row.ensures.rows;
}
