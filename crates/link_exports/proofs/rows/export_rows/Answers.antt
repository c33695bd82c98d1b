use Rattle.std.proofs.Common.{[], arith}
use Rattle.link_exports.proofs.RowLemmas.{modules_more}
use Rattle.link_exports.proofs.rows.export_rows.Goals as goal

pub loop-module-preserved : goal.loop-module-preserved
loop-module-preserved c = record {
  known = c.in_ok-note_directives.ensures.known;
  rows = modules_more c.args.options.now.exports.items [] c.loop-module.noted.rows.items c.note_directives.new.noted.rows.items c.args.modules.now c.loop-module.module-index c.module-item.result c.directives.result.now (omega arith) c.module-item.is c.directives.ensures.directives c.loop-module.invariant.rows c.in_ok-note_directives.ensures.rows;
}
