use Rattle.std.proofs.Common.{◌∙◌, arith}
use Rattle.std.proofs.lemmas.List.{get_or_default}
use Rattle.module_view.specs.Module.{no_module}
use Rattle.link_imports.specs.Imports.{row_if}
use Rattle.link_imports.proofs.RowLemmas.{rows_more, count_more}
use Rattle.link_imports.proofs.imports.import_rows.Goals as goal

pub loop-position-preserved : goal.loop-position-preserved
loop-position-preserved c =
    let k = c.loop-position.position in
    let m = c.index-modules-position.result in
    let read = c.index-modules-position.is ∙ get_or_default c.args.modules.now k m no_module (omega arith) in
    let now = c.loop-position.rows.items in
    let after = c.push_row.new.rows.items in
    let before = c.loop-position.invariant in
    record {
      rows = rows_more c.args.modules.now c.args.kept.now k m c.is_kept.result now after read c.is_kept.ensures before.rows c.in_ok-push_row.ensures.rows;
      few = count_more now after (row_if c.is_kept.result m) k c.in_ok-push_row.ensures.rows before.few;
      told = c.in_ok-push_row.ensures.told before.told;
    }
