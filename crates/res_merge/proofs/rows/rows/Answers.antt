use Rattle.std.proofs.Common.{◌≡◌, ℕ, ◌+◌, List, ◌∷◌, ◌++◌, map, drop, get_or, sym, ap, ◌∙◌, arith}
use Rattle.res_merge.specs.declared.rows.Row.{Row}
use Rattle.res_merge.specs.Runs.{Run}
use Rattle.res_merge.specs.Levels.{key_at, run_of}
use Rattle.res_merge.specs.Tree.{HIGH_BIT, row_id, text_size, table_size, rows}
use Rattle.res_merge.proofs.RowLemmas.{any_run, drop_said, drop_none, appended, ended, rows_step, rows_none, texts_step, tables_step}
use Rattle.res_merge.proofs.rows.rows.Goals as goal

pub loop-run-preserved : goal.loop-run-preserved
loop-run-preserved c =
    let list = c.args.runs.now in
    let k = c.loop-run.run-index in
    let run : Run = run_of (get_or list k any_run) in
    let rest : List Run = map run_of (drop (k + 1) list) in
    let next : map run_of (drop k list) ≡ run ∷ rest = drop_said run_of list k any_run c.loop-run-test.true in
    let size : c.text_size-text.result ≡ text_size (key_at c.args.level run) = c.text_size-text.ensures ∙ ap text_size c.key_at-key.ensures in
    let id : c.row_id.result ≡ row_id c.loop-run.text (key_at c.args.level run) = c.row_id.ensures ∙ ap (row_id c.loop-run.text) c.key_at-key.ensures in
    record {
      found =
          ap (λ (found : List Row). found ++ rows (key_at c.args.level) (c.loop-run.text + c.text_size-text.result) (c.loop-run.table + c.table_size-table.result) rest) c.in_ok-push.ensures.items
          ∙ appended c.loop-run.found.items _ _ _ _ (record { id = row_id c.loop-run.text (key_at c.args.level run); target = HIGH_BIT + c.loop-run.table }) c.loop-run.invariant.found
          (rows_step (key_at c.args.level) c.loop-run.text c.loop-run.table run rest _ next
          ∙ ap (λ (n : ℕ). record { id = row_id c.loop-run.text (key_at c.args.level run); target = HIGH_BIT + c.loop-run.table } ∷ rows (key_at c.args.level) (c.loop-run.text + n) (c.loop-run.table + table_size run.count) rest) (sym size)
          ∙ ap (λ (n : ℕ). record { id = row_id c.loop-run.text (key_at c.args.level run); target = HIGH_BIT + c.loop-run.table } ∷ rows (key_at c.args.level) (c.loop-run.text + c.text_size-text.result) (c.loop-run.table + n) rest) (sym c.table_size-table.ensures))
          (ap (λ (n : ℕ). record { id = n; target = HIGH_BIT + c.loop-run.table }) id);
      texts = omega (arith, c.loop-run.invariant.texts, size, texts_step (key_at c.args.level) run rest _ next);
      tables = omega (arith, c.loop-run.invariant.tables, c.table_size-table.ensures, tables_step run rest _ next);
    }

pub returns : goal.returns
returns c =
    ended c.loop-run.found.items _ _ c.loop-run.invariant.found (rows_none (key_at c.args.level) c.loop-run.text c.loop-run.table _ (drop_none run_of c.args.runs.now c.loop-run.run-index (omega (arith, c.loop-run-test.false))))
