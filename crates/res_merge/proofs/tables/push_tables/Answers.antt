use Rattle.std.proofs.Common.{ℕ, ◌+◌, List, ◌++◌, map, take, drop, get_or, ap, ◌∙◌, arith}
use Rattle.std.proofs.lemmas.List.Sums.{sum_by-cons}
use Rattle.std.specs.List.{sum_by}
use Rattle.res_merge.specs.declared.rows.Row.{Row}
use Rattle.res_merge.specs.Runs.{Run}
use Rattle.res_merge.specs.Levels.{run_of}
use Rattle.res_merge.specs.Tree.{table, tables}
use Rattle.res_merge.proofs.RowLemmas.{any_run, drop_said, drop_none}
use Rattle.res_merge.proofs.WritingLemmas.{written, all_written, tables_written, tables_end}
use Rattle.res_merge.proofs.tables.push_tables.Goals as goal

abbrev run_count : Run → ℕ
run_count run = run.count

pub split_at-requires : goal.split_at-requires
split_at-requires c =
    let list = c.args.runs.now in
    let k = c.loop-run.run-index in
    let run : Run = run_of (get_or list k any_run) in
    let next = drop_said run_of list k any_run c.loop-run-test.true in
    omega (arith, c.loop-run.invariant.counts, ap (sum_by run_count) next, sum_by-cons run_count run (map run_of (drop (k + 1) list)))

pub loop-run-preserved : goal.loop-run-preserved
loop-run-preserved c =
    let list = c.args.runs.now in
    let k = c.loop-run.run-index in
    let run : Run = run_of (get_or list k any_run) in
    let rest : List Run = map run_of (drop (k + 1) list) in
    let next = drop_said run_of list k any_run c.loop-run-test.true in
    record {
      written =
          ap (λ (items : List ℕ). items ++ tables c.args.time rest c.split_at.result.1.now) (c.in_ok-push_table.ensures ∙ ap (λ (rows : List Row). c.loop-run.out.items ++ table c.args.time rows) c.split_at.ensures.front)
          ∙ ap (λ (rows : List Row). (c.loop-run.out.items ++ table c.args.time (take run.count c.loop-run.rest.now)) ++ tables c.args.time rest rows) c.split_at.ensures.back
          ∙ written c.loop-run.out.items _ _ (tables c.args.time rest (drop run.count c.loop-run.rest.now)) _ c.loop-run.invariant.written (tables_written c.args.time run rest _ c.loop-run.rest.now next);
      few = omega (arith, c.loop-run.invariant.few, c.split_at.ensures.back_len);
      counts = omega (arith, c.loop-run.invariant.counts, c.split_at.ensures.back_len, ap (sum_by run_count) next, sum_by-cons run_count run rest);
    }

pub returns : goal.returns
returns c =
    all_written c.loop-run.out.items _ _ c.loop-run.invariant.written (tables_end c.args.time _ c.loop-run.rest.now (drop_none run_of c.args.runs.now c.loop-run.run-index (omega (arith, c.loop-run-test.false))))
