use Rattle.std.proofs.Common.{◌+◌, ◌<◌, List, [], ◌∷◌, ◌++◌, length, map, drop, get_or, sym, ap, ◌∙◌, arith}
use Rattle.std.proofs.lemmas.List.{map-append}
use Rattle.res_merge.specs.declared.runs.Run as code
use Rattle.res_merge.specs.Entries.{Entry, entry_of}
use Rattle.res_merge.specs.Runs.{Run, runs, run_before}
use Rattle.res_merge.specs.Levels.{same_at, run_of}
use Rattle.res_merge.proofs.RunLemmas.{runs_begin, runs_none, same_step, other_step, end_runs, any_resource, next_said, none_said}
use Rattle.res_merge.proofs.runs.runs.Goals as goal

pub returns-then-is_empty : goal.returns-then-is_empty
returns-then-is_empty c =
    ap (map run_of) c.new-found.ensures.items ∙ runs_none (same_at c.args.level)
    ∙ ap (runs (same_at c.args.level)) (sym (none_said c.args.list.now 0 (grind arith)))

pub loop-k-init : goal.loop-k-init
loop-k-init c =
    let some : 0 < length c.args.list.now = grind arith in
    let list = c.args.list.now in
    record {
      few = omega arith;
      found =
          ap (λ (xs : List code.Run). map run_of xs ++ run_before (same_at c.args.level) (entry_of (get_or list 0 any_resource)) 1 (runs (same_at c.args.level) (map entry_of (drop 1 list)))) c.new-found.ensures.items
          ∙ runs_begin (same_at c.args.level) (entry_of (get_or list 0 any_resource)) (map entry_of (drop 1 list))
          ∙ ap (runs (same_at c.args.level)) (sym (next_said list 0 some));
    }

pub loop-k-preserved-then-is_same : goal.loop-k-preserved-then-is_same
loop-k-preserved-then-is_same c =
    let list = c.args.list.now in
    let k = c.loop-k.k in
    record {
      few = omega (arith, c.loop-k.invariant.few);
      found = same_step c.args.level (map run_of c.loop-k.found.items) (runs (same_at c.args.level) (map entry_of list)) (entry_of c.loop-k.head) (entry_of (get_or list k any_resource)) c.loop-k.count (map entry_of (drop (k + 1) list))
          (ap (λ (rest : List Entry). map run_of c.loop-k.found.items ++ run_before (same_at c.args.level) (entry_of c.loop-k.head) c.loop-k.count (runs (same_at c.args.level) rest)) (sym (next_said list k c.loop-k-test.true)) ∙ c.loop-k.invariant.found)
          (sym c.is_same.ensures ∙ c.if-is_same.true);
    }

pub loop-k-preserved : goal.loop-k-preserved
loop-k-preserved c =
    let list = c.args.list.now in
    let k = c.loop-k.k in
    let run : code.Run = record { head = c.loop-k.head; count = c.loop-k.count } in
    record {
      few = omega arith;
      found =
          ap (λ (xs : List code.Run). map run_of xs ++ run_before (same_at c.args.level) (entry_of (get_or list k any_resource)) 1 (runs (same_at c.args.level) (map entry_of (drop (k + 1) list)))) c.in_ok-push.ensures.items
          ∙ ap (λ (xs : List Run). xs ++ run_before (same_at c.args.level) (entry_of (get_or list k any_resource)) 1 (runs (same_at c.args.level) (map entry_of (drop (k + 1) list)))) (map-append run_of c.loop-k.found.items (run ∷ []))
          ∙ other_step c.args.level (map run_of c.loop-k.found.items) (runs (same_at c.args.level) (map entry_of list)) (entry_of c.loop-k.head) (entry_of (get_or list k any_resource)) c.loop-k.count (map entry_of (drop (k + 1) list))
          (ap (λ (rest : List Entry). map run_of c.loop-k.found.items ++ run_before (same_at c.args.level) (entry_of c.loop-k.head) c.loop-k.count (runs (same_at c.args.level) rest)) (sym (next_said list k c.loop-k-test.true)) ∙ c.loop-k.invariant.found)
          (sym c.is_same.ensures ∙ c.if-is_same.false);
    }

pub returns : goal.returns
returns c =
    let list = c.args.list.now in
    let run : code.Run = record { head = c.loop-k.head; count = c.loop-k.count } in
    ap (map run_of) c.in_ok-push-2.ensures.items
    ∙ map-append run_of c.loop-k.found.items (run ∷ [])
    ∙ end_runs (same_at c.args.level) (map run_of c.loop-k.found.items) (runs (same_at c.args.level) (map entry_of list)) (entry_of c.loop-k.head) c.loop-k.count
    (ap (λ (rest : List Entry). map run_of c.loop-k.found.items ++ run_before (same_at c.args.level) (entry_of c.loop-k.head) c.loop-k.count (runs (same_at c.args.level) rest)) (sym (none_said list c.loop-k.k (omega (arith, c.loop-k-test.false)))) ∙ c.loop-k.invariant.found)
