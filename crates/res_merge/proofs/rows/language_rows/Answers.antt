use Rattle.std.proofs.Common.{ℕ, ◌+◌, List, ◌++◌, map, drop, get_or, ap, ◌∙◌, arith}
use Rattle.res_merge.specs.declared.rows.Row.{Row}
use Rattle.res_merge.specs.Entries.{Entry, entry_of}
use Rattle.res_merge.specs.Tree.{language_rows}
use Rattle.res_merge.proofs.RunLemmas.{any_resource, next_said, none_said}
use Rattle.res_merge.proofs.RowLemmas.{appended, ended, language_step, language_none}
use Rattle.res_merge.proofs.rows.language_rows.Goals as goal

pub loop-resource-preserved : goal.loop-resource-preserved
loop-resource-preserved c =
    let list = c.args.resources.now in
    let k = c.loop-resource.resource-index in
    let entry : Entry = entry_of (get_or list k any_resource) in
    let row : Row = record { id = entry.language; target = c.loop-resource.leaf } in
    record {
      found =
          ap (λ (rows : List Row). rows ++ language_rows (c.loop-resource.leaf + 16) (map entry_of (drop (k + 1) list))) c.in_ok-push.ensures.items
          ∙ appended c.loop-resource.found.items _ _ _ _ row c.loop-resource.invariant.found (language_step c.loop-resource.leaf entry (map entry_of (drop (k + 1) list)) _ (next_said list k c.loop-resource-test.true)) (ap (λ (id : ℕ). record { id = id; target = c.loop-resource.leaf }) c.from.ensures);
      leaf = omega (arith, c.loop-resource.invariant.leaf);
    }

pub returns : goal.returns
returns c =
    ended c.loop-resource.found.items _ _ c.loop-resource.invariant.found (language_none c.loop-resource.leaf _ (none_said c.args.resources.now c.loop-resource.resource-index (omega (arith, c.loop-resource-test.false))))
