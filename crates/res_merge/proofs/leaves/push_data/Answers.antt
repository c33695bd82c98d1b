use Rattle.std.proofs.Common.{ℕ, ◌+◌, List, ◌++◌, length, map, drop, get_or, ap, ◌∙◌, arith}
use Rattle.std.specs.Prelude.{replicate}
use Rattle.res_merge.specs.Entries.{Entry, entry_of}
use Rattle.res_merge.specs.Tree.{data_from, padding}
use Rattle.res_merge.proofs.RunLemmas.{any_resource, next_said, none_said}
use Rattle.res_merge.proofs.WritingLemmas.{written, all_written, data_written, data_end}
use Rattle.res_merge.proofs.leaves.push_data.Goals as goal

pub loop-resource-preserved : goal.loop-resource-preserved
loop-resource-preserved c =
    let list = c.args.resources.now in
    let k = c.loop-resource.resource-index in
    let entry : Entry = entry_of (get_or list k any_resource) in
    let rest : List Entry = map entry_of (drop (k + 1) list) in
    let out = c.loop-resource.out.items in
    let zeros : List ℕ = replicate c.loop-resource.zeros 0 in
    record {
      written =
          ap (λ (items : List ℕ). items ++ data_from c.padding-zeros.result rest) (c.in_ok-extend_from_slice.ensures.items ∙ ap (λ (items : List ℕ). items ++ entry.body) c.in_ok-push_zeros.ensures)
          ∙ ap (λ (n : ℕ). ((out ++ zeros) ++ entry.body) ++ data_from n rest) c.padding-zeros.ensures.is
          ∙ written (out ++ zeros) _ entry.body (data_from (padding (length entry.body)) rest) (entry.body ++ data_from (padding (length entry.body)) rest)
          (written out _ zeros (entry.body ++ data_from (padding (length entry.body)) rest) _ c.loop-resource.invariant.written (data_written c.loop-resource.zeros entry rest _ (next_said list k c.loop-resource-test.true)))
          (λ i. entry.body ++ data_from (padding (length entry.body)) rest);
      few = c.padding-zeros.ensures.few;
    }

pub returns : goal.returns
returns c =
    all_written c.loop-resource.out.items _ _ c.loop-resource.invariant.written (data_end c.loop-resource.zeros _ (none_said c.args.resources.now c.loop-resource.resource-index (omega (arith, c.loop-resource-test.false))))
