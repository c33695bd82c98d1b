use Rattle.std.proofs.Common.{ℕ, ◌+◌, List, ◌∷◌, ◌++◌, length, map, drop, get_or, ap, ◌∙◌, arith}
use Rattle.res_merge.specs.Entries.{Entry, entry_of}
use Rattle.res_merge.specs.Tree.{data_from, leaves}
use Rattle.res_merge.specs.ResourceFile.{aligned}
use Rattle.res_merge.proofs.RunLemmas.{any_resource, next_said}
use Rattle.res_merge.proofs.WritingLemmas.{written, leaf_fields, leaves_written, data_size, data_more}
use Rattle.res_merge.proofs.leaves.push_leaves.Goals as goal

pub overflow_cast-size : goal.overflow_cast-size
overflow_cast-size c =
    let list = c.args.resources.now in
    let k = c.loop-resource.resource-index in
    omega (arith, c.loop-resource.invariant.fits c.loop-resource-test.true, data_size (entry_of (get_or list k any_resource)) (map entry_of (drop (k + 1) list)) _ (next_said list k c.loop-resource-test.true))

pub loop-resource-preserved : goal.loop-resource-preserved
loop-resource-preserved c =
    let list = c.args.resources.now in
    let k = c.loop-resource.resource-index in
    let entry : Entry = entry_of (get_or list k any_resource) in
    let rest : List Entry = map entry_of (drop (k + 1) list) in
    let next = next_said list k c.loop-resource-test.true in
    let size = data_size entry rest _ next in
    let fits = c.loop-resource.invariant.fits c.loop-resource-test.true in
    record {
      written =
          ap (λ (items : List ℕ). items ++ leaves (c.loop-resource.place + c.aligned-place.result) rest) c.in_ok-push_fields.ensures
          ∙ ap (λ (n : ℕ). (c.loop-resource.out.items ++ leaf_fields c.loop-resource.place entry) ++ leaves (c.loop-resource.place + n) rest) c.aligned-place.ensures.is
          ∙ written c.loop-resource.out.items _ (leaf_fields c.loop-resource.place entry) (leaves (c.loop-resource.place + aligned (length entry.body)) rest) _ c.loop-resource.invariant.written (leaves_written c.loop-resource.place entry rest _ next);
      near = omega (arith, size, fits, c.aligned-place.ensures.near);
      fits = λ lt.
          let more = data_more entry (entry_of (get_or list (k + 1) any_resource)) (map entry_of (drop (k + 1 + 1) list)) _ (next ∙ ap (λ (left : List Entry). entry ∷ left) (next_said list (k + 1) lt)) in
          let same = ap (λ (left : List Entry). length (data_from 0 left)) (next_said list (k + 1) lt) in
          omega (arith, fits, more, same, c.aligned-place.ensures.is);
    }
