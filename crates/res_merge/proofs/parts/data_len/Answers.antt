use Rattle.std.proofs.Common.{◌+◌, List, ◌∷◌, length, map, drop, get_or, sym, ap, ◌∙◌, arith}
use Rattle.res_merge.specs.Entries.{Entry, entry_of}
use Rattle.res_merge.specs.Tree.{data_from}
use Rattle.res_merge.proofs.RunLemmas.{any_resource, next_said, none_said}
use Rattle.res_merge.proofs.WritingLemmas.{data_end, data_size, data_last, data_more}
use Rattle.res_merge.proofs.parts.data_len.Goals as goal

pub loop-resource-init : goal.loop-resource-init
loop-resource-init c = record {
  small = omega arith;
  left = λ lt. omega arith;
  done = λ le. sym (ap length (data_end 0 (map entry_of c.args.resources.now) (none_said c.args.resources.now 0 le)));
}

pub loop-resource-preserved : goal.loop-resource-preserved
loop-resource-preserved c =
    let list = c.args.resources.now in
    let k = c.loop-resource.resource-index in
    let entry : Entry = entry_of (get_or list k any_resource) in
    let next = next_said list k c.loop-resource-test.true in
    let left = c.loop-resource.invariant.left c.loop-resource-test.true in
    record {
      small = omega (arith, c.requires, left, data_size entry _ _ next, c.aligned-next.ensures.near);
      left = λ lt.
          let more = data_more entry (entry_of (get_or list (k + 1) any_resource)) (map entry_of (drop (k + 1 + 1) list)) _ (next ∙ ap (λ (left : List Entry). entry ∷ left) (next_said list (k + 1) lt)) in
          let same = ap (λ (left : List Entry). length (data_from 0 left)) (next_said list (k + 1) lt) in
          omega (arith, left, more, same, c.aligned-next.ensures.is);
      done = λ le. omega (arith, left, data_last entry _ (next ∙ ap (λ (left : List Entry). entry ∷ left) (none_said list (k + 1) le)));
    }
