use Rattle.std.proofs.Common.{rules}
use Rattle.std.proofs.lemmas.List.Sorted.{IsNonDecreasingBy-from_sort_by_key}
use Rattle.relocate.specs.declared.fix.Fix.{Fix}
use Rattle.relocate.proofs.PatchableLemmas.{patchable_sorted}
use Rattle.relocate.proofs.any_order.sorted_fields.Goals as goal

pub returns-clause-patchable : goal.returns-clause-patchable
returns-clause-patchable c =
    let ascend = IsNonDecreasingBy-from_sort_by_key (λ (fix : Fix). fix.at) _ c.in_ok-sort_by_key.ensures.sorted (λ a r q k. search rules) in
    patchable_sorted _ _ _ _ _ _ c.in_ok-judge_any_order.ensures.accepted c.in_ok-fields.ensures c.in_ok-sort_by_key.ensures.permutation ascend
