use Rattle.std.proofs.Common.{◌≡◌, subst, map, List, rules}
use Rattle.std.specs.List.Sorted.{IsPermutation}
use Rattle.std.specs.Ordering.{is_lt}
use Rattle.std.proofs.lemmas.List.Sorted.{IsPermutation-map, ranks_by, answers_always}
use Rattle.res_merge.specs.declared.resource.Resource.{Resource}
use Rattle.res_merge.specs.Entries.{entry_of}
use Rattle.res_merge.specs.Order.{entry_cmp}
use Rattle.res_merge.proofs.OrderLemmas.{entry_total}
use Rattle.res_merge.proofs.SortLemmas.{sorted_is, sorted_map}
use Rattle.res_merge.proofs.order.in_order.Goals as goal

pub returns : goal.returns
returns c =
    let sorted = c.in_ok-sort_by.ensures.sorted (λ a b. is_lt (entry_cmp (entry_of a) (entry_of b))) (ranks_by entry_total entry_of) (answers_always _ (λ a r. is_lt r ≡ is_lt (entry_cmp (entry_of a.0.now) (entry_of a.1.0.now))) tt (λ f a r q k. search rules)) in
    sorted_is (map entry_of c.args.list.now) (map entry_of c.sort_by.new.self.items) c.requires.apart
    (IsPermutation-map entry_of c.args.list.now c.sort_by.new.self.items (subst (λ (xs : List Resource). IsPermutation xs c.sort_by.new.self.items) c.in_ok-ordered.ensures.items c.sort_by.ensures.permutation))
    (sorted_map entry_of c.sort_by.new.self.items sorted)
