use Rattle.std.proofs.Common.{ℕ, ◌<◌, length, sym, subst, arith}
use Rattle.std.proofs.lemmas.List.{get_or_read}
use Rattle.comdat.proofs.ListLemmas.{lists_more}
use Rattle.comdat.proofs.lists.group_lists.Goals as goal

pub loop-index-preserved : goal.loop-index-preserved
loop-index-preserved c =
    let numbers = c.args.numbering.now.numbers.items in
    let count = length c.args.numbering.now.firsts.items in
    let done = c.loop-index.index in
    let at = c.index-number.result.now in
    let lt : done < length numbers = omega arith in
    let is_at = sym (get_or_read numbers done at lt c.index-number.ensures 0) in
    let within : at < count = subst (λ (n : ℕ). n < count) is_at (c.requires done 0 lt) in
    lists_more numbers done count at c.in_ok-place.place c.loop-index.lists.items c.index_mut.result.now c.push.new.self c.loop-index.invariant is_at within c.index_mut.ensures.value c.in_ok-place.ensures c.in_ok-push.ensures.items
