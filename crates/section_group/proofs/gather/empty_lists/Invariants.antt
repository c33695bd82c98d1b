use Rattle.std.proofs.Common.{◌≡◌, ◌≤◌, ◌-◌, [], vec_len}
use Rattle.std.specs.List.{All}
use Rattle.section_group.proofs.gather.empty_lists.Given as goal

abbrev pub invariant-loop-alloc : goal.invariant-loop-alloc
invariant-loop-alloc l = (vec_len l.members ≤ l.sections) × All (λ v. v.items ≡ []) l.members.items

abbrev pub decreases-loop-alloc : goal.decreases-loop-alloc
decreases-loop-alloc l = l.sections - vec_len l.members
