use Rattle.std.proofs.Common.{◌≡◌, ◌<◌, ℕ, false}
use Rattle.section_group.specs.Merging.{merge_at}
use Rattle.section_group.specs.Chains.{fails, Follows}
use Rattle.section_group.proofs.bad_merge.first_bad_merge.Given as goal

abbrev pub invariant-loop-merge : goal.invariant-loop-merge
invariant-loop-merge l =
    (follows : Follows l.merges l.renames.targets.entries l.renames.ends.items) (k : ℕ) → k < l.merge-index → fails l.merges follows.steps (merge_at l.merges k) ≡ false
