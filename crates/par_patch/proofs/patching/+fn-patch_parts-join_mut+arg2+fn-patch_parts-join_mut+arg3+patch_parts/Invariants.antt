use Rattle.std.proofs.Common.{◌-◌}
use Rattle.par_patch.proofs.patching.+fn-patch_parts-join_mut+arg2+fn-patch_parts-join_mut+arg3+patch_parts.Given as goal

abbrev pub decreases-join_mut+arg2 : goal.decreases-join_mut+arg2
decreases-join_mut+arg2 g l = l.front_parts.end - l.front_parts.first

abbrev pub decreases-join_mut+arg3 : goal.decreases-join_mut+arg3
decreases-join_mut+arg3 g l = l.back_parts.end - l.back_parts.first

abbrev pub decreases-patch_parts : goal.decreases-patch_parts
decreases-patch_parts g l = l.parts.end - l.parts.first
