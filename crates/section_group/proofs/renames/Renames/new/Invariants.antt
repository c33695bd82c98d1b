use Rattle.std.proofs.Common.{◌≡◌, map, take}
use Rattle.section_group.specs.Places.{target_at}
use Rattle.section_group.proofs.renames.Renames.new.Given as goal

abbrev pub invariant-loop-last : goal.invariant-loop-last
invariant-loop-last l = l.ends.items ≡ map (target_at l.fn.targets.entries) (take l.last-index l.lasts)
