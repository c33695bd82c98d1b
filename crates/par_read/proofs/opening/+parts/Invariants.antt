use Rattle.std.proofs.Common.{◌-◌}
use Rattle.par_read.proofs.opening.+parts.Given as goal

abbrev pub decreases-front : goal.decreases-front
decreases-front g l = l.middle - l.first

abbrev pub decreases-back : goal.decreases-back
decreases-back g l = l.end - l.middle

abbrev pub decreases-open_parts : goal.decreases-open_parts
decreases-open_parts g l = l.end - l.first
