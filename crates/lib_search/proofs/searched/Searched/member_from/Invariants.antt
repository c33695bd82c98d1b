use Rattle.std.proofs.Common.{length, ◌-◌}
use Rattle.symbol_names.specs.References.{all_asked}
use Rattle.lib_search.specs.SearchParts.{IsPassed}
use Rattle.lib_search.proofs.searched.Searched.member_from.Given as goal

abbrev pub invariant-loop-number : goal.invariant-loop-number
invariant-loop-number l = IsPassed l.self l.passed

abbrev pub decreases-loop-number : goal.decreases-loop-number
decreases-loop-number l = length (all_asked l.self.link) - l.passed
