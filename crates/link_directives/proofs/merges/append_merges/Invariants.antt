use Rattle.std.proofs.Common.{◌≡◌, ◌++◌, take}
use Rattle.link_directives.specs.LinkDirectives.{merge_said}
use Rattle.link_directives.proofs.PassLemmas.{picked}
use Rattle.link_directives.proofs.merges.append_merges.Given as goal

abbrev pub invariant-loop-directive : goal.invariant-loop-directive
invariant-loop-directive l = l.merges.items ≡ l.initial.merges.items ++ picked merge_said (take l.directive-index l.directives)
