use Rattle.std.proofs.Common.{◌≡◌, take}
use Rattle.link_directives.specs.LinkDirectives.{link_merges}
use Rattle.link_directives.proofs.merges.link_merges.Given as goal

abbrev pub invariant-loop-module : goal.invariant-loop-module
invariant-loop-module l = l.merges.items ≡ link_merges l.given (take l.module-index l.modules)
