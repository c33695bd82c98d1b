use Rattle.std.proofs.Common.{◌≡◌, take}
use Rattle.link_words.specs.Outcome.{options_said}
use Rattle.lib_search.specs.LinkOf.{link_of}
use Rattle.lib_search.proofs.search.table_of.Given as goal

abbrev pub invariant-loop-module : goal.invariant-loop-module
invariant-loop-module l = l.table ≡ link_of (options_said l.options) (take l.module-index l.modules)
