use Rattle.std.proofs.Common.{take, None}
use Rattle.indexmap.specs.IndexMap.{get}
use Rattle.link_base.specs.NameText.{same_name}
use Rattle.link_directives.specs.LinkDirectives.{all_keys}
use Rattle.link_directives.specs.Passes.{KeepsFirsts}
use Rattle.link_directives.proofs.mismatch.first_mismatch.Given as goal

abbrev pub invariant-loop-module : goal.invariant-loop-module
invariant-loop-module l = KeepsFirsts (all_keys (take l.module-index l.modules)) (get same_name l.values) None
