use Rattle.std.proofs.Common.{List, ◌++◌, ap, ◌∙◌, arith}
use Rattle.std.specs.Prelude.{filter_map}
use Rattle.directives.specs.Said.{Said}
use Rattle.link_keeping.specs.Reach.{name_node, included, included_by}
use Rattle.link_fields.proofs.ListLemmas.{joined_next}
use Rattle.link_keeping.proofs.roots.push_included.Goals as goal

pub loop-module-preserved : goal.loop-module-preserved
loop-module-preserved c =
    let node = name_node c.args.names.now in
    joined_next node included_by c.args.modules.now c.loop-module.module-index c.module-item.result c.args.nodes.now.items c.loop-module.nodes.items c.push_included_by.new.nodes.items (omega arith) c.module-item.is c.loop-module.invariant
    (c.in_ok-push_included_by.ensures ∙ ap (λ (list : List Said). c.loop-module.nodes.items ++ filter_map node (filter_map included list)) c.directives.ensures.directives)
