use Rattle.std.proofs.Common.{ℕ, List, [], ◌++◌, Option, ap, ◌∙◌, arith}
use Rattle.std.specs.Prelude.{filter_map}
use Rattle.std.specs.List.{cons_option}
use Rattle.link_keeping.specs.Reach.{name_node}
use Rattle.link_keeping.proofs.RootLemmas.{included_next}
use Rattle.link_keeping.proofs.roots.push_included_by.Goals as goal

pub loop-directive-preserved : goal.loop-directive-preserved
loop-directive-preserved c =
    let node = name_node c.args.names.now in
    record {
      nodes =
          included_next node c.args.directives.now c.loop-directive.directive-index c.directive-item.result c.args.nodes.now.items c.loop-directive.nodes.items c.push_if.new.nodes.items (omega arith) c.directive-item.is c.loop-directive.invariant.nodes
          (c.in_ok-push_if.ensures.nodes ∙ ap (λ (name : Option (List ℕ)). c.loop-directive.nodes.items ++ filter_map node (cons_option name [])) c.included.ensures);
      last = c.push_if.ensures.last;
    }
