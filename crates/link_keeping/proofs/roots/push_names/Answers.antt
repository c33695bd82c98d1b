use Rattle.std.proofs.Common.{ℕ, List, [], ◌++◌, ap, ◌∙◌, arith}
use Rattle.std.specs.List.{cons_option}
use Rattle.link_keeping.specs.Reach.{name_node}
use Rattle.link_fields.proofs.ListLemmas.{kept_next}
use Rattle.link_keeping.proofs.roots.push_names.Goals as goal

pub loop-name-preserved : goal.loop-name-preserved
loop-name-preserved c =
    kept_next (name_node c.args.names.now) c.args.list.now c.loop-name.name-index c.name-item.result c.args.nodes.now.items c.loop-name.nodes.items c.push_name.new.nodes.items (omega arith) c.name-item.is c.loop-name.invariant
    (c.in_ok-push_name.ensures ∙ ap (λ (name : List ℕ). c.loop-name.nodes.items ++ cons_option (name_node c.args.names.now name) []) c.again.ensures)
