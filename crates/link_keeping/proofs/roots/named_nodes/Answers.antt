use Rattle.std.proofs.Common.{ℕ, List, [], ◌++◌, Option, option_and_then, ap, ◌∙◌}
use Rattle.std.specs.Prelude.{filter_map}
use Rattle.std.specs.List.{cons_option}
use Rattle.relocate.specs.declared.fix.Target.{Target}
use Rattle.link_words.specs.Outcome.{options_said}
use Rattle.link_fields.specs.Targets.{piece_in}
use Rattle.link_keeping.specs.Reach.{name_node}
use Rattle.link_keeping.proofs.RootLemmas.{named_so}
use Rattle.link_keeping.proofs.roots.named_nodes.Goals as goal

pub returns : goal.returns
returns c =
    named_so (options_said c.args.options.now) c.args.names.now c.args.places.now.entry c.args.places.now.exported.items c.new-nodes.result.items c.push_node.new.nodes.items c.push_exported.new.nodes.items c.push_name.new.nodes.items c.push_name-2.new.nodes.items c.requires.entry c.requires.exported c.new-nodes.ensures.items
    (c.in_ok-push_node.ensures ∙ ap (λ (o : Option ℕ). c.new-nodes.result.items ++ cons_option o []) c.piece_of_place.ensures)
    (c.in_ok-push_exported.ensures ∙ ap (λ (ts : List (Option Target)). c.push_node.new.nodes.items ++ filter_map (option_and_then piece_in) ts) c.deref.ensures.value)
    (c.in_ok-push_name.ensures ∙ ap (λ (name : List ℕ). c.push_exported.new.nodes.items ++ cons_option (name_node c.args.names.now name) []) c.of.ensures)
    (c.in_ok-push_name-2.ensures ∙ ap (λ (name : List ℕ). c.push_name.new.nodes.items ++ cons_option (name_node c.args.names.now name) []) c.of-2.ensures)
