use Rattle.std.proofs.Common.{ℕ, List, ◌++◌, length, sym, ap, ◌∙◌}
use Rattle.std.specs.Prelude.{filter_map}
use Rattle.std.specs.List.{flat_map}
use Rattle.module_view.specs.Module.{ModuleView}
use Rattle.link_words.specs.Outcome.{options_said}
use Rattle.link_keeping.specs.Reach.{name_node, included_by}
use Rattle.link_keeping.proofs.RootLemmas.{roots_so}
use Rattle.link_keeping.proofs.roots.push_roots.Goals as goal

pub returns : goal.returns
returns c =
    roots_so (options_said c.args.options.now) c.args.names.now c.args.roots.now.items c.push_names.new.nodes.items c.push_included.new.nodes.items c.push_plain.new.nodes.items c.requires.named
    (c.in_ok-push_names.ensures ∙ ap (λ (names : List (List ℕ)). c.args.roots.now.items ++ filter_map (name_node c.args.names.now) names) c.deref.ensures.value)
    (c.in_ok-push_included.ensures ∙ ap (λ (modules : List ModuleView). c.push_names.new.nodes.items ++ filter_map (name_node c.args.names.now) (flat_map included_by modules)) (sym c.requires.same))
    (c.in_ok-push_plain.ensures c.args.names.now c.requires.pieces (ap length (sym c.requires.same)))
