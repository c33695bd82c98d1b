use Rattle.std.proofs.Common.{ℕ, ◌<◌, [], ◌++◌, Option, None, option_and_then, length, get_or, ap, ◌∙◌, arith}
use Rattle.std.specs.List.{cons_option}
use Rattle.std.proofs.lemmas.List.{get_or_default}
use Rattle.link_fields.specs.Targets.{piece_in}
use Rattle.link_fields.proofs.ListLemmas.{kept_next}
use Rattle.link_keeping.proofs.roots.push_exported.Goals as goal

pub loop-target-preserved : goal.loop-target-preserved
loop-target-preserved c =
    let targets = c.args.targets.now in
    let i = c.loop-target.target-index in
    let lt : i < length targets = omega arith in
    let target = get_or targets i None in
    kept_next (option_and_then piece_in) targets i target c.args.nodes.now.items c.loop-target.nodes.items c.push_node.new.nodes.items lt (get_or_default targets i None target lt) c.loop-target.invariant
    (c.in_ok-push_node.ensures ∙ ap (λ (node : Option ℕ). c.loop-target.nodes.items ++ cons_option node []) c.exported_node.ensures)
