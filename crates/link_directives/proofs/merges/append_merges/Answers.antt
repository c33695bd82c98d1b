use Rattle.std.proofs.Common.{List, ℕ, ◌++◌, [], ◌∷◌, ap, ◌∙◌, arith}
use Rattle.std.specs.List.{filter_map}
use Rattle.directives.specs.Said.{said}
use Rattle.link_directives.specs.LinkDirectives.{merge_said}
use Rattle.link_directives.proofs.PassLemmas.{picked_more}
use Rattle.link_directives.proofs.merges.append_merges.Goals as goal

pub loop-directive-preserved : goal.loop-directive-preserved
loop-directive-preserved c =
    let one = c.directive-item.result in
    c.in_ok-append_merge.ensures
    ∙ ap (λ (merges : List (List ℕ × List ℕ)). merges ++ filter_map merge_said (said one ∷ [])) c.loop-directive.invariant
    ∙ picked_more merge_said c.args.merges.now.items c.args.directives.now c.loop-directive.directive-index one (omega arith) c.directive-item.is
