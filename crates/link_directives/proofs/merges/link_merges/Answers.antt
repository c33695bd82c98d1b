use Rattle.std.proofs.Common.{List, ℕ, ◌++◌, ap, ◌∙◌, arith}
use Rattle.link_directives.specs.LinkDirectives.{merge_said}
use Rattle.link_directives.proofs.PassLemmas.{picked, picked_of_more}
use Rattle.link_directives.proofs.merges.link_merges.Goals as goal

pub loop-module-preserved : goal.loop-module-preserved
loop-module-preserved c =
    let directives = c.directives.result.now in
    c.in_ok-append_merges.ensures
    ∙ ap (λ (merges : List (List ℕ × List ℕ)). merges ++ picked merge_said directives) c.loop-module.invariant
    ∙ picked_of_more merge_said c.args.given.now c.args.modules.now c.loop-module.module-index c.module-item.result directives (omega arith) c.module-item.is c.directives.ensures.directives
