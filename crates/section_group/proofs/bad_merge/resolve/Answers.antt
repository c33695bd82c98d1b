use Rattle.std.proofs.Common.{◌∙◌}
use Rattle.section_group.proofs.BadMergeLemmas.{far_is_final}
use Rattle.section_group.proofs.bad_merge.resolve.Goals as goal

pub returns-clause-leads : goal.returns-clause-leads
returns-clause-leads c = λ name.
    let follows = c.in_ok-renames.ensures in
    follows.leads name ∙ far_is_final c.args.merges.now follows.steps name follows.far c.in-None.ensures.none
