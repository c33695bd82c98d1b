use Rattle.lib_search.specs.LoadingSteps.{modules_now}
use Rattle.lib_search.proofs.LoadingLemmas.{keeps_member}
use Rattle.lib_search.proofs.loading.join_member.Goals as goal

pub returns-clause-kept : goal.returns-clause-kept
returns-clause-kept c = λ options keeps.
    let before = c.args.loading.now in
    keeps_member options before c.add_member.new.self c.args.place c.in_ok-module.module c.add_module.new.self before.read
    c.in_ok-add_member.ensures.joined c.in_ok-module.ensures.opened c.in_ok-module.ensures.few
    (c.in_ok-add_module.ensures.named options (modules_now before) keeps.defaults) c.in_ok-add_member.ensures.kept keeps
