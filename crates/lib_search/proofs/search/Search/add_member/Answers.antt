use Rattle.lib_search.proofs.JoinedLemmas.{asked_before, looked_before, keeps_now}
use Rattle.lib_search.proofs.search.Search.add_member.Goals as goal

pub wake_from-requires-clause-within : goal.wake_from-requires-clause-within
wake_from-requires-clause-within c =
    asked_before c.args.self.now.searched c.add_member.new.self c.args.place c.asked_count-asked.result c.in_ok-add_member.ensures c.asked_count-asked.ensures

pub wake_from-requires-clause-kept : goal.wake_from-requires-clause-kept
wake_from-requires-clause-kept c =
    let before = c.args.self.now in
    looked_before before.searched c.add_member.new.self c.args.place c.asked_count-asked.result c.in_ok-add_member.ensures c.asked_count-asked.ensures
    before.alternates c.requires.kept.kept

pub returns-clause-kept : goal.returns-clause-kept
returns-clause-kept c =
    let before = c.args.self.now in
    keeps_now before.searched c.add_member.new.self c.args.place c.args.«module» before.modules.items c.push_module.new.modules.items before.alternates c.wake_from.new.self c.add_module.new.self before.passed
    c.in_ok-add_member.ensures c.requires.member c.in_ok-push_module.ensures c.in_ok-wake_from.ensures.pairs c.in_ok-add_module.ensures.pairs c.in_ok-add_module.ensures.kept c.requires.kept
