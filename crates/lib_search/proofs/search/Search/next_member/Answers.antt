use Rattle.std.proofs.Common.{Option, sym, ap, ◌∙◌}
use Rattle.std.specs.Option.{option_or}
use Rattle.lib_search.specs.SearchSteps.{MemberPlace, member_by_alternate}
use Rattle.lib_search.proofs.NextLemmas.{next_place, next_fresh}
use Rattle.lib_search.proofs.search.Search.next_member.Goals as goal

pub returns-in-Some-clause-fresh : goal.returns-in-Some-clause-fresh
returns-in-Some-clause-fresh c =
    let s = c.args.self.now.searched in
    next_place s c.in-Some.place
    (ap (λ (o : Option MemberPlace). option_or o (member_by_alternate s)) (sym c.member_by_reference.ensures.place ∙ c.in-Some.is))

pub returns-in-None-clause-fresh : goal.returns-in-None-clause-fresh
returns-in-None-clause-fresh c =
    let s = c.args.self.now.searched in
    next_fresh s c.member_by_alternate.result
    (c.member_by_alternate.ensures.place ∙ ap member_by_alternate c.member_by_reference.ensures.same
    ∙ sym (ap (λ (o : Option MemberPlace). option_or o (member_by_alternate s)) (sym c.member_by_reference.ensures.place ∙ c.in-None.is)))
