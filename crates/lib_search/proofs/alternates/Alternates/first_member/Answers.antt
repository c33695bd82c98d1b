use Rattle.std.proofs.Common.{◌≡◌, [], sym, ap, ◌∙◌}
use Rattle.std.proofs.lemmas.List.{get_or_default}
use Rattle.lib_search.specs.SearchSteps.{alternate_member}
use Rattle.lib_search.specs.AlternateParts.{pair_at}
use Rattle.lib_search.proofs.WaitLemmas.{least_leads, none_leads}
use Rattle.lib_search.proofs.alternates.Alternates.first_member.Goals as goal

pub returns-in-Some-alternate_member-clause-place : goal.returns-in-Some-alternate_member-clause-place
returns-in-Some-alternate_member-clause-place c =
    let s = c.args.searched.now in
    let a = c.loop-number.self in
    let kept = c.loop-number.invariant.kept in
    let number = c.in-Some.number in
    let least = c.in-Some.ensures.some in
    let item : pair_at a.pairs.items number ≡ c.index.result.now =
    get_or_default a.pairs.items number ([], []) c.index.result.now (kept.waits number least.here).0 ∙ sym c.index.ensures in
    sym (least_leads s a kept number c.in-Some-alternate_member.place (c.loop-number.invariant.pairs ∙ c.requires.all) least
    (ap (alternate_member s) item ∙ sym c.alternate_member.ensures ∙ c.in-Some-alternate_member.is))

pub returns-clause-place : goal.returns-clause-place
returns-clause-place c =
    sym (none_leads c.args.searched.now c.loop-number.self c.loop-number.invariant.kept (c.loop-number.invariant.pairs ∙ c.requires.all) c.in_default.ensures.none)
