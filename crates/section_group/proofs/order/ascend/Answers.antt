use Rattle.std.proofs.Common.{IsTrue, arith, rules}
use Rattle.section_group.specs.Gathering.{input_of}
use Rattle.section_group.proofs.KeyLemmas.{ascend_more, ascend_all}
use Rattle.section_group.proofs.order.ascend.Goals as goal

pub loop-at-preserved : goal.loop-at-preserved
loop-at-preserved c =
    let behind : IsTrue c.comes_behind.result = search rules in
    ascend_more (input_of c.args.parts.now) c.args.members.now c.loop-at.at c.loop-at.invariant (omega arith) (omega arith) (c.comes_behind.ensures.behind behind)

pub returns-clause-ascending : goal.returns-clause-ascending
returns-clause-ascending c =
    λ _. ascend_all (input_of c.args.parts.now) c.args.members.now c.loop-at.at c.loop-at.invariant (omega arith)
