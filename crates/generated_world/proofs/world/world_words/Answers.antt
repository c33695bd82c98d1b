use Rattle.std.proofs.Common.{arith}
use Rattle.generated_world.proofs.WorldLemmas.{name_added, all_words}
use Rattle.generated_world.proofs.world.world_words.Goals as goal

pub loop-index-preserved : goal.loop-index-preserved
loop-index-preserved c =
    name_added c.loop-index.index c.loop-index.words c.push-in-loop-index.new.self c.in_ok-numbered.field-0 c.loop-index.invariant c.in_ok-push-2.ensures.items c.in_ok-numbered.ensures

pub returns : goal.returns
returns c =
    all_words c.args.count c.loop-index.index c.loop-index.words c.push-2.new.self c.push-3.new.self c.in_ok-from_str-2.field-0 c.in_ok-from_str-3.field-0
    (omega (arith, c.loop-index-test.false, c.loop-index.auto.index-end)) c.loop-index.invariant c.in_ok-push-3.ensures.items c.in_ok-from_str-2.ensures.ok c.in_ok-push-4.ensures.items c.in_ok-from_str-3.ensures.ok
