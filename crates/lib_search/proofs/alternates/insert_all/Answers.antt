use Rattle.std.proofs.Common.{◌<◌, length, arith, sym}
use Rattle.std.proofs.Math.Bool.{or-false}
use Rattle.std.proofs.lemmas.List.{get_or_default}
use Rattle.lib_search.specs.AlternateParts.{is_waiting}
use Rattle.lib_search.proofs.WaitLemmas.{one_inserted, all_inserted}
use Rattle.lib_search.proofs.alternates.insert_all.Goals as goal

pub loop-number-init : goal.loop-number-init
loop-number-init c = λ k. sym (or-false (is_waiting c.args.numbers.now k))

pub loop-number-preserved : goal.loop-number-preserved
loop-number-preserved c = λ k.
    let lt : c.loop-number.number-index < length c.args.more.now = omega (arith, c.loop-number-test.true) in
    one_inserted (is_waiting c.args.numbers.now k) (is_waiting c.loop-number.numbers k) (is_waiting c.insert.new.self k)
    c.args.more.now c.loop-number.number-index _ k lt (get_or_default c.args.more.now c.loop-number.number-index _ _ lt)
    (c.loop-number.invariant k) (c.in_ok-insert.ensures.updates.0 k)

pub returns : goal.returns
returns c = λ k.
    all_inserted (is_waiting c.args.numbers.now k) (is_waiting c.loop-number.numbers k) c.args.more.now c.loop-number.number-index k
    (omega (arith, c.loop-number-test.false)) (c.loop-number.invariant k)
