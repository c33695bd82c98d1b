use Rattle.std.proofs.Common.{arith}
use Rattle.std.proofs.lemmas.Result.{err_from_is_err_and}
use Rattle.link_fields.proofs.StandingLemmas.{standing_more, standing_found}
use Rattle.link_image.specs.ExportFaults.{absolute_fault}
use Rattle.link_image.proofs.TargetLemmas.{target_here}
use Rattle.link_image.proofs.exports.check_places.Goals as goal

pub returns-in_err-check_place-clause-refused : goal.returns-in_err-check_place-clause-refused
returns-in_err-check_place-clause-refused c =
    let given = err_from_is_err_and c.from_residual.result c.from_residual.ensures.1 in
    rw (given.1, given.2) (λ link are.
    let row = c.index-rows-k.result in
    standing_found (absolute_fault link) c.args.rows.now c.loop-k.k row c.in_err-check_place.field-0.0 (omega arith) c.index-rows-k.is (c.loop-k.invariant link are)
    (c.in_err-check_place.ensures.refused link (target_here link c.args.rows.now c.args.targets.now c.loop-k.k row _ (omega arith) c.index-rows-k.is are)))

pub loop-k-preserved : goal.loop-k-preserved
loop-k-preserved c = λ link are.
    let row = c.index-rows-k.result in
    standing_more (absolute_fault link) c.args.rows.now c.loop-k.k row (omega arith) c.index-rows-k.is (c.loop-k.invariant link are)
    (c.in_ok-check_place.ensures.accepted link (target_here link c.args.rows.now c.args.targets.now c.loop-k.k row _ (omega arith) c.index-rows-k.is are))
