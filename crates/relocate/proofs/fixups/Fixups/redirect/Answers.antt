use Rattle.std.proofs.Common.{get_or, arith}
use Rattle.std.proofs.lemmas.List.{get_or_default}
use Rattle.std.proofs.lemmas.List.Edits.{map_over_more}
use Rattle.relocate.specs.declared.fix.Fix.{Fix}
use Rattle.relocate.specs.Redirected.{redirected_fix}
use Rattle.relocate.proofs.fixups.Fixups.redirect.Goals as goal

pub loop-fix-preserved : goal.loop-fix-preserved
loop-fix-preserved c =
    let fix : Fix = get_or c.loop-fix.fix-items c.loop-fix.fix-index c.fix-item.result in
    rw c.redirect_fix.ensures
    (map_over_more (redirected_fix c.args.places.now c.args.first c.args.home c.args.offsets.now) _ c.loop-fix.fix-items c.loop-fix.fix-index fix c.loop-fix-test.true c.loop-fix.invariant (get_or_default c.loop-fix.fix-items c.loop-fix.fix-index c.fix-item.result fix (omega arith)))
