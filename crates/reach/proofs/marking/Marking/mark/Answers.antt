use Rattle.std.proofs.Common.{◌≡◌, false, get_or, length, ◌<◌, refl, sym, ◌∙◌, arith}
use Rattle.std.proofs.lemmas.List.{get_or_read}
use Rattle.reach.proofs.MarkingLemmas.{Marks-one}
use Rattle.reach.proofs.marking.Marking.mark.Goals as goal

pub returns-in_ok-push-clause-marks : goal.returns-in_ok-push-clause-marks
returns-in_ok-push-clause-marks c =
    let flags = c.args.self.now.kept.items in
    let within : c.args.piece < length flags = omega (arith, c.if-place-len.true, c.len.ensures, c.args.self.now.kept.ok.0) in
    let unmarked : get_or flags c.args.piece false ≡ false =
    sym (get_or_read flags c.args.piece c.index.result.now within c.index.ensures false) ∙ c.if-not-index.true in
    Marks-one c.args.self.now _ c.args.piece within unmarked refl c.in_ok-push.ensures.items
