use Rattle.std.proofs.Common.{drop, ◌++◌, ◌+◌, ap, ◌∙◌, arith}
use Rattle.link_directives.specs.LinkDirectives.{key_said}
use Rattle.link_directives.proofs.FirstLemmas.{keeps_told, keeps_same}
use Rattle.link_directives.proofs.PassLemmas.{picked, picked_more, picked_split}
use Rattle.link_directives.proofs.mismatch.note_values.Goals as goal

pub returns-in-Some : goal.returns-in-Some
returns-in-Some c = λ earlier was.
    let directives = c.args.directives.now in
    let i = c.loop-directive.directive-index in
    let more = picked key_said (drop (i + 1) directives) in
    keeps_told _ more (earlier ++ picked key_said directives) _ c.in_ok-mismatch.field-0 c.in-Some.mismatch
    (ap (λ keys. keys ++ more) (picked_more key_said earlier directives i c.directive-item.result (omega arith) c.directive-item.is)
    ∙ picked_split key_said earlier directives (i + 1))
    c.in-Some.is (c.in_ok-mismatch.ensures _ (c.loop-directive.invariant earlier was))

pub loop-directive-preserved : goal.loop-directive-preserved
loop-directive-preserved c = λ earlier was.
    keeps_same _ _ _ c.in_ok-mismatch.field-0
    (picked_more key_said earlier c.args.directives.now c.loop-directive.directive-index c.directive-item.result (omega arith) c.directive-item.is)
    c.in_default.is (c.in_ok-mismatch.ensures _ (c.loop-directive.invariant earlier was))
