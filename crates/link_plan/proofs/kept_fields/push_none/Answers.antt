use Rattle.std.proofs.Common.{ℕ, List, [], ◌∷◌, ◌++◌, replicate, sym, ap, ◌∙◌, append-nil, arith}
use Rattle.relocate.specs.declared.fix.Fix.{Fix}
use Rattle.link_plan.proofs.LaidLemmas.{no_fix, one_more_none}
use Rattle.link_plan.proofs.kept_fields.push_none.Goals as goal

pub loop-init : goal.loop-init
loop-init c = sym (append-nil c.args.fixups.now.items)

pub loop-preserved : goal.loop-preserved
loop-preserved c =
    one_more_none c.args.fixups.now.items c.loop.fixups.items c.push.new.self.items c.loop.counter c.loop.invariant
    (c.in_ok-push.ensures.items ∙ ap (λ (fix : List Fix). c.loop.fixups.items ++ fix ∷ []) c.none.ensures)

pub returns : goal.returns
returns c = c.loop.invariant ∙ ap (λ (n : ℕ). c.args.fixups.now.items ++ replicate n no_fix) (omega arith)
