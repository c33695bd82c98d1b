use Rattle.std.proofs.Common.{◌≡◌, ◌++◌, ◌∷◌, [], List, Option, None, ℕ, sym, ap, ◌∙◌, arith}
use Rattle.export_tables.specs.declared.row.ExportTo.{ExportTo}
use Rattle.export_tables.specs.ExportTable.{targets_in}
use Rattle.export_tables.proofs.TargetLemmas.{none_more}
use Rattle.export_tables.proofs.targets.no_targets.Goals as goal

pub loop-init : goal.loop-init
unfolding targets_in
loop-init c = c.in_ok-targets.ensures.items

pub loop-preserved : goal.loop-preserved
loop-preserved c =
    c.in_ok-push.ensures.items
    ∙ ap (λ (ts : List (Option ExportTo)). ts ++ None ∷ []) c.loop.invariant
    ∙ sym (none_more c.args.rows.now c.args.base c.loop.counter)

pub returns : goal.returns
returns c =
    let all : c.loop.counter ≡ c.args.count = omega (arith, c.loop-test.false, c.loop.auto.counter-end) in
    c.loop.invariant ∙ ap (λ (n : ℕ). targets_in c.args.rows.now c.args.base n []) all
