use Rattle.std.proofs.Common.{◌∙◌, ◌&&◌, not, eqb, length, Bool, ap, sym, option_map}
use Rattle.directives.specs.FormView.{two_lists}
use Rattle.directives.proofs.PlainLemmas.{two_names, no_two}
use Rattle.directives.proofs.values.plain_names.Goals as goal
use Rattle.directives.proofs.values.plain_names.Goals.{then-not-is_empty, else-not-is_empty}

pub returns-in_err-left : goal.returns-in_err-left
returns-in_err-left c =
    ap (option_map two_lists) c.from_residual.ensures ∙ no_two c.args.value.now c.requires.short c.requires.quote c.requires.nul c.in_err-left.ensures

pub returns : goal.returns
returns c =
    ap (option_map two_lists) c.then_some.ensures ∙ two_names c.args.value.now c.requires.short c.requires.quote c.requires.nul c.in_ok-left.left c.in_ok-left.right c.in_ok-left.ensures _ (elim c.if-not-is_empty.branch [
      | then-not-is_empty w ↦ w.then_some-is ∙ ap not w.is_empty-then-not-is_empty.ensures ∙ ap (λ (b : Bool). not b && not (eqb (length c.in_ok-left.right.now) 0)) (sym w.if-not-is_empty.true ∙ c.is_empty.ensures)
      | else-not-is_empty w ↦ w.then_some-is ∙ ap not w.if-not-is_empty.false ∙ ap (λ (b : Bool). not b && not (eqb (length c.in_ok-left.right.now) 0)) (sym w.if-not-is_empty.false ∙ c.is_empty.ensures)
    ])
