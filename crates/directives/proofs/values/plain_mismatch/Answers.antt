use Rattle.std.proofs.Common.{◌∙◌, List, ℕ, Some, true, false, ap, sym, option_map}
use Rattle.directives.specs.Said as says
use Rattle.directives.specs.Said.{said}
use Rattle.directives.proofs.PlainLemmas.{mismatch, no_mismatch}
use Rattle.directives.proofs.values.plain_mismatch.Goals as goal

pub returns-in_err-key : goal.returns-in_err-key
returns-in_err-key c =
    ap (option_map said) c.from_residual.ensures ∙ no_mismatch c.args.value.now c.requires.short c.requires.quote c.requires.nul c.in_err-key.ensures

pub returns-then-is_empty : goal.returns-then-is_empty
returns-then-is_empty c =
    sym (mismatch c.args.value.now c.requires.short c.requires.quote c.requires.nul c.in_ok-key.key c.in_ok-key.value c.in_ok-key.ensures true c.if-is_empty.ensures)

pub returns : goal.returns
returns c =
    ap (λ (key : List ℕ). Some (says.FailIfMismatch key c.of-2.result)) c.of.ensures ∙ ap (λ (value : List ℕ). Some (says.FailIfMismatch c.in_ok-key.key.now value)) c.of-2.ensures ∙ sym (mismatch c.args.value.now c.requires.short c.requires.quote c.requires.nul c.in_ok-key.key c.in_ok-key.value c.in_ok-key.ensures false c.if-is_empty.ensures)
