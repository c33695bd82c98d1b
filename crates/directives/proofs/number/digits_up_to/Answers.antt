use Rattle.std.proofs.Common.{◌≡◌, ℕ, ◌∙◌, ◌≤◌, ◌<◌, get_or, length, ap, subst, sym, arith}
use Rattle.std.proofs.lemmas.Bool.{eqb-true}
use Rattle.std.proofs.lemmas.Bool.Decides.{nat_tests}
use Rattle.std.proofs.lemmas.List.Sums.{fold_more}
use Rattle.directives.specs.Number.{more_digits}
use Rattle.directives.proofs.NumberLemmas.{digits_empty, digits_are, digits_refused, digits_more}
use Rattle.directives.proofs.number.digits_up_to.Goals as goal

pub returns-then-is_empty-clause-is : goal.returns-then-is_empty-clause-is
returns-then-is_empty-clause-is c = digits_empty _ c.requires.low _ _ (eqb-true _ _ (sym c.is_empty.ensures ∙ c.if-is_empty.true))

pub loop-digit-preserved : goal.loop-digit-preserved
loop-digit-preserved c = record {
  value = c.in_ok-number.ensures.1 ∙ ap (λ (n : ℕ). more_digits c.args.base n (get_or c.args.text.now c.loop-digit.digit-index 0)) c.loop-digit.invariant.value ∙ sym (fold_more (more_digits c.args.base) 0 c.args.text.now c.loop-digit.digit-index 0 c.loop-digit-test.true);
  digits = digits_more _ c.requires.low c.args.text.now c.loop-digit.digit-index c.loop-digit-test.true c.loop-digit.invariant.digits c.in_ok-number.ensures.0.0;
  within = subst (λ (n : ℕ). n ≤ c.args.limit) (sym c.in_ok-number.ensures.1) c.in_ok-number.ensures.0.1;
}

pub returns-in_err-number-clause-is : goal.returns-in_err-number-clause-is
returns-in_err-number-clause-is c =
    c.from_residual.ensures ∙ digits_refused _ c.requires.low _ c.loop-digit.number c.loop-digit.digit-index _ c.loop-digit-test.true c.loop-digit.invariant.value c.in_err-number.ensures

pub returns-clause-is : goal.returns-clause-is
returns-clause-is c =
    digits_are _ c.requires.low _ _ c.loop-digit.digit-index _ (some (length c.args.text.now) (sym c.is_empty.ensures ∙ c.if-is_empty.false)) (omega arith) c.loop-digit.invariant.digits c.loop-digit.invariant.value c.loop-digit.invariant.within
  where
    some : (n : ℕ) → Rattle.std.proofs.Common.eqb n 0 ≡ Rattle.std.proofs.Common.false → 0 < n
    some n e = grind (arith, nat_tests)
