use Rattle.std.proofs.Common.{◌∙◌, ap, ℕ, sym, arith}
use Rattle.link_base.specs.Bytes.{first_below}
use Rattle.link_base.proofs.CallerLemmas.{first_below-more, first_below-found, first_below-all_fail}
use Rattle.res_merge.specs.ResourceFile.{is_text_end, text_units}
use Rattle.res_merge.proofs.names.text_units.Goals as goal

pub loop-k-init : goal.loop-k-init
loop-k-init c = record { goes_on = first_below-all_fail 0 _ (λ k lt. absurd (omega arith)) }

pub returns-then-u16_in-eq0-clause-units : goal.returns-then-u16_in-eq0-clause-units
unfolding text_units
returns-then-u16_in-eq0-clause-units c =
    sym (first_below-found c.loop-k.k c.min-count.result (is_text_end c.args.bytes.now c.args.offset) (omega (arith, c.min-count.ensures)) c.loop-k.invariant.goes_on (grind arith)) ∙ ap (λ (n : ℕ). first_below n (is_text_end c.args.bytes.now c.args.offset)) c.min-count.ensures

pub loop-k-preserved : goal.loop-k-preserved
loop-k-preserved c = record { goes_on = first_below-more c.loop-k.k (is_text_end c.args.bytes.now c.args.offset) c.loop-k.invariant.goes_on (grind arith) }
