use Rattle.std.proofs.Common.{arith}
use Rattle.directives.proofs.PlainLemmas.{after_quote-more, no_quote, no_nul}
use Rattle.directives.proofs.text.is_plain.Goals as goal

pub loop-b-init : goal.loop-b-init
loop-b-init c = record { above = λ k lt. absurd (omega (arith, lt)) }

pub loop-b-preserved : goal.loop-b-preserved
loop-b-preserved c = record { above = after_quote-more c.args.text.now c.loop-b.b-index c.loop-b.invariant.above (omega arith) }

pub returns-clause-quote : goal.returns-clause-quote
returns-clause-quote c = λ h. no_quote c.args.text.now c.loop-b.b-index c.loop-b.invariant.above c.loop-b-test.false

pub returns-clause-nul : goal.returns-clause-nul
returns-clause-nul c = λ h. no_nul c.args.text.now c.loop-b.b-index c.loop-b.invariant.above c.loop-b-test.false
