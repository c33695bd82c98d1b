use Rattle.std.proofs.Common.{◌∙◌, ap, sym, cond, arith, get_or, ℕ}
use Rattle.directives.specs.Text.{is_quote}
use Rattle.directives.proofs.WordLemmas.{leaves_open-more, none_open, last_quote-none, last_quote-more, open_quote_is, later_within}
use Rattle.directives.proofs.words.open_quote.Goals as goal

pub loop-k-init : goal.loop-k-init
loop-k-init c = record { quote = last_quote-none c.args.word.now; within = omega arith; quotes = none_open c.args.word.now }

pub loop-k-preserved : goal.loop-k-preserved
loop-k-preserved c = record {
  quote = c.later_quote-last.ensures ∙ ap (λ (n : ℕ). cond (is_quote (get_or c.args.word.now c.loop-k.k 0)) c.loop-k.k n) c.loop-k.invariant.quote ∙ sym (last_quote-more c.args.word.now c.loop-k.k);
  within = later_within _ _ _ _ c.later_quote-last.ensures c.loop-k.invariant.within;
  quotes = c.turned-is_open.ensures ∙ leaves_open-more c.args.word.now c.loop-k.k c.loop-k.is_open c.loop-k-test.true c.loop-k.invariant.quotes;
}

pub returns-clause-is : goal.returns-clause-is
returns-clause-is c = c.then_some.ensures ∙ open_quote_is c.args.word.now c.loop-k.k _ _ (omega arith) c.loop-k.invariant.quotes c.loop-k.invariant.quote
