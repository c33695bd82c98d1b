use Rattle.std.proofs.Common.{◌∙◌, sym, refl, arith}
use Rattle.directives.proofs.WordLemmas.{leaves_open-more, none_open, goes_on-none, goes_on-more, word_ends, word_is_all, inner-more, inner-goes_on}
use Rattle.directives.proofs.words.word_len.Goals as goal

pub loop-k-init : goal.loop-k-init
loop-k-init c = record { goes_on = goes_on-none c.args.text.now; quotes = none_open c.args.text.now }

pub loop-k-preserved-then-is_inner : goal.loop-k-preserved-then-is_inner
loop-k-preserved-then-is_inner c = record {
  goes_on = inner-goes_on c.args.text.now c.loop-k.k c.loop-k.is_open c.loop-k.invariant.goes_on c.loop-k.invariant.quotes (c.if-is_inner.ensures.blank refl);
  quotes = inner-more c.args.text.now c.loop-k.k c.loop-k.is_open c.loop-k-test.true c.loop-k.invariant.quotes (c.if-is_inner.ensures.quote refl);
}

pub loop-k-preserved : goal.loop-k-preserved
loop-k-preserved c = record {
  goes_on = goes_on-more c.args.text.now c.loop-k.k c.loop-k.is_open c.loop-k.invariant.goes_on c.loop-k.invariant.quotes (sym c.ends.ensures ∙ c.if-ends.false);
  quotes = c.turned-is_open.ensures ∙ leaves_open-more c.args.text.now c.loop-k.k c.loop-k.is_open c.loop-k-test.true c.loop-k.invariant.quotes;
}

pub returns-then-ends-clause-is : goal.returns-then-ends-clause-is
returns-then-ends-clause-is c =
    word_ends c.args.text.now c.loop-k.k c.loop-k.is_open c.loop-k-test.true c.loop-k.invariant.goes_on c.loop-k.invariant.quotes (sym c.ends.ensures ∙ c.if-ends.true)

pub returns-clause-is : goal.returns-clause-is
returns-clause-is c = word_is_all c.args.text.now c.loop-k.k (omega arith) c.loop-k.invariant.goes_on
