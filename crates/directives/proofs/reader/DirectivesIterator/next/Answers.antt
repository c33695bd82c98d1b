use Rattle.std.proofs.Common.{◌∙◌, ◌<◌, ap, sym, length, option_map, Some, Err, Result, List, ◌∷◌, arith}
use Rattle.link_base.proofs.ListLemmas.{fewer}
use Rattle.directives.specs.Said.{Said, said, item_said}
use Rattle.directives.specs.declared.item.BadDirective.{BadDirective}
use Rattle.directives.specs.Words.{word_len}
use Rattle.directives.proofs.WalkLemmas.{blank_step, word_step, end_step, none_step, ok_step, err_step, word_len-more}
use Rattle.directives.proofs.reader.DirectivesIterator.next.Goals as goal

pub loop-self-preserved-then-is_blank : goal.loop-self-preserved-then-is_blank
loop-self-preserved-then-is_blank c = record {
  left = c.loop-self.invariant.left ∙ blank_step c.loop-self.self.text.now _ c.loop-self.self.at c.split_at.ensures.back c.loop-self-test.true (sym c.is_blank.ensures ∙ c.if-is_blank.true);
}

pub loop-self-smaller : goal.loop-self-smaller
loop-self-smaller c =
    let some : 0 < length c.split_at.result.1.now = omega (arith, c.split_at.ensures.back_len, c.loop-self-test.true) in
    let more : 0 < word_len c.split_at.result.1.now = word_len-more c.split_at.result.1.now some (sym c.is_blank.ensures ∙ c.if-is_blank.false) in
    omega (arith, more, c.word_len-len.ensures.is, c.loop-self-test.true)

pub loop-self-preserved : goal.loop-self-preserved
loop-self-preserved c = record {
  left = c.loop-self.invariant.left ∙ none_step _ _ _ (word_step c.loop-self.self.text.now c.split_at.result.1.now c.split_at-in-loop-self.result.0.now c.loop-self.self.at c.word_len-len.result c.split_at.ensures.back c.loop-self-test.true (sym c.is_blank.ensures ∙ c.if-is_blank.false) c.word_len-len.ensures.is c.split_at-in-loop-self.ensures.front) (sym (ap (option_map item_said) c.in-None.is) ∙ c.word_says.ensures);
}

pub returns-in-Some-Ok-clause-steps : goal.returns-in-Some-Ok-clause-steps
returns-in-Some-Ok-clause-steps c =
    c.loop-self.invariant.left ∙ ok_step _ _ _ (word_step c.loop-self.self.text.now c.split_at.result.1.now c.split_at-in-loop-self.result.0.now c.loop-self.self.at c.word_len-len.result c.split_at.ensures.back c.loop-self-test.true (sym c.is_blank.ensures ∙ c.if-is_blank.false) c.word_len-len.ensures.is c.split_at-in-loop-self.ensures.front) (said c.in-Some-Ok.directive) (sym (ap (option_map item_said) (c.in-Some-Ok.is ∙ ap Some c.in-Some-Ok.field-0-is)) ∙ c.word_says.ensures)

pub returns-in-Some-Ok-clause-goes : goal.returns-in-Some-Ok-clause-goes
returns-in-Some-Ok-clause-goes c =
    record { on = λ f. (tt, tt, fewer _ _ _ (returns-in-Some-Ok-clause-steps c)); keeps = tt; rests = λ f. tt }

pub returns-in-Some-Err-clause-steps : goal.returns-in-Some-Err-clause-steps
returns-in-Some-Err-clause-steps c =
    c.loop-self.invariant.left ∙ err_step _ _ _ (word_step c.loop-self.self.text.now c.split_at.result.1.now c.split_at-in-loop-self.result.0.now c.loop-self.self.at c.word_len-len.result c.split_at.ensures.back c.loop-self-test.true (sym c.is_blank.ensures ∙ c.if-is_blank.false) c.word_len-len.ensures.is c.split_at-in-loop-self.ensures.front) c.in-Some-Err.bad (sym (ap (option_map item_said) (c.in-Some-Err.is ∙ ap Some c.in-Some-Err.field-0-is)) ∙ c.word_says.ensures) ∙ ap (λ (t : List (Result Said BadDirective)). Err c.in-Some-Err.bad ∷ t) (sym (end_step c.loop-self.self.text.now _ (omega arith)))

pub returns-in-Some-Err-clause-goes : goal.returns-in-Some-Err-clause-goes
returns-in-Some-Err-clause-goes c =
    record { on = λ f. (tt, tt, fewer _ _ _ (returns-in-Some-Err-clause-steps c)); keeps = tt; rests = λ f. tt }

pub returns-clause-steps : goal.returns-clause-steps
returns-clause-steps c =
    (c.loop-self.invariant.left ∙ end_step c.loop-self.self.text.now c.loop-self.self.at c.loop-self-test.false, end_step c.loop-self.self.text.now c.loop-self.self.at c.loop-self-test.false)
