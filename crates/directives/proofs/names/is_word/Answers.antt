use Rattle.std.proofs.Common.{arith}
use Rattle.directives.proofs.NameLemmas.{is_word_is, is_word_own, is_word_other}
use Rattle.directives.proofs.names.is_word.Goals as goal

pub returns-then-text-word : goal.returns-then-text-word
returns-then-text-word c = is_word_other c.args.text.now c.args.word.now (λ same. absurd (omega (arith, same)))

pub returns-then-eq : goal.returns-then-eq
returns-then-eq c = is_word_own _ _ _ c.eq.ensures c.if-eq.true

pub returns-else-eq : goal.returns-else-eq
returns-else-eq c = is_word_is _ _ _ c.eq_ignore_ascii_case.ensures.test
