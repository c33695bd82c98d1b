use Rattle.directives.proofs.WordLemmas.{none_left_open}
use Rattle.directives.proofs.words.quote_left_open.Goals as goal

pub returns-else-is_last-clause-is : goal.returns-else-is_last-clause-is
returns-else-is_last-clause-is c = none_left_open c.args.word.now (c.requires c.if-is_last.false)
