use Rattle.directives.proofs.NameLemmas.{is_word_small}
use Rattle.directives.proofs.names.spells.Goals as goal

pub returns-then-eq : goal.returns-then-eq
returns-then-eq c = is_word_small _ _ _ _ c.eq.ensures c.if-eq.true c.requires
