use Rattle.relocate.proofs.NumberLemmas.{two_is}
use Rattle.relocate.proofs.number.two_bytes.Goals as goal

pub returns-then-value-lt65536 : goal.returns-then-value-lt65536
returns-then-value-lt65536 c = two_is c.args.value c.if-value-lt65536.true
