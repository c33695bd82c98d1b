use Rattle.std.proofs.lemmas.Int.{to_z-of_z}
use mir.Syntax.{w64}
use Rattle.relocate.proofs.NumberLemmas.{unsigned_is}
use Rattle.relocate.proofs.number.unsigned.Goals as goal

pub returns-then-value-lt4294967296 : goal.returns-then-value-lt4294967296
returns-then-value-lt4294967296 c =
    unsigned_is c.args.value _ (to_z-of_z w64 c.args.value c.ranges.value) c.if-value-ge0.true c.if-value-lt4294967296.true
