use Rattle.std.proofs.lemmas.Int.{to_z-of_z}
use mir.Syntax.{w64}
use Rattle.relocate.proofs.NumberLemmas.{low_is}
use Rattle.relocate.proofs.number.low_address.Goals as goal

pub returns-then-value-lt2147483648 : goal.returns-then-value-lt2147483648
returns-then-value-lt2147483648 c =
    low_is c.args.base c.args.value _ (to_z-of_z w64 c.args.value c.ranges.value) c.if-value-ge0.true c.if-value-lt2147483648.true
