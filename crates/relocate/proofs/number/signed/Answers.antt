use Rattle.std.proofs.Common.{rules, ◌∙◌}
use Rattle.std.proofs.lemmas.Int.{to_z-of_z}
use mir.Syntax.{w64}
use Rattle.relocate.proofs.NumberLemmas.{signed_is}
use Rattle.relocate.proofs.number.signed.Goals as goal

pub returns-then-value-lt2147483648 : goal.returns-then-value-lt2147483648
returns-then-value-lt2147483648 c =
    signed_is c.args.value _ _ (to_z-of_z w64 c.args.value c.ranges.value) c.if-value-geminus2147483648.true c.if-value-lt2147483648.true (to_z-of_z w64 c.rem_euclid.result (search rules) ∙ c.rem_euclid.ensures.value)
