use Rattle.std.proofs.Common.{◌∙◌, ap, refl}
use Rattle.std.specs.Option.{option_copied}
use Rattle.directives.proofs.PlainLemmas.{plain_name}
use Rattle.directives.proofs.values.name_of.Goals as goal

pub returns-then-is_short_and_plain : goal.returns-then-is_short_and_plain
returns-then-is_short_and_plain c =
    let plain = c.if-is_short_and_plain.ensures in
    ap option_copied c.then_some.ensures ∙ plain_name _ c.args.value (plain.short refl) (plain.quote refl) (plain.nul refl) c.is_empty.ensures
