use Rattle.std.proofs.Common.{arith}
use Rattle.std.proofs.lemmas.List.Elements.{Contains-get_or}
use Rattle.icf.proofs.rounds.renamed.Goals as goal

pub renamed_place-requires : goal.renamed_place-requires
renamed_place-requires c = c.requires _ (Contains-get_or c.args.fields.now c.loop-field.field-index _ (omega arith))
