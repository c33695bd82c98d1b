use Rattle.std.proofs.Common.{sym, ◌∙◌}
use Rattle.section_group.specs.Gathering.{input_of}
use Rattle.section_group.proofs.OwnerLemmas.{owner_within}
use Rattle.section_group.proofs.owners.deciding_piece.Goals as goal

pub returns-in-Some-clause-within : goal.returns-in-Some-clause-within
returns-in-Some-clause-within c =
    let name = c.cut-cut.result.now.section in
    owner_within (input_of c.args.parts.now) name c.in-Some.owner.now (sym (c.requires.owners name) ∙ sym c.in-Some.ensures.value)
