use Rattle.std.proofs.Common.{sym, ◌∙◌}
use Rattle.section_group.specs.Uniqueness.{rows_of}
use Rattle.image_pdb.proofs.ContributionLemmas.{contributions_bare}
use Rattle.image_pdb.proofs.rows.image_rows.Goals as goal

pub returns-clause-contributions : goal.returns-clause-contributions
returns-clause-contributions c =
    let image = c.args.image.now in
    let layout = image.layout.now in
    c.in_ok-contributions.ensures
    ∙ sym (contributions_bare image.modules.now image.pieces.now layout.sections.items layout.pieces.items (rows_of image.sections.now))
