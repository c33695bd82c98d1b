use Rattle.section_group.specs.Uniqueness.{rows_of}
use Rattle.link_words.specs.Outcome.{options_said}
use Rattle.link_plan.specs.Plan.{kept_parts}
use Rattle.link_image.specs.LinkedImage.{base_rule}
use Rattle.link_image.specs.Steps.{reloc_tables}
use Rattle.link_image.proofs.SectionLemmas.{bad_base, not_permitted}
use Rattle.link_image.proofs.placement.check_own_base.Goals as goal

pub returns-in-Err-clause-refused : goal.returns-in-Err-clause-refused
returns-in-Err-clause-refused c =
    let options = options_said c.args.options.now in
    let placement = c.args.placement.now in
    bad_base options (kept_parts c.args.plan.now) (rows_of placement.sections.items) placement.layout (reloc_tables placement.table) c.requires.placed.means
    (not_permitted (base_rule options) placement.layout.image _ c.in-Err.ensures.refused)
