use Rattle.pdb_dbi.specs.SectionMap.{section_descriptor}
use Rattle.pdb_dbi.proofs.RangeLemmas.{joined_behind}
use Rattle.pdb_dbi.proofs.sections.push_sections.Goals as goal

pub loop-index-preserved : goal.loop-index-preserved
loop-index-preserved c =
    joined_behind (section_descriptor c.args.headers.now) c.loop-index.index c.args.out.now.items c.loop-index.out.items c.push_section.new.out.items c.loop-index.invariant c.in_ok-push_section.ensures
