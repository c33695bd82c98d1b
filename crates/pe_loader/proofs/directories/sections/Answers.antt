use Rattle.pe_loader.proofs.ExtentLemmas.{sections_grow}
use Rattle.pe_loader.proofs.directories.sections.Goals as goal

pub loop-index-preserved : goal.loop-index-preserved
loop-index-preserved c =
    sections_grow c.args.image.now c.loop-index.index c.loop-index.found.items _ c.section_header-section.result.rva c.section_header-section.result.size c.loop-index.invariant c.section_header-section.ensures.rva c.section_header-section.ensures.size c.in_ok-push.ensures.items
