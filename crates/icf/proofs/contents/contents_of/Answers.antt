use Rattle.icf.specs.Sections.{sections_of}
use Rattle.icf.proofs.ContentLemmas.{contents_pushed}
use Rattle.icf.proofs.contents.contents_of.Goals as goal

pub loop-rank-preserved : goal.loop-rank-preserved
loop-rank-preserved c =
    contents_pushed c.args.pieces.now (sections_of c.args.candidate.now) c.loop-rank.rank c.section.result c.index-pieces-section.result c.again.result _ _ (c.requires _ _ c.section.ensures) c.index-pieces-section.is c.again.ensures c.section.ensures c.loop-rank.invariant c.in_ok-push.ensures.items
