use Rattle.std.proofs.Common.{ap, refl, sym, ◌∙◌}
use Rattle.link_base.specs.Bytes.{all_below}
use Rattle.link_base.proofs.CallerLemmas.{all_below-more}
use Rattle.pdb_msf.specs.BlockFile.{is_block, directory_block}
use Rattle.pdb_msf.proofs.DirectoryLemmas.{directory_fails}
use Rattle.pdb_msf.proofs.judging.directory_is_there.Goals as goal

pub loop-index-init : goal.loop-index-init
unfolding all_below
loop-index-init c = refl

pub returns-then-not-is_block : goal.returns-then-not-is_block
returns-then-not-is_block c =
    sym (directory_fails c.args.bytes.now c.directory_blocks-count.result c.loop-index.index c.directory_blocks-count.ensures.count c.loop-index-test.true (ap (is_block c.args.bytes.now) (sym c.directory_block.ensures) ∙ sym c.is_block.ensures ∙ c.if-not-is_block.true))

pub loop-index-preserved : goal.loop-index-preserved
loop-index-preserved c =
    all_below-more c.loop-index.index (λ k. is_block c.args.bytes.now (directory_block c.args.bytes.now k)) c.loop-index.invariant (ap (is_block c.args.bytes.now) (sym c.directory_block.ensures) ∙ sym c.is_block.ensures ∙ c.if-not-is_block.false)
