use Rattle.std.proofs.Common.{refl, sym, ◌∙◌, ◌+◌}
use Rattle.link_base.specs.Bytes.{all_below}
use Rattle.link_base.proofs.CallerLemmas.{all_below-more}
use Rattle.pdb_msf.specs.BlockFile.{is_block, entry, stream_count}
use Rattle.pdb_msf.proofs.DirectoryLemmas.{lists_fail}
use Rattle.pdb_msf.proofs.judging.lists_are_there.Goals as goal

pub loop-index-init : goal.loop-index-init
unfolding all_below
loop-index-init c = refl

pub returns-then-not-is_listed_block : goal.returns-then-not-is_listed_block
returns-then-not-is_listed_block c =
    sym (lists_fail c.args.bytes.now c.listed_len-count.result c.loop-index.index c.listed_len-count.ensures c.loop-index-test.true (sym c.is_listed_block.ensures ∙ c.if-not-is_listed_block.true))

pub loop-index-preserved : goal.loop-index-preserved
loop-index-preserved c =
    all_below-more c.loop-index.index (λ k. is_block c.args.bytes.now (entry c.args.bytes.now (1 + stream_count c.args.bytes.now + k))) c.loop-index.invariant (sym c.is_listed_block.ensures ∙ c.if-not-is_listed_block.false)
