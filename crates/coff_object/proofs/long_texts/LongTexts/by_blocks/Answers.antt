use Rattle.std.proofs.Common.{arith}
use Rattle.coff_object.proofs.LongTextLemmas.{next_at, more_blocks, all_blocks}
use Rattle.coff_object.proofs.long_texts.LongTexts.by_blocks.Goals as goal

pub loop-index-preserved : goal.loop-index-preserved
loop-index-preserved c = record {
  next = next_at c.args.strings.now c.block_end-end.result _ _ (omega (arith, c.block_end-end.ensures.high)) (λ lt. c.block_end-end.ensures.reaches (omega arith)) c.next_nul-nul.ensures;
  blocks = more_blocks c.args.strings.now c.loop-index.spans.items c.put_span.new.spans.items c.loop-index.index c.long_span.result c.loop-index.invariant.blocks c.long_span.ensures c.in_ok-put_span.ensures;
}

pub invariant_of-result : goal.invariant_of-result
invariant_of-result c = all_blocks _ _ c.loop-index.index (omega arith) c.loop-index.invariant.blocks
