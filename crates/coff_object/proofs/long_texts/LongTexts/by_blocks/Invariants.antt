use Rattle.std.proofs.Common.{◌*◌}
use Rattle.coff_object.specs.LongText.{IsNextNul, HoldsBlocks}
use Rattle.coff_object.proofs.long_texts.LongTexts.by_blocks.Given as goal

abbrev pub invariant-loop-index : goal.invariant-loop-index
invariant-loop-index l = record {
  next : IsNextNul l.strings (32000 * l.index) l.nul;
  blocks : HoldsBlocks l.strings l.spans.items l.index;
}
