use Rattle.std.proofs.Common.{sym, ap, ◌∙◌, arith}
use Rattle.base_reloc.specs.Blocks.{malformed_place}
use Rattle.base_reloc.proofs.WalkLemmas.{rest_walk_start, rest_walk_end, rest_walk_no_block, judged_first, judged_more}
use Rattle.base_reloc.proofs.judging.first_malformed.Goals as goal

pub loop-at-init : goal.loop-at-init
loop-at-init c = (omega arith, ap malformed_place (rest_walk_start c.args.memory_len c.args.blocks.now))

pub returns-then-not-has_block : goal.returns-then-not-has_block
returns-then-not-has_block c =
    ap malformed_place (sym (rest_walk_no_block c.args.memory_len c.args.blocks.now c.loop-at.at (omega arith) (sym c.has_block.ensures ∙ c.if-not-has_block.true))) ∙ c.loop-at.invariant.1

pub returns-then-is_some : goal.returns-then-is_some
returns-then-is_some c =
    judged_first c.args.memory_len c.args.blocks.now c.loop-at.at c.first_malformed_entry-entry.result (omega arith) (sym c.has_block.ensures ∙ c.if-not-has_block.false) c.first_malformed_entry-entry.ensures (sym c.is_some.ensures ∙ c.if-is_some.true) ∙ c.loop-at.invariant.1

pub loop-at-preserved : goal.loop-at-preserved
loop-at-preserved c =
    judged_more c.args.memory_len c.args.blocks.now c.loop-at.at c.size_in-at.result c.first_malformed_entry-entry.result _ (omega arith) (sym c.has_block.ensures ∙ c.if-not-has_block.false) c.size_in-at.ensures c.first_malformed_entry-entry.ensures (sym c.is_some.ensures ∙ c.if-is_some.false) c.loop-at.invariant.1

pub returns : goal.returns
returns c = ap malformed_place (sym (rest_walk_end c.args.memory_len c.args.blocks.now c.loop-at.at (omega arith))) ∙ c.loop-at.invariant.1
