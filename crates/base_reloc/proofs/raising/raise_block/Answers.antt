use Rattle.std.proofs.Common.{◌+◌, ◌-◌, ◌/◌, length, sym, ap, ◌∙◌, arith}
use Rattle.base_reloc.specs.Blocks.{Walk, raised_all, walked_fields}
use Rattle.base_reloc.proofs.WalkLemmas.{entries_start, entries_end}
use Rattle.base_reloc.proofs.RaiseLemmas.{block_begun, entry_more}
use Rattle.base_reloc.proofs.raising.raise_block.Goals as goal

pub loop-index-init : goal.loop-index-init
loop-index-init c =
    block_begun c.args.delta c.args.memory.now _ _ (entries_start (length c.args.memory.now) c.page_in-page.result c.size_in.result c.args.blocks.now c.args.at c.page_in-page.ensures c.size_in.ensures) c.requires.well_formed

pub loop-index-preserved : goal.loop-index-preserved
loop-index-preserved c =
    entry_more c.args.delta c.loop-index.memory c.raise_entry.new.memory _ (length c.loop-index.memory) (length c.args.memory.now) c.page_in-page.result c.u16_in-word.result c.args.blocks.now (c.args.at + 8) ((c.size_in.result - 8) / 2) c.loop-index.index (omega arith) c.u16_in-word.ensures c.loop-index.auto.memory c.raise_entry.ensures c.loop-index.invariant.0 c.loop-index.invariant.1

pub returns : goal.returns
returns c =
    let none = entries_end (length c.args.memory.now) c.page_in-page.result c.args.blocks.now (c.args.at + 8) ((c.size_in.result - 8) / 2) c.loop-index.index (omega arith) in
    ap (λ (walk : Walk). raised_all c.args.delta c.loop-index.memory (walked_fields walk)) (sym none) ∙ c.loop-index.invariant.1
