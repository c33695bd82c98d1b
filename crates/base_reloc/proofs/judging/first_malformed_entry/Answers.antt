use Rattle.std.proofs.Common.{◌+◌, ◌-◌, ◌/◌, sym, ap, ◌∙◌, arith}
use Rattle.base_reloc.specs.Blocks.{malformed_place}
use Rattle.base_reloc.proofs.WalkLemmas.{entries_start, entries_end, entry_bad, entry_fine}
use Rattle.base_reloc.proofs.judging.first_malformed_entry.Goals as goal

pub loop-index-init : goal.loop-index-init
loop-index-init c =
    ap malformed_place (entries_start c.args.memory_len c.page_in-page.result c.size_in.result c.args.blocks.now c.args.at c.page_in-page.ensures c.size_in.ensures)

pub returns-in-Malformed : goal.returns-in-Malformed
returns-in-Malformed c =
    entry_bad c.args.memory_len c.page_in-page.result c.u16_in.result c.args.blocks.now (c.args.at + 8) ((c.size_in.result - 8) / 2) c.loop-index.index c.entry_of.result _ (omega arith) c.u16_in.ensures c.entry_of.ensures c.in-Malformed.is c.loop-index.invariant

pub loop-index-preserved : goal.loop-index-preserved
loop-index-preserved c =
    entry_fine c.args.memory_len c.page_in-page.result c.u16_in.result c.args.blocks.now (c.args.at + 8) ((c.size_in.result - 8) / 2) c.loop-index.index c.entry_of.result _ (omega arith) c.u16_in.ensures c.entry_of.ensures c.in_default.not-Malformed c.loop-index.invariant

pub returns : goal.returns
returns c =
    ap malformed_place (sym (entries_end c.args.memory_len c.page_in-page.result c.args.blocks.now (c.args.at + 8) ((c.size_in.result - 8) / 2) c.loop-index.index (omega arith))) ∙ c.loop-index.invariant
