use Rattle.std.proofs.Common.{◌+◌, ℕ, length, sym, ap, ◌∙◌, arith}
use Rattle.base_reloc.specs.Blocks.{Walk, raised_all, walked_fields, malformed_place, block_entries, block_size}
use Rattle.base_reloc.proofs.WalkLemmas.{rest_walk, block_is, block_there, block_fine, place_then_both, rest_walk_start, rest_walk_end}
use Rattle.base_reloc.proofs.RaiseLemmas.{block_begun, blocks_more_at}
use Rattle.base_reloc.proofs.raising.raise_listed.Goals as goal

pub loop-at-init : goal.loop-at-init
loop-at-init c =
    let begun = block_begun c.args.delta c.args.memory.now _ _ (rest_walk_start (length c.args.memory.now) c.args.blocks.now) c.requires.well_formed in
    (omega arith, begun.0, begun.1)

pub raise_block-requires-clause-block : goal.raise_block-requires-clause-block
raise_block-requires-clause-block c =
    block_there (length c.args.memory.now) c.args.blocks.now c.loop-at.at (omega arith) c.loop-at.invariant.1

pub raise_block-requires-clause-well_formed : goal.raise_block-requires-clause-well_formed
raise_block-requires-clause-well_formed c =
    ap (λ (k : ℕ). malformed_place (block_entries k c.args.blocks.now c.loop-at.at)) c.loop-at.auto.memory
    ∙ (place_then_both _ (rest_walk (length c.args.memory.now) c.args.blocks.now (c.loop-at.at + block_size c.args.blocks.now c.loop-at.at)) (block_fine (length c.args.memory.now) c.args.blocks.now c.loop-at.at (omega arith) c.loop-at.invariant.1)).0

pub size_in-at-requires : goal.size_in-at-requires
size_in-at-requires c =
    let is = block_is c.args.blocks.now c.loop-at.at (block_there (length c.args.memory.now) c.args.blocks.now c.loop-at.at (omega arith) c.loop-at.invariant.1) in
    omega (arith, is)

pub overflow_add-at : goal.overflow_add-at
overflow_add-at c =
    let is = block_is c.args.blocks.now c.loop-at.at (block_there (length c.args.memory.now) c.args.blocks.now c.loop-at.at (omega arith) c.loop-at.invariant.1) in
    omega (arith, is, c.size_in-at.ensures)

pub loop-at-smaller : goal.loop-at-smaller
loop-at-smaller c =
    let is = block_is c.args.blocks.now c.loop-at.at (block_there (length c.args.memory.now) c.args.blocks.now c.loop-at.at (omega arith) c.loop-at.invariant.1) in
    omega (arith, is, c.size_in-at.ensures)

pub loop-at-preserved : goal.loop-at-preserved
loop-at-preserved c =
    let here = block_there (length c.args.memory.now) c.args.blocks.now c.loop-at.at (omega arith) c.loop-at.invariant.1 in
    let is = block_is c.args.blocks.now c.loop-at.at here in
    let more = blocks_more_at c.args.delta c.loop-at.memory c.raise_block.new.memory _ (length c.loop-at.memory) (length c.args.memory.now) c.args.blocks.now c.loop-at.at c.size_in-at.result (omega arith) here c.size_in-at.ensures c.loop-at.auto.memory c.raise_block.ensures c.loop-at.invariant.1 c.loop-at.invariant.2 in
    (omega (arith, is, c.size_in-at.ensures), more.0, more.1)

pub returns : goal.returns
returns c =
    let none = rest_walk_end (length c.args.memory.now) c.args.blocks.now c.loop-at.at (omega arith) in
    ap (λ (walk : Walk). raised_all c.args.delta c.loop-at.memory (walked_fields walk)) (sym none) ∙ c.loop-at.invariant.2
