use Rattle.std.proofs.Common.{sym, ap, ◌∙◌, ◌++◌, ◌+◌, List, ℕ, refl}
use Rattle.std.proofs.lemmas.List.{append-nil}
use Rattle.pdb_msf.specs.WrittenFile.{cut_block}
use Rattle.pdb_msf.proofs.WritingLemmas.{laid_none, blocks_grow}
use Rattle.pdb_msf.proofs.blocks.push_blocks.Goals as goal

pub loop-index-init : goal.loop-index-init
loop-index-init c =
    sym (ap (λ (xs : List ℕ). c.args.out.now.items ++ xs) (laid_none c.args.total c.args.n) ∙ append-nil c.args.out.now.items)

pub loop-index-preserved : goal.loop-index-preserved
loop-index-preserved c =
    blocks_grow c.args.total c.args.n c.loop-index.index (c.args.n + c.loop-index.index) (cut_block c.args.bytes.now) c.args.out.now.items c.loop-index.out.items _ c.cut_block.result.now refl c.cut_block.ensures c.loop-index.invariant c.in_ok-push_block.ensures
