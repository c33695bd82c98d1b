use Rattle.std.proofs.Common.{sym, ap, ◌∙◌, ◌++◌, List, ℕ}
use Rattle.std.proofs.lemmas.List.{append-nil}
use Rattle.pdb_msf.proofs.WritingLemmas.{no_numbers, numbers_grow}
use Rattle.pdb_msf.proofs.tables.push_block_numbers.Goals as goal

pub loop-index-init : goal.loop-index-init
loop-index-init c =
    sym (ap (λ (xs : List ℕ). c.args.out.now.items ++ xs) (no_numbers c.args.n) ∙ append-nil c.args.out.now.items)

pub loop-index-preserved : goal.loop-index-preserved
loop-index-preserved c =
    numbers_grow c.args.n c.loop-index.index c.block_number.result c.args.out.now.items c.loop-index.out.items _ c.block_number.ensures c.loop-index.invariant c.in_ok-push_fields.ensures
