use Rattle.std.proofs.Common.{sym, subst}
use Rattle.res_merge.specs.Entries.{Key}
use Rattle.res_merge.specs.Order.{IsShort}
use Rattle.res_merge.proofs.leaves.push_texts.Goals as goal
use Rattle.res_merge.proofs.RowLemmas.{any_run}

pub push_text-requires : goal.push_text-requires
push_text-requires c = subst (λ (key : Key). IsShort key) (sym c.key_at.ensures) (c.requires c.loop-run.run-index any_run c.loop-run-test.true)
