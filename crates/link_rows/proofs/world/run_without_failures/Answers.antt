use Rattle.std.proofs.Common.{subst}
use Rattle.std.specs.Prelude.{IfOk}
use Rattle.link_files.specs.Store.{Store}
use Rattle.link_rows.specs.Runs.{texts, unfailed, shown, IsRun}
use Rattle.link_rows.proofs.world.run_without_failures.Goals as goal

pub returns : goal.returns
returns g c =
    subst (λ (store : Store). IfOk c.run_over.result (λ ended. IsRun (texts c.args.words.now) (unfailed store) (unfailed ended.files) (shown ended.out) ended.status)) c.in_ok-store.ensures c.run_over.ensures
