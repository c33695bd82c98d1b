use Rattle.std.proofs.Common.{map, ap, ◌∙◌}
use Rattle.std.specs.Prelude.{string_bytes}
use Rattle.link_rows.proofs.RunLemmas.{is_run}
use Rattle.link_rows.proofs.world.run_over.Goals as goal

pub returns : goal.returns
returns g c =
    is_run _ _ _ _ _ _ _ (ap (map string_bytes) c.deref.ensures.value ∙ c.in_ok-words.ensures) c.requires.printed c.run-status.ensures.ran c.run-status.ensures.owed
