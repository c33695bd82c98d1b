use Rattle.std.proofs.Common.{◌≡◌, take}
use Rattle.link_rows.specs.Runs.{stored}
use Rattle.link_rows.proofs.world.store_of.Given as goal

abbrev pub invariant-loop-name : goal.invariant-loop-name
invariant-loop-name l = l.store ≡ stored (take l.name-index l.files)
