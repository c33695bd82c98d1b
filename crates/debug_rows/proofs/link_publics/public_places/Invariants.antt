use Rattle.std.proofs.Common.{◌≡◌}
use Rattle.std.specs.List.{flat_map, range_with_len}
use Rattle.module_view.specs.Module.{module_at}
use Rattle.debug_rows.specs.Publics.{module_publics}
use Rattle.debug_rows.proofs.link_publics.public_places.Given as goal

abbrev pub invariant-loop-position : goal.invariant-loop-position
invariant-loop-position l = l.publics.items ≡ flat_map (λ k. module_publics l.names k (module_at l.modules k)) (range_with_len 0 l.position)
