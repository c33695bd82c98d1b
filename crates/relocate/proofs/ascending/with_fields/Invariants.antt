use Rattle.std.proofs.Common.{◌≡◌, take}
use Rattle.std.specs.List.{filter}
use Rattle.relocate.specs.Field.{has_field}
use Rattle.relocate.proofs.ascending.with_fields.Given as goal

abbrev pub invariant-loop-packed : goal.invariant-loop-packed
invariant-loop-packed l = l.fields.items ≡ filter has_field (take l.packed-index l.fixes)
