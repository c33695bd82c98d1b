use Rattle.std.proofs.Common.{◌≡◌, ◌*◌, ◌++◌, map}
use Rattle.std.specs.List.{flat_map, range_with_len}
use Rattle.link_base.specs.Bytes.{u16_at}
use Rattle.diagnostics.specs.LineText.{escaped_unit}
use Rattle.diagnostics.proofs.line.push_units.Given as goal

abbrev pub invariant-loop-index : goal.invariant-loop-index
invariant-loop-index l =
    l.line.items ≡ l.initial.line.items ++ flat_map escaped_unit (map (λ k. u16_at l.text (2 * k)) (range_with_len 0 l.index))
