use Rattle.std.proofs.Common.{◌≡◌, None}
use Rattle.link_base.specs.Bytes.{first_below}
use Rattle.export_tables.specs.Ordinals.{asks_for_zero}
use Rattle.export_tables.proofs.clashes.zero_ordinal.Given as goal

abbrev pub invariant-loop-index : goal.invariant-loop-index
invariant-loop-index l = first_below l.index (asks_for_zero l.rows) ≡ None
