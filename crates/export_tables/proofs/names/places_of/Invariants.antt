use Rattle.std.proofs.Common.{◌≡◌, take}
use Rattle.export_tables.specs.ExportTable.{places_in, address_count}
use Rattle.export_tables.proofs.names.places_of.Given as goal

-- the names of the rows before an index
abbrev pub invariant-loop-index : goal.invariant-loop-index
invariant-loop-index l = l.places.items ≡ places_in l.rows l.ordinals (address_count l.ordinals) (take l.index l.ordinals)
