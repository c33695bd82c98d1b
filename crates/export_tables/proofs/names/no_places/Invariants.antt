use Rattle.std.proofs.Common.{◌≡◌, []}
use Rattle.export_tables.specs.ExportTable.{places_in}
use Rattle.export_tables.proofs.names.no_places.Given as goal

abbrev pub invariant-loop : goal.invariant-loop
invariant-loop l = l.places.items ≡ places_in l.rows l.ordinals l.counter []
