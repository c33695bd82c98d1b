use Rattle.std.proofs.Common.{◌≡◌, map}
use Rattle.std.specs.List.{range_with_len}
use Rattle.pdb_dbi.specs.DbiReading.{record_in}
use Rattle.pdb_dbi.proofs.reading.records_of.Given as goal

abbrev pub invariant-loop-index : goal.invariant-loop-index
invariant-loop-index l = l.list.items ≡ map (record_in l.fn.form l.part) (range_with_len 0 l.index)
