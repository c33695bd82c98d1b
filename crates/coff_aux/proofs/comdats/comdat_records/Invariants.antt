use Rattle.std.proofs.Common.{◌≡◌, map}
use Rattle.std.specs.List.{range_with_len}
use Rattle.coff_aux.specs.Comdats.{comdat_record_of}
use Rattle.coff_aux.proofs.comdats.comdat_records.Given as goal

abbrev pub invariant-loop-index : goal.invariant-loop-index
invariant-loop-index l =
    l.records.items ≡ map (comdat_record_of l.object) (range_with_len 1 l.index)
