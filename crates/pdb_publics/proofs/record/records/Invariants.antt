use Rattle.std.proofs.Common.{◌≡◌, take}
use Rattle.pdb_publics.specs.PublicStreams.{records_of}
use Rattle.pdb_publics.proofs.record.records.Given as goal

abbrev pub invariant-loop-row : goal.invariant-loop-row
invariant-loop-row l = l.out.items ≡ records_of (take l.row-index l.rows)
