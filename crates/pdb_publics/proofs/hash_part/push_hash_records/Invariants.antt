use Rattle.std.proofs.Common.{◌≡◌, ◌++◌, take}
use Rattle.pdb_publics.specs.PublicStreams.{hash_records}
use Rattle.pdb_publics.proofs.hash_part.push_hash_records.Given as goal

abbrev pub invariant-loop-key : goal.invariant-loop-key
invariant-loop-key l = l.out.items ≡ l.initial.out.items ++ hash_records (take l.key-index l.keys)
