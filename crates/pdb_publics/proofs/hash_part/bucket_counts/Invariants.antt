use Rattle.std.proofs.Common.{◌≡◌, take}
use Rattle.pdb_publics.specs.PublicStreams.{counts}
use Rattle.pdb_publics.proofs.hash_part.bucket_counts.Given as goal

abbrev pub invariant-loop-key : goal.invariant-loop-key
invariant-loop-key l = l.counts.items ≡ counts (take l.key-index l.keys)
