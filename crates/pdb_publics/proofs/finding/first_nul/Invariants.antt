use Rattle.std.proofs.Common.{◌≡◌, ◌<◌, ◌+◌, ℕ, get_or, false, eqb}
use Rattle.pdb_publics.specs.Lookup.{stream_bytes_of}
use Rattle.pdb_publics.proofs.finding.first_nul.Given as goal

abbrev pub invariant-loop-len : goal.invariant-loop-len
invariant-loop-len l = (k : ℕ) → k < l.len → eqb (get_or (stream_bytes_of l.msf 7) (l.offset + 14 + k) 0) 0 ≡ false
