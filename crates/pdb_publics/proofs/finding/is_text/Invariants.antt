use Rattle.std.proofs.Common.{◌≡◌, ◌<◌, ◌+◌, ℕ, get_or}
use Rattle.pdb_publics.specs.Lookup.{stream_bytes_of}
use Rattle.pdb_publics.proofs.finding.is_text.Given as goal

abbrev pub invariant-loop-index : goal.invariant-loop-index
invariant-loop-index l = (k : ℕ) → k < l.index → get_or (stream_bytes_of l.msf 7) (l.at + k) 0 ≡ get_or l.text k 0
