use Rattle.std.proofs.Common.{◌≡◌, ◌+◌, None}
use Rattle.link_base.specs.Refusals.{first_refusal_below}
use Rattle.pdb_publics.specs.Lookup.{stream_bytes_of, verdict, hash_entry}
use Rattle.pdb_publics.proofs.finding.first_named.Given as goal

abbrev pub invariant-loop-index : goal.invariant-loop-index
invariant-loop-index l = first_refusal_below l.index (λ index. verdict (stream_bytes_of l.msf 7) l.name (hash_entry (stream_bytes_of l.msf 6) (l.first + index))) ≡ None
