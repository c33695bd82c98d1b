use Rattle.std.proofs.Common.{arith}
use Rattle.pdb_publics.specs.Lookup.{stream_bytes_of}
use Rattle.pdb_publics.proofs.ReadLemmas.{nul_found, nul_missing}
use Rattle.pdb_publics.proofs.finding.first_nul.Goals as goal

pub returns-then-byte_in-eq0-clause-name : goal.returns-then-byte_in-eq0-clause-name
returns-then-byte_in-eq0-clause-name c =
    nul_found (stream_bytes_of c.args.msf.now 7) c.args.offset c.args.size c.loop-len.len c.byte_in.result c.requires.there (omega (arith, c.loop-len-test.true, c.saturating_sub-len-end.ensures)) c.loop-len.invariant c.byte_in.ensures c.if-byte_in-eq0.true

pub returns-clause-name : goal.returns-clause-name
returns-clause-name c =
    nul_missing (stream_bytes_of c.args.msf.now 7) c.args.offset c.args.size c.requires.there (λ k lt. c.loop-len.invariant k (omega (arith, lt, c.loop-len-test.false, c.saturating_sub-len-end.ensures)))
