use Rattle.std.proofs.Common.{arith}
use Rattle.pdb_publics.specs.Lookup.{stream_bytes_of}
use Rattle.pdb_publics.proofs.ReadLemmas.{other_text, one_text}
use Rattle.pdb_publics.proofs.finding.is_text.Goals as goal

pub returns-then-byte_in-text : goal.returns-then-byte_in-text
returns-then-byte_in-text c =
    other_text (stream_bytes_of c.args.msf.now 7) c.args.text.now c.args.at c.loop-index.index c.byte_in.result c.loop-index-test.true c.byte_in.ensures c.if-byte_in-text.true

pub returns : goal.returns
returns c =
    one_text (stream_bytes_of c.args.msf.now 7) c.args.text.now c.args.at c.requires.there (λ k lt. c.loop-index.invariant k (omega (arith, lt, c.loop-index-test.false)))
