use Rattle.std.proofs.Common.{◌∙◌}
use Rattle.pdb_publics.specs.Lookup.{stream_bytes_of}
use Rattle.pdb_publics.proofs.ReadLemmas.{two_bytes}
use Rattle.pdb_publics.proofs.stream.u16_in.Goals as goal

pub returns : goal.returns
returns c = two_bytes (stream_bytes_of c.args.msf.now c.args.stream) c.args.at c.from.result c.from-2.result (c.from.ensures ∙ c.byte_in.ensures) (c.from-2.ensures ∙ c.byte_in-2.ensures)
