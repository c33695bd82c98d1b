use Rattle.std.proofs.Common.{◌∙◌}
use Rattle.pdb_publics.specs.Lookup.{stream_bytes_of}
use Rattle.pdb_publics.proofs.ReadLemmas.{four_bytes}
use Rattle.pdb_publics.proofs.stream.u32_in.Goals as goal

pub returns : goal.returns
returns c = four_bytes (stream_bytes_of c.args.msf.now c.args.stream) c.args.at c.from.result c.from-2.result (c.from.ensures ∙ c.u16_in.ensures) (c.from-2.ensures ∙ c.u16_in-2.ensures)
