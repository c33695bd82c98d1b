use Rattle.std.proofs.Common.{sym, ◌∙◌}
use Rattle.pdb_publics.specs.Lookup.{stream_bytes_of}
use Rattle.pdb_publics.proofs.ReadLemmas.{named_in_two}
use Rattle.pdb_publics.proofs.finding.is_named.Goals as goal

pub returns-then-is_text : goal.returns-then-is_text
returns-then-is_text c =
    named_in_two (stream_bytes_of c.args.msf.now 7) c.args.name.now c.prefix-prefix.result.now c.rest.result.now c.args.at c.args.len c.is_text-then-is_text.result (c.if-len.false ∙ c.len.ensures) c.prefix-prefix.ensures c.rest.ensures (sym c.if-is_text.true ∙ c.is_text.ensures) c.is_text-then-is_text.ensures
