use Rattle.std.proofs.Common.{◌∙◌, ◌+◌, ◌*◌, ap, bit_xor, ℕ, arith}
use Rattle.link_base.specs.Bytes.{number_at}
use Rattle.pdb_publics.specs.NameHash.{mix}
use Rattle.pdb_publics.proofs.HashLemmas.{import_short, import_long}
use Rattle.pdb_publics.proofs.hashing.mix_import.Goals as goal

pub returns-then-rest-lt2 : goal.returns-then-rest-lt2
returns-then-rest-lt2 c = ap (λ (n : ℕ). bit_xor 1835622239 (bit_xor 24432 n)) c.mix_last.ensures ∙ import_short c.args.rest.now (omega (arith, c.if-rest-lt2.true))

pub returns : goal.returns
returns c =
    ap (λ (n : ℕ). bit_xor 1835622239 (bit_xor (24432 + 65536 * n) c.mix.result)) (c.from.ensures ∙ c.u16_in.ensures)
    ∙ ap (λ (n : ℕ). bit_xor 1835622239 (bit_xor (24432 + 65536 * number_at 2 c.args.rest.now 0) n)) (c.mix.ensures ∙ ap mix c.split_at.ensures.back)
    ∙ import_long c.args.rest.now (omega (arith, c.if-rest-lt2.false))
