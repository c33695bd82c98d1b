use Rattle.std.proofs.Common.{sym, ◌∙◌, ap, bit_xor, ℕ, arith, rules}
use Rattle.link_base.specs.Bytes.{number_at}
use Rattle.pdb_publics.proofs.HashLemmas.{not_empty, mix_none, mix_one, mix_two, mix_three}
use Rattle.pdb_publics.proofs.hashing.mix_last.Goals as goal

pub returns-then-is_empty : goal.returns-then-is_empty
returns-then-is_empty c = mix_none c.args.rest.now (search rules)

pub returns-then-rest-eq1 : goal.returns-then-rest-eq1
returns-then-rest-eq1 c = c.from.ensures ∙ mix_one c.args.rest.now (search rules)

pub returns-then-rest-eq2 : goal.returns-then-rest-eq2
returns-then-rest-eq2 c = c.from-pair.ensures ∙ c.u16_in.ensures ∙ mix_two c.args.rest.now (search rules)

pub returns : goal.returns
returns c =
    ap (λ (n : ℕ). bit_xor n c.from-2.result) (c.from-pair.ensures ∙ c.u16_in.ensures)
    ∙ ap (bit_xor (number_at 2 c.args.rest.now 0)) c.from-2.ensures
    ∙ mix_three c.args.rest.now (omega (arith, c.requires, not_empty c.args.rest.now (sym c.is_empty.ensures ∙ c.if-is_empty.false), c.if-rest-eq1.false, c.if-rest-eq2.false))
