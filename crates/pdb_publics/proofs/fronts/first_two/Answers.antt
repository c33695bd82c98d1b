use Rattle.std.proofs.Common.{◌∙◌, arith}
use Rattle.pdb_publics.proofs.FrontLemmas.{two_bytes}
use Rattle.pdb_publics.proofs.fronts.first_two.Goals as goal

pub returns-clause-front : goal.returns-clause-front
returns-clause-front c =
    two_bytes c.from.result c.from-2.result c.args.name.now (c.from.ensures ∙ c.byte_of.ensures) (omega (arith, c.from.ensures, c.byte_of.type_inv))
    (c.from-2.ensures ∙ c.byte_of-2.ensures) (omega (arith, c.from-2.ensures, c.byte_of-2.type_inv))
