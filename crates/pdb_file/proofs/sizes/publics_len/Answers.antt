use Rattle.std.proofs.Common.{arith}
use Rattle.pdb_file.proofs.UsedLemmas.{length_publics}
use Rattle.pdb_file.proofs.sizes.publics_len.Goals as goal

pub returns-clause-len : goal.returns-clause-len
returns-clause-len c =
    let all = length_publics c.args.rows.now in
    omega (arith, all, c.in_ok-used.ensures.used)
