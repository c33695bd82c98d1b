use Rattle.relocate.proofs.WriteLemmas.{written}
use Rattle.relocate.proofs.writing.write_four.Goals as goal

pub returns-clause-bytes : goal.returns-clause-bytes
returns-clause-bytes c =
    rw c.in-Some.is
    (written c.args.bytes.now _ _ _ c.args.fix.now 4 c.in-Some.number c.requires.width c.split_at_mut-rest.ensures.front c.split_at_mut-rest.ensures.back c.write_u32.ensures)
