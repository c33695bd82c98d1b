use Rattle.std.proofs.Common.{arith}
use Rattle.pdb_msf.proofs.WritingLemmas.{writes_file}
use Rattle.pdb_msf.proofs.writing.write_msf.Goals as goal

pub returns-in-Ok : goal.returns-in-Ok
returns-in-Ok c =
    writes_file c.args.joined.now c.args.lengths.now c.in-Ok.file c.requires.whole (omega (arith, c.of-extent.ensures.total, c.if-size-gt-MSF_LIMIT.false)) c.in-Ok.ensures
