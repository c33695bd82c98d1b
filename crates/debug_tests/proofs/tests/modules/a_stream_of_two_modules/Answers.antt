use Rattle.std.proofs.Common.{length, ap, arith}
use Rattle.pdb_dbi.proofs.SizeLemmas.{length_dbi}
use Rattle.debug_tests.proofs.tests.modules.a_stream_of_two_modules.Goals as goal

pub write_dbi-requires-clause-size : goal.write_dbi-requires-clause-size
write_dbi-requires-clause-size g c =
    let first = ap length c.of.ensures in
    let second = ap length c.of-2.ensures in
    let third = ap length c.of-3.ensures in
    let fourth = ap length c.of-4.ensures in
    rw length_dbi (omega (arith, first, second, third, fourth))
