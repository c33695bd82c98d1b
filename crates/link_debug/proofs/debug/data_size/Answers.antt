use Rattle.std.proofs.Common.{length, refl, ap, arith}
use Rattle.link_debug.specs.LinkDebug.{no_identifier}
use Rattle.link_debug.proofs.DataLemmas.{length-data}
use Rattle.link_debug.proofs.debug.data_size.Goals as goal

pub overflow_cast-result : goal.overflow_cast-result
overflow_cast-result c =
    omega (arith, c.data_length.ensures no_identifier refl, length-data no_identifier c.of.result refl, ap length c.of.ensures, c.requires)
