use Rattle.std.proofs.Common.{◌≢◌, ◌<◌, length, below_more, get_or-set_other, get_or-set_same, ◌∙◌, arith}
use Rattle.std.proofs.Math.ListN.{length-set}
use Rattle.pe_loader.proofs.directories.directories.Goals as goal

pub loop-k-preserved : goal.loop-k-preserved
loop-k-preserved c =
    let lt : c.loop-k.k < length c.loop-k.found = omega arith in
    let len = length-set c.loop-k.found c.loop-k.k c.directory.result in (
      omega (arith, len),
      below_more _ _
          (λ j below.
          let ne : j ≢ c.loop-k.k = omega arith in rw get_or-set_other (c.loop-k.invariant.1 j below))
          (get_or-set_same c.loop-k.found c.loop-k.k c.directory.result (0, 0) lt ∙ c.directory.ensures),
    )
