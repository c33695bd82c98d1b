use Rattle.std.proofs.Common.{◌<◌, ◌∙◌, arith}
use Rattle.pdb_publics.proofs.FrontLemmas.{no_front, front_made, front_fits, front_small}
use Rattle.pdb_publics.proofs.fronts.first_eight.Goals as goal

pub loop-index-init : goal.loop-index-init
loop-index-init c = record { front = no_front c.args.name.now; small = omega arith }

pub overflow_mul-front : goal.overflow_mul-front
overflow_mul-front c = let fits = front_fits c.loop-index.index c.loop-index.front 0 c.loop-index.invariant.small c.loop-index-test.true (omega arith) in omega (arith, fits)

pub overflow_add-front : goal.overflow_add-front
overflow_add-front c =
    let fits = front_fits c.loop-index.index c.loop-index.front c.from.result c.loop-index.invariant.small c.loop-index-test.true (omega (arith, c.from.ensures, c.byte_of.type_inv)) in
    omega (arith, fits)

pub loop-index-preserved : goal.loop-index-preserved
loop-index-preserved c =
    let small : c.from.result < 256 = omega (arith, c.from.ensures, c.byte_of.type_inv) in
    record {
      front = front_made c.loop-index.index c.loop-index.front c.from.result c.args.name.now c.loop-index.invariant.front (c.from.ensures ∙ c.byte_of.ensures) small;
      small = front_small c.loop-index.index c.loop-index.front c.from.result c.loop-index.invariant.small small;
    }
