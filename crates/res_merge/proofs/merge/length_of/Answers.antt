use Rattle.std.proofs.Common.{arith}
use Rattle.res_merge.proofs.PlaceLemmas.{whole_is, whole_small}
use Rattle.res_merge.specs.Levels.{run_of}
use Rattle.std.proofs.Common.{map}
use Rattle.res_merge.proofs.merge.length_of.Goals as goal

pub places_of-places-requires : goal.places_of-places-requires
places_of-places-requires c = omega (arith, whole_small c.args.resources.now (map run_of c.args.names.now) (map run_of c.args.types.now) c.requires)

pub data_len-requires : goal.data_len-requires
data_len-requires c = omega (arith, whole_small c.args.resources.now (map run_of c.args.names.now) (map run_of c.args.types.now) c.requires)

pub overflow_add-result : goal.overflow_add-result
overflow_add-result c = omega (arith, whole_small c.args.resources.now (map run_of c.args.names.now) (map run_of c.args.types.now) c.requires, c.places_of-places.ensures.body, c.data_len.ensures)

pub returns-clause-size : goal.returns-clause-size
returns-clause-size c = omega (arith, whole_is c.args.resources.now (map run_of c.args.names.now) (map run_of c.args.types.now) c.requires, c.places_of-places.ensures.body, c.data_len.ensures)

pub returns-clause-small : goal.returns-clause-small
returns-clause-small c = omega (arith, whole_small c.args.resources.now (map run_of c.args.names.now) (map run_of c.args.types.now) c.requires, c.places_of-places.ensures.body, c.data_len.ensures)
