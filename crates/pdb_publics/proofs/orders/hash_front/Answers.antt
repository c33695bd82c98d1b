use Rattle.std.proofs.Common.{arith}
use Rattle.pdb_publics.proofs.orders.hash_front.Goals as goal

pub returns : goal.returns
returns c = record {
  first = c.first_two.result;
  text = c.first_two.ensures.front;
  is = omega (arith, c.from.ensures, c.name_front.ensures.number);
}
