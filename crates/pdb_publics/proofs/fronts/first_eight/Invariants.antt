use Rattle.std.proofs.Common.{◌<◌, ◌^◌}
use Rattle.pdb_publics.specs.Fronts.{IsTextFront}
use Rattle.pdb_publics.proofs.fronts.first_eight.Given as goal

abbrev pub invariant-loop-index : goal.invariant-loop-index
invariant-loop-index l = record {
  front : IsTextFront l.index l.name l.front;
  small : l.front < 256 ^ l.index;
}
