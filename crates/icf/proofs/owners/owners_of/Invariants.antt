use Rattle.std.proofs.Common.{◌≤◌, ◌^◌}
use Rattle.icf.specs.Owners.{AreOwnersBelow}
use Rattle.icf.proofs.owners.owners_of.Given as goal

abbrev pub invariant-loop-number : goal.invariant-loop-number
invariant-loop-number l = record {
  owners : AreOwnersBelow l.candidates l.pieces l.number l.owners.items;
  few : l.number ≤ 2 ^ 32;
}
