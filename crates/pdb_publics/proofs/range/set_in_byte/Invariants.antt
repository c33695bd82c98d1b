use Rattle.std.proofs.Common.{◌≡◌, ◌≤◌}
use Rattle.pdb_publics.specs.Lookup.{is_set, passing}
use Rattle.pdb_publics.proofs.range.set_in_byte.Given as goal

abbrev pub invariant-loop-bit : goal.invariant-loop-bit
invariant-loop-bit l = record {
  counted : l.count ≡ passing l.bit (is_set l.byte);
  most : l.count ≤ l.bit;
}
