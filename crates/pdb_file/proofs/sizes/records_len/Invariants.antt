use Rattle.std.proofs.Common.{◌≡◌, ◌*◌, ◌≤◌, take}
use Rattle.pdb_publics.specs.PublicOrder.{extent}
use Rattle.pdb_file.proofs.sizes.records_len.Given as goal

abbrev pub invariant-loop-row : goal.invariant-loop-row
invariant-loop-row l = record {
  sum : l.len ≡ extent (take l.row-index l.rows);
  most : l.len ≤ 32024 * l.row-index;
}
