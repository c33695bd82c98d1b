use Rattle.std.proofs.Common.{◌≡◌, take, map}
use Rattle.std.specs.List.{All}
use Rattle.pdb_publics.specs.Fronts.{IsRowFront}
use Rattle.pdb_publics.proofs.orders.fronted_rows.Given as goal

abbrev pub invariant-loop-row : goal.invariant-loop-row
invariant-loop-row l = record {
  rows : map (λ key. key.item.now) l.fronted.items ≡ take l.row-index l.rows;
  fronts : All (λ key. IsRowFront key.item.now key.front) l.fronted.items;
}
