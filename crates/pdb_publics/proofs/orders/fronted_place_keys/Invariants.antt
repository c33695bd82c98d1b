use Rattle.std.proofs.Common.{◌≡◌, take, map}
use Rattle.std.specs.List.{All}
use Rattle.pdb_publics.specs.Fronts.{IsPlaceFront}
use Rattle.pdb_publics.proofs.orders.fronted_place_keys.Given as goal

abbrev pub invariant-loop-key : goal.invariant-loop-key
invariant-loop-key l = record {
  keys : map (λ key. key.item.now) l.fronted.items ≡ take l.key-index l.keys;
  fronts : All (λ key. IsPlaceFront key.item.now key.front) l.fronted.items;
}
