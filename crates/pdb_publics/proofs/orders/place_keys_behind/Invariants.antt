use Rattle.std.proofs.Common.{◌≡◌, take, map}
use Rattle.pdb_publics.proofs.orders.place_keys_behind.Given as goal

abbrev pub invariant-loop-key : goal.invariant-loop-key
invariant-loop-key l = l.keys.items ≡ map (λ key. key.item.now) (take l.key-index l.fronted)
