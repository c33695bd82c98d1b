use Rattle.std.proofs.Common.{◌≡◌, ◌++◌, take}
use Rattle.pdb_publics.specs.PublicStreams.{address_map}
use Rattle.pdb_publics.proofs.writing.push_address_map.Given as goal

abbrev pub invariant-loop-key : goal.invariant-loop-key
invariant-loop-key l = l.out.items ≡ l.initial.out.items ++ address_map (take l.key-index l.placed)
