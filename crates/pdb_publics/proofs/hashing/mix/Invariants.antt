use Rattle.std.proofs.Common.{◌≡◌, bit_xor, length}
use Rattle.pdb_publics.specs.NameHash.{mix}
use Rattle.pdb_publics.proofs.hashing.mix.Given as goal

abbrev pub invariant-loop-rest : goal.invariant-loop-rest
invariant-loop-rest l = bit_xor l.mixed (mix l.rest) ≡ mix l.text

abbrev pub decreases-loop-rest : goal.decreases-loop-rest
decreases-loop-rest l = length l.rest
