use Rattle.std.proofs.Common.{◌≡◌, ◌-◌, ◌≤◌, false, ◌∷◌, length, map}
use Rattle.std.specs.List.{range_with_len}
use Rattle.comdat.specs.Chains.{at_chain_end}
use Rattle.comdat.proofs.chains.follow_chains.Given as goal

abbrev pub invariant-loop-section : goal.invariant-loop-section
invariant-loop-section l = record {
  within : l.section - 1 ≤ length l.parents - 1;
  flags : l.flags.items ≡ map (at_chain_end l.parents (false ∷ l.own)) (range_with_len 1 (l.section - 1));
}
