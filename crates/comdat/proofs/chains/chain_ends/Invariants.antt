use Rattle.std.proofs.Common.{◌≤◌, ◌<◌, ℕ, length, get_or}
use Rattle.comdat.specs.Chains.{AreEnds}
use Rattle.comdat.proofs.chains.chain_ends.Given as goal

abbrev pub invariant-loop-section : goal.invariant-loop-section
invariant-loop-section l = record {
  within : l.section ≤ length l.parents;
  known : AreEnds l.parents l.ends.items;
  noted : (k : ℕ) → 0 < k → k < l.section → 0 < get_or l.ends.items k 0;
}
