use Rattle.std.proofs.Common.{◌≡◌, ◌<◌, length}
use Rattle.coff_aux.specs.Parents.{ancestor}
use Rattle.comdat.specs.Chains.{chain_end}
use Rattle.comdat.proofs.chains.end_of.Given as goal

abbrev pub invariant-loop : goal.invariant-loop
invariant-loop l = record {
  steps : l.at ≡ ancestor l.parents l.counter l.section;
  some : 0 < l.at;
  within : l.at < length l.parents;
  same : chain_end l.parents l.at ≡ chain_end l.parents l.section;
}
