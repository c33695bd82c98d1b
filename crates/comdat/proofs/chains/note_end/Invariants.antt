use Rattle.std.proofs.Common.{◌≡◌, ◌<◌, ◌⊎◌, ℕ, length, get_or}
use Rattle.comdat.specs.Chains.{chain_end, AreEnds}
use Rattle.comdat.proofs.chains.note_end.Given as goal

abbrev pub invariant-loop : goal.invariant-loop
invariant-loop l = record {
  within : l.at < length l.parents;
  same : 0 < l.at → chain_end l.parents l.at ≡ chain_end l.parents l.section;
  known : AreEnds l.parents l.known;
  noted : ((l.counter ≡ 0) × (l.at ≡ l.section)) ⊎ (get_or l.known l.section 0 ≡ l.end-2);
  kept : (other : ℕ) → 0 < get_or l.fn.known other 0 → get_or l.known other 0 ≡ get_or l.fn.known other 0;
}
