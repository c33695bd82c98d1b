use Rattle.std.proofs.Common.{◌≡◌, ◌<◌, ℕ, false, length, get_or}
use Rattle.coff_aux.specs.Parents.{ancestor, is_marked}
use Rattle.coff_aux.proofs.parents.mark.Given as goal

abbrev pub invariant-loop-step : goal.invariant-loop-step
invariant-loop-step l = record {
  at : l.at ≡ ancestor l.parents l._step l.section;
  within : l.at < length l.parents;
  count : length l.ended ≡ length l.parents;
  marks : (other : ℕ) → get_or l.ended other false ≡ is_marked l.parents l.fn.ended l.section l._step other;
}
