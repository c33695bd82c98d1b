use Rattle.std.proofs.Common.{◌≡◌, ◌<◌, None, length}
use Rattle.link_base.specs.Bytes.{first_below}
use Rattle.coff_aux.specs.Parents.{ancestor, is_met}
use Rattle.coff_aux.proofs.parents.walk.Given as goal

abbrev pub invariant-loop-steps : goal.invariant-loop-steps
invariant-loop-steps l = record {
  at : l.at ≡ ancestor l.parents l.steps l.section;
  within : l.at < length l.parents;
  goes_on : first_below l.steps (is_met l.parents l.ended l.section) ≡ None;
}
