use Rattle.std.proofs.Common.{◌≡◌, None, length}
use Rattle.link_base.specs.Bytes.{first_below}
use Rattle.coff_aux.specs.Parents.{comes_back}
use Rattle.coff_aux.proofs.ParentLemmas.{AreMarksOfEnds}
use Rattle.coff_aux.proofs.parents.first_circle.Given as goal

abbrev pub invariant-loop-section : goal.invariant-loop-section
invariant-loop-section l = record {
  count : length l.ended.items ≡ length l.parents;
  known : AreMarksOfEnds l.parents l.ended.items;
  none : first_below l.section (comes_back l.parents) ≡ None;
}
