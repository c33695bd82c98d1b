use Rattle.std.proofs.Common.{refl, ◌∙◌, false, get_or, arith}
use Rattle.std.proofs.lemmas.List.{length-set}
use Rattle.coff_aux.proofs.ParentLemmas.{ancestor-none, ancestor-more, or_nothing, marks_one_more}
use Rattle.coff_aux.proofs.parents.mark.Goals as goal

pub loop-step-init : goal.loop-step-init
loop-step-init c = record {
  at = ancestor-none c.args.parents.now c.args.section;
  within = c.requires.within;
  count = c.requires.count;
  marks = λ other. or_nothing (get_or c.args.ended.now other false) false refl;
}

pub loop-step-preserved : goal.loop-step-preserved
loop-step-preserved c =
    let parents = c.args.parents.now in
    let marks = c.loop-step.ended in
    let at = c.loop-step.at in
    let before = c.loop-step.invariant in
    record {
      at = ancestor-more parents c.args.section c.loop-step._step at before.at;
      within = c.requires.parents.within at before.within;
      count = length-set marks at _ ∙ before.count;
      marks = marks_one_more parents c.args.ended.now marks c.args.section c.loop-step._step at before.at (omega arith) before.marks;
    }
