use Rattle.relocate.proofs.JudgeLemmas.{AscendTo}
use Rattle.relocate.proofs.ascending.judge_ascending.Given as goal

abbrev pub invariant-loop-packed : goal.invariant-loop-packed
invariant-loop-packed l = AscendTo l.body_len l.large l.pdata l.fixes l.packed-index l.all_have_fields l.end
