use Rattle.std.proofs.Common.{◌≡◌, None}
use Rattle.link_base.specs.Refusals.{first_refusal_below}
use Rattle.relocate.specs.FieldFaults.{fault_at}
use Rattle.relocate.proofs.TakenLemmas.{Holds}
use Rattle.relocate.proofs.any_order.judge_by_places.Given as goal

abbrev pub invariant-loop-packed : goal.invariant-loop-packed
invariant-loop-packed l = (first_refusal_below l.packed-index (fault_at l.body_len l.large l.pdata l.fixes) ≡ None) × (Holds l.fixes l.packed-index l.taken)
