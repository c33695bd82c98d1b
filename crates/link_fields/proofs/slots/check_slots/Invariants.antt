use Rattle.std.proofs.Common.{◌≡◌, None}
use Rattle.link_base.specs.Refusals.{first_refusal_below}
use Rattle.link_fields.specs.Fixes.{slot_fault}
use Rattle.link_fields.proofs.slots.check_slots.Given as goal

abbrev pub invariant-loop-slot : goal.invariant-loop-slot
invariant-loop-slot l = first_refusal_below l.slot (slot_fault l.names) ≡ None
