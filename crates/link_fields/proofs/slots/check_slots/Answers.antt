use Rattle.std.proofs.Common.{◌≡◌, ℕ, ◌+◌, ◌-◌, length, refl, sym, ap, ◌∙◌, arith}
use Rattle.std.proofs.lemmas.Result.{err_from_is_err_and}
use Rattle.link_base.specs.Refusals.{first_refusal_below}
use Rattle.link_base.proofs.RefusalLemmas.{first_refusal_below-more, first_refusal_below-found}
use Rattle.link_pieces.specs.LocalSlots.{slot_names}
use Rattle.synthetic_sections.specs.LinkerPieces.{FIRST_LOCAL_SLOT}
use Rattle.link_fields.specs.Fixes.{slot_fault}
use Rattle.link_fields.proofs.slots.check_slots.Goals as goal

from_number : (slot : ℕ) → FIRST_LOCAL_SLOT + slot - FIRST_LOCAL_SLOT ≡ slot
from_number slot = omega arith

pub loop-slot-init : goal.loop-slot-init
unfolding first_refusal_below
loop-slot-init c = refl

pub loop-slot-preserved : goal.loop-slot-preserved
loop-slot-preserved c =
    let link = c.args.names.now in
    let slot = c.loop-slot.slot in
    first_refusal_below-more slot (slot_fault link) c.loop-slot.invariant
    (ap (slot_fault link) (sym (from_number slot)) ∙ c.in_ok-check_slot.ensures.accepted)

pub returns-in_err-check_slot-clause-refused : goal.returns-in_err-check_slot-clause-refused
returns-in_err-check_slot-clause-refused c =
    let link = c.args.names.now in
    let slot = c.loop-slot.slot in
    let given = err_from_is_err_and c.from_residual.result c.from_residual.ensures.1 in
    rw (given.1, given.2)
    (first_refusal_below-found slot (length (slot_names link)) (slot_fault link) _ (omega (arith, c.requires.count)) c.loop-slot.invariant
    (ap (slot_fault link) (sym (from_number slot)) ∙ c.in_err-check_slot.ensures.refused))
