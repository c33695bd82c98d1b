use Rattle.std.proofs.Common.{◌≡◌, None, map, take}
use Rattle.link_base.specs.Refusals.{first_standing}
use Rattle.link_pieces.specs.LocalSlots.{with_meant}
use Rattle.link_plan.specs.References.{asked_fault}
use Rattle.link_plan.proofs.references.check_names.Given as goal

abbrev pub invariant-loop-name : goal.invariant-loop-name
invariant-loop-name l = record {
  none : first_standing (map (asked_fault l.names None) (take l.name-index l.asked)) ≡ None;
  noted : l.slots.keys ≡ with_meant l.names l.fn.slots.keys (take l.name-index l.asked);
}
