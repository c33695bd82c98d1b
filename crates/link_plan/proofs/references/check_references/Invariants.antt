use Rattle.std.proofs.Common.{◌≡◌, ℕ, None}
use Rattle.std.specs.List.{flat_map, range_with_len}
use Rattle.link_base.specs.Refusals.{first_refusal_below}
use Rattle.module_view.specs.Module.{module_at}
use Rattle.link_pieces.specs.LocalSlots.{names_asked, with_meant}
use Rattle.link_plan.specs.References.{references_fault_at}
use Rattle.link_plan.proofs.references.check_references.Given as goal

abbrev pub invariant-loop-position : goal.invariant-loop-position
invariant-loop-position l = record {
  none : first_refusal_below l.position (references_fault_at l.names) ≡ None;
  noted : l.slots.keys ≡ with_meant l.names l.fn.slots.keys (flat_map (λ (k : ℕ). names_asked l.names k (module_at l.names.modules k).bytes) (range_with_len 0 l.position));
}
