use Rattle.std.proofs.Common.{◌≡◌, None, map, take}
use Rattle.std.specs.Prelude.{filter_map}
use Rattle.link_base.specs.Refusals.{first_standing}
use Rattle.directives.specs.Said.{said}
use Rattle.symbol_names.specs.References.{name_said}
use Rattle.link_pieces.specs.LocalSlots.{with_meant}
use Rattle.link_plan.proofs.ReferenceLemmas.{directive_fault}
use Rattle.link_plan.proofs.references.check_directives.Given as goal

abbrev pub invariant-loop-directive : goal.invariant-loop-directive
invariant-loop-directive l = record {
  none : first_standing (map (directive_fault l.names l.position) (take l.directive-index l.directives)) ≡ None;
  noted : l.slots.keys ≡ with_meant l.names l.fn.slots.keys (filter_map name_said (map said (take l.directive-index l.directives)));
}
