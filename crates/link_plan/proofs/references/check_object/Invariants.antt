use Rattle.std.proofs.Common.{◌≡◌, map}
use Rattle.std.specs.Prelude.{filter_map}
use Rattle.link_base.specs.Refusals.{first_standing}
use Rattle.coff_records.specs.ObjectFile.{symbol_entries}
use Rattle.coff_object.proofs.CallerLemmas.{SymbolsLeft}
use Rattle.link_pieces.specs.LocalSlots.{name_asked, with_meant}
use Rattle.link_plan.specs.References.{symbol_fault, symbols_fault}
use Rattle.link_plan.proofs.references.check_object.Given as goal

abbrev pub invariant-loop-index : goal.invariant-loop-index
invariant-loop-index l = record {
  can : (goal.iterator-loop-index).can_next l.index-iterator;
  ends : (goal.iterator-loop-index).is_finite l.index-iterator;
  left : SymbolsLeft l.object l.index-iterator;
  fault : first_standing (map (symbol_fault l.names l.position) l.index-iterator) ≡ symbols_fault l.names l.position l.object;
  noted : with_meant l.names l.slots.keys (filter_map (name_asked l.names l.position) l.index-iterator) ≡ with_meant l.names l.fn.slots.keys (filter_map (name_asked l.names l.position) (symbol_entries l.object));
}
