use Rattle.std.proofs.Common.{◌≡◌, ◌++◌, map, filter}
use Rattle.std.specs.List.{list_any}
use Rattle.coff_records.specs.ObjectFile.{name_in}
use Rattle.coff_object.proofs.CallerLemmas.{SymbolsLeft}
use Rattle.module_view.specs.SymbolLists.{definitions_in, definitions_of, refers, reference_of, references_of, is_weak, weak_of, weaks_of, commons_in, commons_of}
use Rattle.module_view.specs.Opening.{is_long, has_long_symbol_name}
use Rattle.module_view.proofs.symbols.read_symbols.Given as goal

abbrev pub invariant-loop-index : goal.invariant-loop-index
invariant-loop-index l = record {
  can : (goal.iterator-loop-index).can_next l.index-iterator;
  ends : (goal.iterator-loop-index).is_finite l.index-iterator;
  left : SymbolsLeft l.object l.index-iterator;
  long : list_any (λ entry. is_long (name_in entry.1)) l.index-iterator ≡ has_long_symbol_name l.object;
  definitions : l.lists.definitions.items ++ definitions_in l.index-iterator ≡ definitions_of l.object;
  references : l.lists.references.items ++ map (reference_of l.object) (filter refers l.index-iterator) ≡ references_of l.object;
  weaks : l.lists.weaks.items ++ map (weak_of l.object) (filter (λ entry. is_weak entry.1) l.index-iterator) ≡ weaks_of l.object;
  commons : l.lists.commons.items ++ commons_in l.index-iterator ≡ commons_of l.object;
}
