use Rattle.std.proofs.Common.{◌≡◌, ◌++◌, length, map, take}
use Rattle.std.specs.Prelude.{filter_map}
use Rattle.directives.specs.Said.{said}
use Rattle.symbol_names.specs.Alternates.{alternate_said}
use Rattle.symbol_names.specs.References.{all_asked}
use Rattle.lib_search.specs.AlternateParts.{KeepsAlternates}
use Rattle.lib_search.proofs.alternates.Alternates.add_module.Given as goal

abbrev pub invariant-loop-directive : goal.invariant-loop-directive
invariant-loop-directive l = record {
  kept : KeepsAlternates l.searched (length (all_asked l.searched.link)) l.self;
  pairs : l.self.pairs.items ≡ l.fn.self.pairs.items ++ filter_map alternate_said (map said (take l.directive-index l.directive-items));
}
