use Rattle.std.proofs.Common.{◌≡◌, length, take}
use Rattle.symbol_names.specs.References.{all_asked}
use Rattle.lib_search.specs.AlternateParts.{KeepsAlternates}
use Rattle.lib_search.proofs.alternates.Alternates.new.Given as goal

abbrev pub invariant-loop-left : goal.invariant-loop-left
invariant-loop-left l = record {
  kept : KeepsAlternates l.searched (length (all_asked l.searched.link)) l.alternates;
  pairs : l.alternates.pairs.items ≡ take l.left-index l.pairs;
}
