use Rattle.std.proofs.Common.{◌≡◌, length, take}
use Rattle.link_words.specs.Outcome.{options_said}
use Rattle.symbol_names.specs.Alternates.{all_alternates}
use Rattle.symbol_names.specs.References.{all_asked}
use Rattle.lib_search.specs.LinkOf.{link_of}
use Rattle.lib_search.specs.AlternateParts.{KeepsAlternates}
use Rattle.lib_search.proofs.search.alternates_of.Given as goal

abbrev pub invariant-loop-module : goal.invariant-loop-module
invariant-loop-module l = record {
  kept : KeepsAlternates l.searched (length (all_asked l.searched.link)) l.alternates;
  pairs : l.alternates.pairs.items ≡ all_alternates (link_of (options_said l.options) (take l.module-index l.modules));
}
