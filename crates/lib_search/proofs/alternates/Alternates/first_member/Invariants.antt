use Rattle.std.proofs.Common.{◌≡◌, length}
use Rattle.symbol_names.specs.References.{all_asked}
use Rattle.lib_search.specs.AlternateParts.{KeepsAlternates}
use Rattle.lib_search.proofs.alternates.Alternates.first_member.Given as goal

abbrev pub invariant-loop-number : goal.invariant-loop-number
invariant-loop-number l = record {
  kept : KeepsAlternates l.searched (length (all_asked l.searched.link)) l.self;
  pairs : l.self.pairs.items ≡ l.fn.self.pairs.items;
}

abbrev pub decreases-loop-number : goal.decreases-loop-number
decreases-loop-number l = length l.self.waiting.keys
