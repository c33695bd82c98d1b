use Rattle.std.proofs.Common.{◌≡◌, ◌≤◌, ◌-◌, length}
use Rattle.symbol_names.specs.References.{all_asked}
use Rattle.lib_search.specs.AlternateParts.{KeepsAlternates}
use Rattle.lib_search.proofs.alternates.Alternates.wake_from.Given as goal

abbrev pub invariant-loop-seen : goal.invariant-loop-seen
invariant-loop-seen l = record {
  within : l.seen ≤ length (all_asked l.searched.link);
  kept : KeepsAlternates l.searched l.seen l.self;
  pairs : l.self.pairs.items ≡ l.fn.self.pairs.items;
}

abbrev pub decreases-loop-seen : goal.decreases-loop-seen
decreases-loop-seen l = length (all_asked l.searched.link) - l.seen
