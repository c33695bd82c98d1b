use Rattle.std.proofs.Common.{◌<◌, length}
use Rattle.std.specs.List.{All}
use Rattle.comdat.specs.Entries.{named_by}
use Rattle.comdat.proofs.GroupLemmas.{AreWinnersOf}
use Rattle.comdat.proofs.groups.winners.Given as goal

abbrev pub invariant-loop-places : goal.invariant-loop-places
invariant-loop-places l = record {
  within : All (λ k. k < length l.entries) l.winners.items;
  winners : AreWinnersOf (named_by l.modules l.entries) l.numbering.firsts.items l.places-index l.winners.items;
}
