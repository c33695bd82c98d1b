use Rattle.std.proofs.Common.{◌≡◌, ◌-◌, length, drop}
use Rattle.directives.specs.Words.{text_says}
use Rattle.directives.proofs.reader.DirectivesIterator.next.Given as goal

abbrev pub invariant-loop-self : goal.invariant-loop-self
invariant-loop-self l = record {
  left : text_says l.initial.self.at (drop l.initial.self.at l.initial.self.text.now) ≡ text_says l.self.at (drop l.self.at l.self.text.now);
}

abbrev pub decreases-loop-self : goal.decreases-loop-self
decreases-loop-self l = length l.self.text.now - l.self.at
