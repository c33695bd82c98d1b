use Rattle.std.proofs.Common.{ℕ, ◌<◌, length, get_or}
use Rattle.std.specs.List.{Contains}
use Rattle.reach.specs.Marking.{IsMarked, Marks}
use Rattle.reach.proofs.marking.Marking.mark_all.Given as goal

abbrev pub invariant-loop-piece : goal.invariant-loop-piece
invariant-loop-piece l = record {
  marks : Marks (Contains l.pieces) l.initial.self l.self;
  marked : (k : ℕ) → k < l.piece-index → get_or l.pieces k 0 < length l.initial.self.kept.items → IsMarked l.self.kept.items (get_or l.pieces k 0);
}
