use Rattle.std.proofs.Common.{◌≡◌, take}
use Rattle.icf.specs.Rounds.{renamed}
use Rattle.icf.proofs.rounds.renamed.Given as goal

abbrev pub invariant-loop-field : goal.invariant-loop-field
invariant-loop-field l = l.named.items ≡ renamed l.classes (take l.field-index l.fields)
