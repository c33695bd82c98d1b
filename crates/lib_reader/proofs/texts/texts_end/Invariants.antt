use Rattle.std.proofs.Common.{◌≡◌}
use Rattle.lib_reader.specs.Texts.{texts_end}
use Rattle.lib_reader.proofs.texts.texts_end.Given as goal

abbrev pub invariant-loop-left : goal.invariant-loop-left
invariant-loop-left l = texts_end l.count l.text ≡ texts_end l.left l.rest

abbrev pub decreases-loop-left : goal.decreases-loop-left
decreases-loop-left l = l.left
