use Rattle.link_imports.proofs.RowLemmas.{AreOffsets}
use Rattle.link_imports.proofs.imports.slot_offsets.Given as goal

abbrev pub invariant-loop-position : goal.invariant-loop-position
invariant-loop-position l = AreOffsets l.modules l.kept l.position l.before l.offsets.items
