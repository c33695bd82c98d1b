use Rattle.relocate.proofs.PatchLemmas.{PatchedTo}
use Rattle.relocate.proofs.patching.patch.Given as goal

abbrev pub invariant-loop-packed : goal.invariant-loop-packed
invariant-loop-packed l = PatchedTo l.base l.rva l.layout l.owner l.fixups l.packed-index l.initial.part l.part l.least
