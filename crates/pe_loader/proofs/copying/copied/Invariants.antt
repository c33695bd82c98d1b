use Rattle.pe_loader.specs.Copying.{IsCopiedBefore}
use Rattle.pe_loader.proofs.copying.copied.Given as goal

abbrev pub invariant-loop-index : goal.invariant-loop-index
invariant-loop-index l = IsCopiedBefore l.image l.index l.memory.items
