use Rattle.std.proofs.Common.{ap, ◌∙◌}
use Rattle.coff_object.specs.ObjectFaults.{object_fault}
use Rattle.module_view.proofs.ImportLemmas.{nothing_is_sound}
use Rattle.module_view.proofs.import.nothing.Goals as goal

-- it is well formed
pub of-requires : goal.of-requires
of-requires c = ap object_fault c.no_object.ensures ∙ nothing_is_sound
