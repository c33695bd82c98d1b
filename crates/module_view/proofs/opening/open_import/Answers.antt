use Rattle.module_view.proofs.ImportLemmas.{nothing_kept}
use Rattle.module_view.proofs.opening.open_import.Goals as goal

pub invariant_of-result : goal.invariant_of-result
invariant_of-result c =
    nothing_kept c.no_object.result.now c.nothing.result c.no_object.ensures c.nothing.ensures
