use Rattle.std.proofs.Common.{◌≤◌, get_or, ap, arith}
use Rattle.module_view.specs.declared.definition.Definition.{Definition}
use Rattle.module_view.proofs.DefinitionLemmas.{place_below}
use Rattle.module_view.proofs.comdat_choice.leader_place.Goals as goal

pub overflow_cast-result : goal.overflow_cast-result
overflow_cast-result c =
    let below : c.args.next ≤ (get_or c.args.definitions.now c.args.next c.index-definitions-next.result).symbol = place_below c.args.definitions.now c.requires c.args.next c.index-definitions-next.result (omega arith) in
    omega (arith, c.ranges.second.fits, below, ap (λ (d : Definition). d.symbol) c.index-definitions-next.is)
