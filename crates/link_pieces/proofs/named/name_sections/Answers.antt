use Rattle.std.proofs.Common.{length, ◌∙◌, arith}
use Rattle.link_pieces.proofs.NamedLemmas.{all_marked, within_marks}
use Rattle.link_pieces.proofs.named.name_sections.Goals as goal

pub mark-requires : goal.mark-requires
mark-requires c =
    let bytes = c.args.«module».now.bytes in
    within_marks bytes c.symbol_definitions-definition-items.result.now c.loop-definition.definition-index c.definition-item.result (length c.loop-definition.named.items) c.symbol_definitions-definition-items.ensures.opened c.symbol_definitions-definition-items.ensures.definitions (omega arith) c.definition-item.is (omega (arith, c.loop-definition.invariant.count, c.requires))

pub returns-clause-named : goal.returns-clause-named
returns-clause-named c = λ section.
    c.loop-definition.invariant.marks section
    ∙ all_marked c.args.«module».now.bytes section c.loop-definition.definition-index c.symbol_definitions-definition-items.result.now c.symbol_definitions-definition-items.ensures.definitions (omega arith)
