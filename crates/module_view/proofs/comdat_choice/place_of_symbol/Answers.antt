use Rattle.std.proofs.Common.{◌≤◌, Ok, Err, get_or, rules, arith}
use Rattle.std.proofs.lemmas.List.Sorted.{answers_always}
use Rattle.module_view.specs.Choices.{no_definition, Defines}
use Rattle.module_view.proofs.DefinitionLemmas.{searched, place_below}
use Rattle.module_view.proofs.comdat_choice.place_of_symbol.Goals as goal

-- the closure gives a definition's symbol
found : (c : goal.In-Ok) → Defines c.args.definitions.now c.args.symbol c.in-Ok.place
found c =
    searched c.args.definitions.now c.requires c.args.symbol (Ok c.in-Ok.place) c.in-Ok.ensures.bound
    (c.in-Ok.ensures.position (λ d. d.symbol) (answers_always _ _ _ (λ f a r g called. search rules)))

pub overflow_cast-result : goal.overflow_cast-result
overflow_cast-result c =
    let below : c.in-Ok.place ≤ (get_or c.args.definitions.now c.in-Ok.place no_definition).symbol = place_below c.args.definitions.now c.requires c.in-Ok.place no_definition (found c).within in
    omega (arith, c.ranges.symbol.fits, below, (found c).symbol_is)

pub returns-in-Ok : goal.returns-in-Ok
returns-in-Ok c = found c

pub returns-in-Err : goal.returns-in-Err
returns-in-Err c =
    searched c.args.definitions.now c.requires c.args.symbol (Err c.in-Err.field-0) c.in-Err.ensures.bound
    (c.in-Err.ensures.position (λ d. d.symbol) (answers_always _ _ _ (λ f a r g called. search rules)))
