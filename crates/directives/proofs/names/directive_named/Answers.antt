use Rattle.std.proofs.Common.{◌∙◌, length, refl, arith}
use Rattle.directives.proofs.NameLemmas.{only_of_length, none_of_length, no_length}
use Rattle.directives.proofs.names.directive_named.Goals as goal

pub returns-in-5 : goal.returns-in-5
returns-in-5 c = c.then_some.ensures ∙ only_of_length _ _ _ _ 5 c.in-5.is refl c.spells.ensures

pub returns-in-6 : goal.returns-in-6
returns-in-6 c = c.then_some-in-6.ensures ∙ only_of_length _ _ _ _ 6 c.in-6.is refl c.spells-in-6.ensures

pub returns-in-7 : goal.returns-in-7
returns-in-7 c = c.then_some-in-7.ensures ∙ only_of_length _ _ _ _ 7 c.in-7.is refl c.spells-in-7.ensures

pub returns-in-9 : goal.returns-in-9
returns-in-9 c = c.then_some-in-9.ensures ∙ only_of_length _ _ _ _ 9 c.in-9.is refl c.spells-in-9.ensures

pub returns-in-10 : goal.returns-in-10
returns-in-10 c = c.then_some-in-10.ensures ∙ only_of_length _ _ _ _ 10 c.in-10.is refl c.spells-in-10.ensures

pub returns-in-13 : goal.returns-in-13
returns-in-13 c = c.then_some-in-13.ensures ∙ only_of_length _ _ _ _ 13 c.in-13.is refl c.spells-in-13.ensures

pub returns-in-14 : goal.returns-in-14
returns-in-14 c = c.then_some-in-14.ensures ∙ only_of_length _ _ _ _ 14 c.in-14.is refl c.spells-in-14.ensures

pub returns-in_default : goal.returns-in_default
returns-in_default c =
    let n = length c.args.name.now in
    none_of_length c.args.name.now (no_length n (omega arith) (omega arith) (omega arith) (omega arith) (omega arith) (omega arith) (omega arith))
