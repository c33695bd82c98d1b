use Rattle.std.proofs.Common.{◌∙◌, length, sym, ap, rules, tests, option_map, option_and_then}
use Rattle.std.proofs.lemmas.Iterator.Consumers.{YieldsList-turn, YieldsList-end, YieldsList-so_far}
use Rattle.std.proofs.lemmas.Iterator.Splits.{YieldsList-from_slice_split}
use Rattle.directives.specs.Text.{is_comma}
use Rattle.directives.specs.Taken.{with_attribute, attributes_said}
use Rattle.directives.proofs.AttributeLemmas.{attributes_all, attributes_refused}
use Rattle.directives.proofs.attributes.attributes_of.Goals as goal

pub returns-in_err-attribute_of : goal.returns-in_err-attribute_of
returns-in_err-attribute_of c =
    let road = YieldsList-from_slice_split _ is_comma c.args.text.now (cc) (cc) (cc) (λ x b q k. search (rules, tests)) in
    let t = YieldsList-turn road c.loop-part.yielded _ c.loop-part.yielded_by _ _ c.in-Some.part c.in-Some.is c.next.ensures.steps in
    let so_far = YieldsList-so_far road c.loop-part.yielded _ c.loop-part.yielded_by in
    ap (option_map attributes_said) c.from_residual.ensures ∙ attributes_refused c.args.text.now (length c.loop-part.yielded) _ _ c.loop-part.taken c.loop-part.invariant so_far t (ap (option_and_then (with_attribute c.loop-part.taken)) (sym c.in_err-attribute_of.ensures))

pub returns-in_err-taken : goal.returns-in_err-taken
returns-in_err-taken c =
    let road = YieldsList-from_slice_split _ is_comma c.args.text.now (cc) (cc) (cc) (λ x b q k. search (rules, tests)) in
    let t = YieldsList-turn road c.loop-part.yielded _ c.loop-part.yielded_by _ _ c.in-Some.part c.in-Some.is c.next.ensures.steps in
    let so_far = YieldsList-so_far road c.loop-part.yielded _ c.loop-part.yielded_by in
    ap (option_map attributes_said) c.from_residual-in_err-taken.ensures ∙ attributes_refused c.args.text.now (length c.loop-part.yielded) _ _ c.loop-part.taken c.loop-part.invariant so_far t (ap (option_and_then (with_attribute c.loop-part.taken)) (sym c.in_ok-attribute_of.ensures) ∙ sym c.in_err-taken.ensures)

pub returns : goal.returns
returns c =
    let t = YieldsList-end (YieldsList-from_slice_split _ is_comma c.args.text.now (cc) (cc) (cc) (λ x b q k. search (rules, tests))) c.loop-part.yielded _ c.loop-part.yielded_by _ _ c.in-None.is c.next.ensures.steps in
    attributes_all c.args.text.now _ _ c.loop-part.invariant t.0
