use Rattle.std.proofs.Common.{◌∙◌, length, sym, rules, tests}
use Rattle.std.proofs.lemmas.Iterator.Consumers.{YieldsList-turn, YieldsList-end, YieldsList-so_far}
use Rattle.std.proofs.lemmas.Iterator.Splits.{YieldsList-from_slice_split}
use Rattle.directives.specs.Text.{is_comma}
use Rattle.link_words.proofs.OptLemmas.{opts_all, opts_refused}
use Rattle.link_words.proofs.values.opts.Goals as goal

pub returns-in_err-part_refs : goal.returns-in_err-part_refs
returns-in_err-part_refs c =
    let road = YieldsList-from_slice_split _ is_comma c.args.text.now (cc) (cc) (cc) (λ x b q k. search (rules, tests)) in
    let t = YieldsList-turn road c.loop-part.yielded _ c.loop-part.yielded_by _ _ c.in-Some.part c.in-Some.is c.next.ensures.steps in
    let so_far = YieldsList-so_far road c.loop-part.yielded _ c.loop-part.yielded_by in
    c.from_residual.ensures ∙ opts_refused c.args.text.now (length c.loop-part.yielded) _ _ (c.loop-part.refs, c.loop-part.icf) c.loop-part.invariant so_far t (sym c.in_err-part_refs.ensures)

pub returns : goal.returns
returns c =
    let t = YieldsList-end (YieldsList-from_slice_split _ is_comma c.args.text.now (cc) (cc) (cc) (λ x b q k. search (rules, tests))) c.loop-part.yielded _ c.loop-part.yielded_by _ _ c.in-None.is c.next.ensures.steps in
    opts_all c.args.text.now _ _ c.loop-part.invariant t.0
