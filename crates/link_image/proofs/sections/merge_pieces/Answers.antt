use Rattle.std.proofs.Common.{rules, ◌≡◌, Bool, true, List, ◌++◌, ◌-◌, length, take, replicate, ap, ◌∙◌, arith}
use Rattle.link_words.specs.Outcome.{options_said}
use Rattle.link_image.proofs.UsedLemmas.{kept_length, first_fits, used_are}
use Rattle.link_image.proofs.sections.merge_pieces.Goals as goal

pub overflow_sub-first : goal.overflow_sub-first
overflow_sub-first c =
    let plan = c.args.plan.now in
    omega (arith, kept_length (options_said c.args.options.now) plan c.requires, c.len.ensures ∙ plan.kept.ok.0, c.len-2.ensures ∙ plan.modules.ok.0)

pub used_pieces-requires-clause-count : goal.used_pieces-requires-clause-count
used_pieces-requires-clause-count c =
    let options = options_said c.args.options.now in
    let plan = c.args.plan.now in
    omega (arith, kept_length options plan c.requires, first_fits options plan c.requires, c.len.ensures ∙ plan.kept.ok.0, c.len-2.ensures ∙ plan.modules.ok.0, c.len-3.ensures ∙ plan.pieces.ok.0)

pub returns-in-Ok-clause-merged : goal.returns-in-Ok-clause-merged
returns-in-Ok-clause-merged c =
    let plan = c.args.plan.now in
    let first : c.len.result - c.len-2.result ≡ length plan.kept.items - length plan.modules.items = omega (arith, c.len.ensures ∙ plan.kept.ok.0, c.len-2.ensures ∙ plan.modules.ok.0) in
    let listed = c.in_ok-used.ensures ∙ ap (λ (ks : List Bool). take (c.len.result - c.len-2.result) ks ++ replicate (c.len-3.result - (c.len.result - c.len-2.result)) true) c.deref.ensures.value in
    let used = used_are (options_said c.args.options.now) plan c.requires (c.len.result - c.len-2.result) c.len-3.result c.in_ok-used.used.items first (c.len-3.ensures ∙ plan.pieces.ok.0) listed in
    search (rules, used)
