use Rattle.std.proofs.Common.{◌≡◌, ℕ, cond, List, Option, Some, sym, ap, ◌∙◌, max, arith}
use Rattle.indexmap.specs.IndexMap.{get}
use Rattle.link_base.specs.NameText.{same_name}
use Rattle.link_directives.proofs.AlignmentLemmas.{power_with, raised_next, noted_last}
use Rattle.link_directives.proofs.alignments.note_power.Goals as goal

pub returns-then-before-log : goal.returns-then-before-log
returns-then-before-log c = λ other alignment.
    let name = c.args.name.now in
    let log = c.args.log in
    let noted = get same_name c.args.powers.now in
    let top : log ≡ max log c.in-Some.before = omega (arith, c.if-before-log.true) in
    raised_next name other log log alignment noted (get same_name c.insert.new.self)
    (top ∙ ap (λ (o : Option ℕ). power_with o log) (sym c.in-Some.is ∙ c.in_ok-before.ensures.old ∙ ap noted c.again.ensures))
    (c.in_ok-before.ensures.updates.0 other ∙ ap (λ (key : List ℕ). cond (same_name key other) (Some log) (noted other)) c.again.ensures)

pub returns : goal.returns
returns c = λ other alignment.
    let name = c.args.name.now in
    let log = c.args.log in
    let before = c.in-Some.before in
    let noted = get same_name c.args.powers.now in
    let between = get same_name c.insert.new.self in
    let top : before ≡ max log before = omega (arith, c.if-before-log.false) in
    raised_next name other log before alignment noted (get same_name c.insert-2.new.self)
    (top ∙ ap (λ (o : Option ℕ). power_with o log) (sym c.in-Some.is ∙ c.in_ok-before.ensures.old ∙ ap noted c.again.ensures))
    (c.in_ok-insert.ensures.updates.0 other
    ∙ ap (λ (key : List ℕ). cond (same_name key other) (Some before) (between other)) c.again-2.ensures
    ∙ noted_last (same_name name other) before log (between other) (noted other)
    (c.in_ok-before.ensures.updates.0 other ∙ ap (λ (key : List ℕ). cond (same_name key other) (Some log) (noted other)) c.again.ensures))
