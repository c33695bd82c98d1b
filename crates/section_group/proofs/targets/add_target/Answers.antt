use Rattle.std.proofs.Common.{◌≡◌, ℕ, List, cond, Some, ap, sym, ◌∙◌}
use Rattle.std.proofs.lemmas.Bool.{not-false}
use Rattle.indexmap.specs.IndexMap.{get}
use Rattle.link_base.proofs.NameTextLemmas.{same_is}
use Rattle.section_group.specs.Merging.{same_name}
use Rattle.section_group.proofs.ChainLemmas.{puts_again}
use Rattle.section_group.proofs.targets.add_target.Goals as goal

pub returns-else-ne : goal.returns-else-ne
returns-else-ne c =
    let left = c.args.left.now in
    let right = c.args.right.now in
    let before = c.in-Some.before in
    let old = λ (q : List ℕ). get same_name c.args.targets.now q in
    let same : before ≡ right = same_is before right (not-false (same_name before right) (sym c.ne.ensures ∙ c.if-ne.false)) in
    puts_again left right right old (λ q. get same_name c.insert.new.self q)
    (ap old (sym c.again.ensures) ∙ sym c.in_ok-before.ensures.old ∙ c.in-Some.is ∙ ap Some same)
    (λ q. c.in_ok-before.ensures.updates.0 q ∙ ap (λ k. cond (same_name k q) (Some c.again-2.result) (old q)) c.again.ensures ∙ ap (λ v. cond (same_name left q) (Some v) (old q)) c.again-2.ensures)
