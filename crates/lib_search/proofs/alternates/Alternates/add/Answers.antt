use Rattle.std.proofs.Common.{◌≡◌, ℕ, true, cond, List, length, ◌++◌, ◌∷◌, [], refl, sym, ap, ◌∙◌, arith}
use Rattle.std.specs.Ordering.{nat_cmp, is_eq}
use Rattle.link_base.specs.NameText.{same_name}
use Rattle.lib_search.specs.AlternateParts.{is_waiting, noted_under}
use Rattle.lib_search.proofs.WaitLemmas.{added_waiting, added_asleep}
use Rattle.lib_search.proofs.alternates.Alternates.add.Goals as goal

pub returns-in_ok-insert-clause-kept : goal.returns-in_ok-insert-clause-kept
returns-in_ok-insert-clause-kept c =
    let before = c.args.self.now in
    let number : c.len-number.result ≡ length before.pairs.items = omega (arith, c.len-number.ensures, before.pairs.ok.0) in
    let pushed =
    c.in_ok-push.ensures.items
    ∙ ap (λ (n : List ℕ). before.pairs.items ++ (n, c.again-2.result) ∷ []) c.again.ensures
    ∙ ap (λ (n : List ℕ). before.pairs.items ++ (c.args.left.now, n) ∷ []) c.again-2.ensures in
    added_waiting c.args.searched.now (c.args.left.now, c.args.right.now) before (record before { pairs = c.push.new.self; waiting = c.insert.new.self }) c.requires pushed
    (sym c.is_open.ensures ∙ c.if-is_open.true)
    (λ k. c.in_ok-insert.ensures.updates.0 k ∙ ap (λ (n : ℕ). cond (is_eq (nat_cmp n k)) true (is_waiting before.waiting k)) number)
    refl

pub returns-in_ok-note_under-clause-kept : goal.returns-in_ok-note_under-clause-kept
returns-in_ok-note_under-clause-kept c =
    let before = c.args.self.now in
    let number : c.len-number.result ≡ length before.pairs.items = omega (arith, c.len-number.ensures, before.pairs.ok.0) in
    let pushed =
    c.in_ok-push.ensures.items
    ∙ ap (λ (n : List ℕ). before.pairs.items ++ (n, c.again-2.result) ∷ []) c.again.ensures
    ∙ ap (λ (n : List ℕ). before.pairs.items ++ (c.args.left.now, n) ∷ []) c.again-2.ensures in
    added_asleep c.args.searched.now (c.args.left.now, c.args.right.now) before (record before { pairs = c.push.new.self; asleep = c.note_under.new.noted }) c.requires pushed
    (sym c.is_open.ensures ∙ c.if-is_open.false)
    refl
    (λ other. c.in_ok-note_under.ensures other
    ∙ ap (λ (n : List ℕ). cond (same_name n other) (noted_under before.asleep other ++ c.len-number.result ∷ []) (noted_under before.asleep other)) c.again-else-is_open.ensures
    ∙ ap (λ (n : ℕ). cond (same_name c.args.left.now other) (noted_under before.asleep other ++ n ∷ []) (noted_under before.asleep other)) number)
