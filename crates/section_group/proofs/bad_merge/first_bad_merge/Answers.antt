use Rattle.std.proofs.Common.{◌≡◌, ℕ, List, [], ap, sym, inl, inr, arith, ◌∙◌}
use Rattle.std.proofs.lemmas.Bool.{cases_lt}
use Rattle.std.proofs.lemmas.List.{get_or_default}
use Rattle.section_group.specs.Merging.{merge_at}
use Rattle.section_group.specs.Chains.{fails}
use Rattle.section_group.proofs.BadMergeLemmas.{failed_is_bad, passed_is_not_bad}
use Rattle.section_group.proofs.bad_merge.first_bad_merge.Goals as goal

pub loop-merge-preserved : goal.loop-merge-preserved
loop-merge-preserved c = λ follows k lt.
    let merges = c.args.merges.now in
    let i = c.loop-merge.merge-index in
    let item : c.merge-item.result ≡ merge_at merges i = c.merge-item.is ∙ get_or_default merges i c.merge-item.result ([], []) c.loop-merge-test.true in
    elim (cases_lt k i) [
      | inl below ↦ c.loop-merge.invariant follows k below
      | inr above ↦
          let same : k ≡ i = omega arith in
          ap (λ (j : ℕ). fails merges follows.steps (merge_at merges j)) same ∙ ap (fails merges follows.steps) (sym item)
          ∙ sym (c.is_bad.ensures merges follows) ∙ c.if-is_bad.false
    ]

pub returns-then-is_bad-clause-first : goal.returns-then-is_bad-clause-first
returns-then-is_bad-clause-first c =
    let merges = c.args.merges.now in
    let i = c.loop-merge.merge-index in
    let follows = c.requires in
    let item : c.merge-item.result ≡ merge_at merges i = c.merge-item.is ∙ get_or_default merges i c.merge-item.result ([], []) c.loop-merge-test.true in
    let failed = ap (fails merges follows.steps) (sym item) ∙ sym (c.is_bad.ensures merges follows) ∙ c.if-is_bad.true in
    record {
      place = i;
      first = record {
        within = c.loop-merge-test.true;
        bad = failed_is_bad merges follows.steps i c.loop-merge-test.true follows.far failed;
        before = λ j lt. passed_is_not_bad merges follows.steps j (omega (arith, c.loop-merge-test.true)) (λ k le. c.loop-merge.invariant follows k (omega arith));
      };
      named = c.again.ensures ∙ ap (λ (m : List ℕ × List ℕ). m.0) item;
    }

pub returns-clause-none : goal.returns-clause-none
returns-clause-none c = λ k lt.
    passed_is_not_bad c.args.merges.now c.requires.steps k lt (λ j le. c.loop-merge.invariant c.requires j (omega arith))
