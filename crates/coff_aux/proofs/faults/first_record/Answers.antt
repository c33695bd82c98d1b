use Rattle.std.proofs.Common.{◌+◌, ℕ, None, get_or, ap, sym, ◌∙◌, arith}
use Rattle.std.specs.Prelude.{option_map}
use Rattle.link_base.specs.Bytes.{first_below}
use Rattle.link_base.proofs.CallerLemmas.{first_below-more, first_below-found, first_below-all_fail}
use Rattle.coff_aux.specs.AuxFaults.{fails_of}
use Rattle.coff_aux.proofs.faults.first_record.Goals.{in-Some+else-fails, in_default}
use Rattle.coff_aux.proofs.faults.first_record.Goals as goal

pub loop-index-init : goal.loop-index-init
loop-index-init g c = λ test decides. first_below-all_fail 0 _ (λ k lt. absurd (omega (arith, lt)))

pub returns-then-fails-clause-first : goal.returns-then-fails-clause-first
returns-then-fails-clause-first g c =
    let records = c.args.records.now in
    let i = c.loop-index.index in
    λ test decides.
    ap (option_map (λ (k : ℕ). k + 1))
    (sym (first_below-found i _ (λ k. fails_of test (get_or records k None)) c.loop-index-test.true (c.loop-index.invariant test decides)
    (ap (fails_of test) c.in-Some.is ∙ sym (decides _ _ c.fails.ensures) ∙ c.if-fails.true)))

pub loop-index-preserved : goal.loop-index-preserved
loop-index-preserved g c =
    let records = c.args.records.now in
    let i = c.loop-index.index in
    λ test decides.
    first_below-more i (λ k. fails_of test (get_or records k None)) (c.loop-index.invariant test decides)
    (elim c.match-records-index.branch [
      | in-Some+else-fails w ↦ ap (fails_of test) w.in-Some.is ∙ sym (decides _ _ w.fails.ensures) ∙ w.if-fails.false
      | in_default w ↦ ap (fails_of test) w.in_default.is
    ])

pub returns-clause-first : goal.returns-clause-first
returns-clause-first g c =
    let records = c.args.records.now in
    λ test decides.
    ap (option_map (λ (k : ℕ). k + 1))
    (sym (ap (λ (n : ℕ). first_below n (λ k. fails_of test (get_or records k None))) (omega (arith, c.loop-index-test.false, c.loop-index.auto.index-end)) ∙ c.loop-index.invariant test decides))
