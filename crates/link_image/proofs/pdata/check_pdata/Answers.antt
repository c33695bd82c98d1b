use Rattle.std.proofs.Common.{◌≡◌, ◌<◌, ℕ, length, refl, sym, ap, ◌∙◌, arith}
use Rattle.std.proofs.lemmas.Result.{err_from_is_err_and}
use Rattle.link_base.specs.Refusals.{first_refusal_below}
use Rattle.link_base.proofs.RefusalLemmas.{first_refusal_below-more, first_refusal_below-found}
use Rattle.link_words.specs.Outcome.{options_said}
use Rattle.link_pieces.specs.Pieces.{link_pieces}
use Rattle.link_plan.specs.Plan.{kept_parts}
use Rattle.link_image.specs.TableFaults.{pdata_fault_at, pdata_fault}
use Rattle.link_image.proofs.UsedLemmas.{kept_length}
use Rattle.link_image.proofs.pdata.check_pdata.Goals as goal

pub overflow_sub-first : goal.overflow_sub-first
overflow_sub-first c =
    let plan = c.args.plan.now in
    omega (arith, kept_length (options_said c.args.options.now) plan c.requires, c.len.ensures ∙ plan.kept.ok.0, c.len-2.ensures ∙ plan.modules.ok.0)

pub loop-k-init : goal.loop-k-init
unfolding first_refusal_below
loop-k-init c = refl

pub check_piece-requires-clause-piece : goal.check_piece-requires-clause-piece
check_piece-requires-clause-piece c =
    let plan = c.args.plan.now in
    omega (arith, kept_length (options_said c.args.options.now) plan c.requires, c.len.ensures ∙ plan.kept.ok.0, c.len-2.ensures ∙ plan.modules.ok.0)

pub returns-in_err-check_piece-clause-refused : goal.returns-in_err-check_piece-clause-refused
unfolding pdata_fault
returns-in_err-check_piece-clause-refused c =
    let plan = c.args.plan.now in
    let lt : c.loop-k.k < length (link_pieces plan.names) = omega (arith, kept_length (options_said c.args.options.now) plan c.requires, c.len.ensures ∙ plan.kept.ok.0, c.len-2.ensures ∙ plan.modules.ok.0) in
    let given = err_from_is_err_and c.from_residual.result c.from_residual.ensures.1 in
    rw (given.1, given.2)
    (first_refusal_below-found c.loop-k.k (length (link_pieces plan.names)) (pdata_fault_at (kept_parts plan)) c.in_err-check_piece.field-0.0 lt c.loop-k.invariant c.in_err-check_piece.ensures.refused)

pub loop-k-preserved : goal.loop-k-preserved
loop-k-preserved c =
    first_refusal_below-more c.loop-k.k (pdata_fault_at (kept_parts c.args.plan.now)) c.loop-k.invariant c.in_ok-check_piece.ensures.accepted

pub returns-clause-accepted : goal.returns-clause-accepted
unfolding pdata_fault
returns-clause-accepted c =
    let plan = c.args.plan.now in
    let ends : c.loop-k.k ≡ length (link_pieces plan.names) = omega (arith, kept_length (options_said c.args.options.now) plan c.requires, c.len.ensures ∙ plan.kept.ok.0, c.len-2.ensures ∙ plan.modules.ok.0) in
    ap (λ (n : ℕ). first_refusal_below n (pdata_fault_at (kept_parts plan))) (sym ends) ∙ c.loop-k.invariant
