use Rattle.std.proofs.Common.{◌≡◌, ◌<◌, Bool, false, ◌&&◌, cond, length, get_or, Some, None, sym, ap, ◌∙◌, arith}
use Rattle.std.proofs.lemmas.List.{get_or_default}
use Rattle.link_base.specs.declared.fault.Fault.{Fault}
use Rattle.section_group.specs.SectionOrder.{no_piece}
use Rattle.link_words.specs.Outcome.{options_said}
use Rattle.link_image.specs.TableFaults.{is_bad_pdata, bad_pdata}
use Rattle.link_image.proofs.UsedLemmas.{kept_length, first_fits}
use Rattle.link_image.proofs.RowLemmas.{judged_at}
use Rattle.link_image.proofs.pdata.check_piece.Goals as goal

pub index-piece-requires : goal.index-piece-requires
index-piece-requires c =
    omega (arith, first_fits (options_said c.args.options.now) c.args.plan.now c.requires.plan, c.requires.piece, c.args.plan.now.pieces.ok.0)

pub index-requires : goal.index-requires
index-requires c =
    omega (arith, kept_length (options_said c.args.options.now) c.args.plan.now c.requires.plan, c.requires.piece, c.args.plan.now.kept.ok.0)

pub returns-then-is_bad-clause-refused : goal.returns-then-is_bad-clause-refused
returns-then-is_bad-clause-refused c =
    let plan = c.args.plan.now in
    let k = c.args.k in
    let piece = c.index-piece.result.now in
    let within : k < length plan.pieces.items = omega (arith, first_fits (options_said c.args.options.now) plan c.requires.plan, c.requires.piece) in
    let inside : k < length plan.kept.items = omega (arith, kept_length (options_said c.args.options.now) plan c.requires.plan, c.requires.piece) in
    let is = c.index-piece.ensures ∙ get_or_default plan.pieces.items k piece no_piece within in
    let kept : get_or plan.kept.items k false ≡ c.index.result.now = get_or_default plan.kept.items k false c.index.result.now inside ∙ sym c.index.ensures in
    judged_at (options_said c.args.options.now) plan k piece c.requires.plan c.requires.piece is
    ∙ ap (λ (b : Bool). cond (b && is_bad_pdata piece) (Some (bad_pdata piece)) None) kept
    ∙ ap (λ (b : Bool). cond (c.index.result.now && b) (Some (bad_pdata piece)) None) (sym c.is_bad_pdata.ensures)
    ∙ ap (λ (b : Bool). cond b (Some (bad_pdata piece)) None) c.if-is_bad.true
    ∙ ap (λ (f : Fault). Some f) (sym c.bad_pdata.ensures)

pub returns-clause-accepted : goal.returns-clause-accepted
returns-clause-accepted c =
    let plan = c.args.plan.now in
    let k = c.args.k in
    let piece = c.index-piece.result.now in
    let within : k < length plan.pieces.items = omega (arith, first_fits (options_said c.args.options.now) plan c.requires.plan, c.requires.piece) in
    let inside : k < length plan.kept.items = omega (arith, kept_length (options_said c.args.options.now) plan c.requires.plan, c.requires.piece) in
    let is = c.index-piece.ensures ∙ get_or_default plan.pieces.items k piece no_piece within in
    let kept : get_or plan.kept.items k false ≡ c.index.result.now = get_or_default plan.kept.items k false c.index.result.now inside ∙ sym c.index.ensures in
    judged_at (options_said c.args.options.now) plan k piece c.requires.plan c.requires.piece is
    ∙ ap (λ (b : Bool). cond (b && is_bad_pdata piece) (Some (bad_pdata piece)) None) kept
    ∙ ap (λ (b : Bool). cond (c.index.result.now && b) (Some (bad_pdata piece)) None) (sym c.is_bad_pdata.ensures)
    ∙ ap (λ (b : Bool). cond b (Some (bad_pdata piece)) None) c.if-is_bad.false
