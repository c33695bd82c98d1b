use Rattle.std.proofs.Common.{◌≡◌, true, List, length, map, sym, ap, subst, ◌∙◌}
use Rattle.std.specs.List.{All}
use Rattle.std.proofs.lemmas.Result.{IfOk-weaker}
use Rattle.section_group.specs.declared.piece.Piece.{Piece}
use Rattle.section_group.specs.declared.piece.OutSection.{OutSection}
use Rattle.section_group.specs.PieceContents.{piece_contents}
use Rattle.image_writer.specs.ExpectedImage.{image_file}
use Rattle.image_writer.specs.WrittenImage.{layout_plan, at_each_base, IsLaidOut, HasContents}
use Rattle.link_pieces.specs.TablePieces.{is_table}
use Rattle.link_words.specs.Outcome.{options_said}
use Rattle.link_plan.specs.Plan.{kept_parts}
use Rattle.link_image.specs.LinkedBytes.{tables_at}
use Rattle.link_image.specs.Steps.{CanBeGiven, reloc_tables}
use Rattle.link_image.proofs.HeldLemmas.{names_count}
use Rattle.link_image.proofs.FileLemmas.{can_be_given, whole_by, whole_laid, whole_filled, written_with}
use Rattle.link_image.proofs.file.write_file.Goals as goal

pub whole_pieces-requires-clause-given : goal.whole_pieces-requires-clause-given
whole_pieces-requires-clause-given c =
    let plan = c.args.plan.now in
    let position : c.len-position.result ≡ length plan.names.modules = c.len-position.ensures ∙ plan.modules.ok.0 ∙ names_count (options_said c.args.options.now) plan c.requires.plan in
    subst (λ (ps : List Piece). All (λ piece. is_table c.len-position.result piece ≡ true → CanBeGiven piece) ps) (sym c.deref.ensures.value)
    (can_be_given (options_said c.args.options.now) plan c.requires.plan c.len-position.result position)

pub image-requires-clause-laid_out : goal.image-requires-clause-laid_out
image-requires-clause-laid_out c =
    let plan = c.args.plan.now in
    let placement = c.args.placement.now in
    let position : c.len-position.result ≡ length plan.names.modules = c.len-position.ensures ∙ plan.modules.ok.0 ∙ names_count (options_said c.args.options.now) plan c.requires.plan in
    let whole = whole_by c.len-position.result (length plan.names.modules) _ (tables_at (kept_parts plan) placement.layout) (reloc_tables placement.table) c.deref.result.now plan.pieces.items c.in_ok-pieces.pieces.items position c.requires.tables c.deref.ensures.value c.in_ok-pieces.ensures in
    subst (λ (ps : List Piece). IsLaidOut ps c.deref-2.result.now placement.layout) (sym c.deref-3.ensures.value)
    (subst (λ (ss : List OutSection). IsLaidOut c.in_ok-pieces.pieces.items ss placement.layout) (sym c.deref-2.ensures.value)
    (whole_laid (options_said c.args.options.now) plan c.requires.plan placement c.requires.placed c.in_ok-pieces.pieces.items whole))

pub image-requires-clause-contents : goal.image-requires-clause-contents
image-requires-clause-contents c =
    let plan = c.args.plan.now in
    let placement = c.args.placement.now in
    let position : c.len-position.result ≡ length plan.names.modules = c.len-position.ensures ∙ plan.modules.ok.0 ∙ names_count (options_said c.args.options.now) plan c.requires.plan in
    let whole = whole_by c.len-position.result (length plan.names.modules) _ (tables_at (kept_parts plan) placement.layout) (reloc_tables placement.table) c.deref.result.now plan.pieces.items c.in_ok-pieces.pieces.items position c.requires.tables c.deref.ensures.value c.in_ok-pieces.ensures in
    subst (λ (ps : List Piece). HasContents ps c.deref-2.result.now) (sym c.deref-3.ensures.value)
    (subst (λ (ss : List OutSection). HasContents c.in_ok-pieces.pieces.items ss) (sym c.deref-2.ensures.value)
    (whole_filled (options_said c.args.options.now) plan c.requires.plan placement c.requires.placed c.in_ok-pieces.pieces.items whole))

pub returns : goal.returns
returns c =
    let plan = c.args.plan.now in
    let placement = c.args.placement.now in
    let position : c.len-position.result ≡ length plan.names.modules = c.len-position.ensures ∙ plan.modules.ok.0 ∙ names_count (options_said c.args.options.now) plan c.requires.plan in
    let whole = whole_by c.len-position.result (length plan.names.modules) _ (tables_at (kept_parts plan) placement.layout) (reloc_tables placement.table) c.deref.result.now plan.pieces.items c.in_ok-pieces.pieces.items position c.requires.tables c.deref.ensures.value c.in_ok-pieces.ensures in
    IfOk-weaker c.image.result _ _ (λ image is. written_with (options_said c.args.options.now) plan c.requires.plan placement c.requires.placed c.in_ok-pieces.pieces.items whole c.args.headers.now image.items
    (is
    ∙ ap (λ (ss : List OutSection). image_file (layout_plan c.args.headers.now ss placement.layout (at_each_base (map piece_contents c.deref-3.result.now)))) c.deref-2.ensures.value
    ∙ ap (λ (ps : List Piece). image_file (layout_plan c.args.headers.now placement.sections.items placement.layout (at_each_base (map piece_contents ps)))) c.deref-3.ensures.value)) c.image.ensures
