use Rattle.std.proofs.Common.{ℕ, length, List, None, get_or, ap, ◌∙◌, arith}
use Rattle.std.specs.Prelude.{codes}
use Rattle.section_group.specs.declared.piece.Piece.{Piece}
use Rattle.section_group.specs.Uniqueness.{rows_of}
use Rattle.link_words.specs.Outcome.{options_said}
use Rattle.link_resources.specs.LinkResources.{ResourcesView}
use Rattle.piece_bytes.specs.Extents.{extent_of}
use Rattle.link_plan.specs.Plan.{kept_parts}
use Rattle.link_image.specs.LinkedImage.{table_extent, section_extent}
use Rattle.link_image.proofs.TableLemmas.{counted, place_within, extent_is}
use Rattle.link_image.proofs.tables.resource_extent.Goals as goal

pub extent_of-requires-clause-rva : goal.extent_of-requires-clause-rva
extent_of-requires-clause-rva c = place_within (options_said c.args.options.now) c.args.plan.now c.requires.plan c.args.places.now 8 (length c.deref-2.result.now) c.requires.places (omega arith) (omega (arith, ap length c.deref-2.ensures.value, c.requires.placed.room))

pub extent_of-requires-clause-piece : goal.extent_of-requires-clause-piece
extent_of-requires-clause-piece c = place_within (options_said c.args.options.now) c.args.plan.now c.requires.plan c.args.places.now 8 (length c.deref.result.now) c.requires.places (omega arith) (omega (arith, ap (λ (ps : List Piece). length ps) c.deref.ensures.value))

pub returns : goal.returns
returns c =
    let plan = c.args.plan.now in
    let layout = c.args.placement.now.layout in
    let size = ap (λ (resources : ResourcesView). resources.size) c.resources.ensures in
    c.extent_of.ensures
    ∙ ap (λ (ps : List Piece). extent_of ps c.deref-2.result.now (get_or c.args.places.now 8 None)) c.deref.ensures.value
    ∙ ap (λ (rs : List ℕ). extent_of plan.pieces.items rs (get_or c.args.places.now 8 None)) c.deref-2.ensures.value
    ∙ extent_is (options_said c.args.options.now) plan c.requires.plan layout.pieces.items c.args.places.now 8 (omega arith) c.requires.places
    ∙ counted plan.names.resources.size (section_extent (rows_of c.args.placement.now.sections.items) layout (codes ".rsrc")) (table_extent (kept_parts plan) layout 8) (λ none. c.if-size-eq0.false (c.size.ensures ∙ size ∙ none))
