use Rattle.std.proofs.Common.{List, Some, None, sym, ap, ◌∙◌, subst, arith}
use Rattle.std.specs.List.{All}
use Rattle.std.proofs.lemmas.Result.{err_from_is_err_and}
use Rattle.std.proofs.lemmas.List.{get_or_default}
use Rattle.section_group.specs.Uniqueness.{rows_of}
use Rattle.export_tables.specs.declared.row.ExportRow.{ExportRow}
use Rattle.link_exports.specs.Exports.{ExportsView}
use Rattle.link_words.specs.Outcome.{options_said}
use Rattle.link_plan.specs.Plan.{kept_parts}
use Rattle.link_image.specs.Steps.{reloc_tables, targets_of, IsGiven}
use Rattle.link_image.proofs.SectionLemmas.{export_in_table}
use Rattle.link_image.proofs.ExportTableLemmas.{rows_placed, within, ends, numbered_so, size_so, table_so, inside_so}
use Rattle.link_image.proofs.exports.table_at.Goals as goal

pub index-rva-requires : goal.index-rva-requires
index-rva-requires c =
    let room = within (options_said c.args.options.now) c.args.plan.now c.args.placement.now c.args.k c.requires.plan c.requires.placed c.requires.found in
    omega (arith, room, c.args.placement.now.layout.pieces.ok.0)

pub check_outside-requires : goal.check_outside-requires
check_outside-requires c =
    let end = ends (options_said c.args.options.now) c.args.plan.now c.args.placement.now c.args.k c.requires.plan c.requires.placed c.requires.found in
    omega (arith, end, (c.index-rva.ensures ∙ get_or_default c.args.placement.now.layout.pieces.items c.args.k c.index-rva.result.now 0 (within (options_said c.args.options.now) c.args.plan.now c.args.placement.now c.args.k c.requires.plan c.requires.placed c.requires.found)), (c.size.ensures ∙ ap (λ (e : ExportsView). e.size) c.exports-exports.ensures))

pub returns-in_err-check_outside-clause-refused : goal.returns-in_err-check_outside-clause-refused
returns-in_err-check_outside-clause-refused c =
    let placement = c.args.placement.now in
    let given = err_from_is_err_and c.from_residual-in_err-check_outside.result c.from_residual-in_err-check_outside.ensures.1 in
    rw (given.1, given.2)
    (export_in_table (options_said c.args.options.now) (kept_parts c.args.plan.now) (rows_of placement.sections.items) placement.layout (reloc_tables placement.table) c.in_err-check_outside.field-0.0 c.requires.placed.means c.requires.permitted
    (inside_so (options_said c.args.options.now) c.args.plan.now c.args.placement.now c.args.k c.requires.plan c.requires.placed c.requires.found c.deref-3.result.now c.index-rva.result.now c.size.result (Some c.in_err-check_outside.field-0.0) (c.deref-3.ensures.value ∙ (rows_placed (kept_parts c.args.plan.now) c.in_ok-rows.rows.items c.deref-2.result.now c.args.placement.now.layout.pieces.items c.rows.result.now (c.in_ok-rows.ensures.rows (kept_parts c.args.plan.now) (c.deref.ensures.value ∙ c.requires.plan.exported_are ∙ ap (targets_of (kept_parts c.args.plan.now)) (sym (c.rows.ensures ∙ ap (λ (e : ExportsView). e.rows) c.exports-exports.ensures)))) c.deref-2.ensures.value (c.rows.ensures ∙ ap (λ (e : ExportsView). e.rows) c.exports-exports.ensures))) (c.index-rva.ensures ∙ get_or_default c.args.placement.now.layout.pieces.items c.args.k c.index-rva.result.now 0 (within (options_said c.args.options.now) c.args.plan.now c.args.placement.now c.args.k c.requires.plan c.requires.placed c.requires.found)) (c.size.ensures ∙ ap (λ (e : ExportsView). e.size) c.exports-exports.ensures) c.in_err-check_outside.ensures.refused))

pub fill-requires-clause-rows : goal.fill-requires-clause-rows
fill-requires-clause-rows c =
    numbered_so (options_said c.args.options.now) c.args.plan.now c.args.placement.now c.args.k c.requires.plan c.requires.placed c.requires.found c.deref-4.result.now c.ordinals.result.now (c.deref-4.ensures.value ∙ (rows_placed (kept_parts c.args.plan.now) c.in_ok-rows.rows.items c.deref-2.result.now c.args.placement.now.layout.pieces.items c.rows.result.now (c.in_ok-rows.ensures.rows (kept_parts c.args.plan.now) (c.deref.ensures.value ∙ c.requires.plan.exported_are ∙ ap (targets_of (kept_parts c.args.plan.now)) (sym (c.rows.ensures ∙ ap (λ (e : ExportsView). e.rows) c.exports-exports.ensures)))) c.deref-2.ensures.value (c.rows.ensures ∙ ap (λ (e : ExportsView). e.rows) c.exports-exports.ensures))) (c.ordinals.ensures ∙ ap (λ (e : ExportsView). e.ordinals) c.exports-exports.ensures)

pub fill-requires-clause-fits : goal.fill-requires-clause-fits
fill-requires-clause-fits c =
    let end = ends (options_said c.args.options.now) c.args.plan.now c.args.placement.now c.args.k c.requires.plan c.requires.placed c.requires.found in
    let size = size_so (options_said c.args.options.now) c.args.plan.now c.args.placement.now c.args.k c.requires.plan c.requires.placed c.requires.found c.deref-4.result.now c.ordinals.result.now c.dll.result (c.deref-4.ensures.value ∙ (rows_placed (kept_parts c.args.plan.now) c.in_ok-rows.rows.items c.deref-2.result.now c.args.placement.now.layout.pieces.items c.rows.result.now (c.in_ok-rows.ensures.rows (kept_parts c.args.plan.now) (c.deref.ensures.value ∙ c.requires.plan.exported_are ∙ ap (targets_of (kept_parts c.args.plan.now)) (sym (c.rows.ensures ∙ ap (λ (e : ExportsView). e.rows) c.exports-exports.ensures)))) c.deref-2.ensures.value (c.rows.ensures ∙ ap (λ (e : ExportsView). e.rows) c.exports-exports.ensures))) (c.ordinals.ensures ∙ ap (λ (e : ExportsView). e.ordinals) c.exports-exports.ensures) (c.dll.ensures ∙ ap (λ (e : ExportsView). e.dll) c.exports-exports.ensures) in
    omega (arith, end, (c.index-rva.ensures ∙ get_or_default c.args.placement.now.layout.pieces.items c.args.k c.index-rva.result.now 0 (within (options_said c.args.options.now) c.args.plan.now c.args.placement.now c.args.k c.requires.plan c.requires.placed c.requires.found)), size)

pub returns-clause-table : goal.returns-clause-table
returns-clause-table c =
    table_so (options_said c.args.options.now) c.args.plan.now c.args.placement.now c.args.k c.requires.plan c.requires.placed c.requires.found c.deref-4.result.now c.ordinals.result.now c.dll.result c.in_ok-table.table.items c.time.result c.index-rva.result.now (c.deref-4.ensures.value ∙ (rows_placed (kept_parts c.args.plan.now) c.in_ok-rows.rows.items c.deref-2.result.now c.args.placement.now.layout.pieces.items c.rows.result.now (c.in_ok-rows.ensures.rows (kept_parts c.args.plan.now) (c.deref.ensures.value ∙ c.requires.plan.exported_are ∙ ap (targets_of (kept_parts c.args.plan.now)) (sym (c.rows.ensures ∙ ap (λ (e : ExportsView). e.rows) c.exports-exports.ensures)))) c.deref-2.ensures.value (c.rows.ensures ∙ ap (λ (e : ExportsView). e.rows) c.exports-exports.ensures))) (c.ordinals.ensures ∙ ap (λ (e : ExportsView). e.ordinals) c.exports-exports.ensures) (c.dll.ensures ∙ ap (λ (e : ExportsView). e.dll) c.exports-exports.ensures) (c.time.ensures ∙ ap (λ (e : ExportsView). e.time) c.exports-exports.ensures) (c.index-rva.ensures ∙ get_or_default c.args.placement.now.layout.pieces.items c.args.k c.index-rva.result.now 0 (within (options_said c.args.options.now) c.args.plan.now c.args.placement.now c.args.k c.requires.plan c.requires.placed c.requires.found)) c.in_ok-table.ensures

pub returns-clause-outside : goal.returns-clause-outside
returns-clause-outside c =
    inside_so (options_said c.args.options.now) c.args.plan.now c.args.placement.now c.args.k c.requires.plan c.requires.placed c.requires.found c.deref-3.result.now c.index-rva.result.now c.size.result None (c.deref-3.ensures.value ∙ (rows_placed (kept_parts c.args.plan.now) c.in_ok-rows.rows.items c.deref-2.result.now c.args.placement.now.layout.pieces.items c.rows.result.now (c.in_ok-rows.ensures.rows (kept_parts c.args.plan.now) (c.deref.ensures.value ∙ c.requires.plan.exported_are ∙ ap (targets_of (kept_parts c.args.plan.now)) (sym (c.rows.ensures ∙ ap (λ (e : ExportsView). e.rows) c.exports-exports.ensures)))) c.deref-2.ensures.value (c.rows.ensures ∙ ap (λ (e : ExportsView). e.rows) c.exports-exports.ensures))) (c.index-rva.ensures ∙ get_or_default c.args.placement.now.layout.pieces.items c.args.k c.index-rva.result.now 0 (within (options_said c.args.options.now) c.args.plan.now c.args.placement.now c.args.k c.requires.plan c.requires.placed c.requires.found)) (c.size.ensures ∙ ap (λ (e : ExportsView). e.size) c.exports-exports.ensures) c.in_ok-check_outside.ensures.accepted

pub returns-clause-given : goal.returns-clause-given
returns-clause-given c =
    subst (λ (rows : List ExportRow). All (λ row. IsGiven row.what) rows) (rows_placed (kept_parts c.args.plan.now) c.in_ok-rows.rows.items c.deref-2.result.now c.args.placement.now.layout.pieces.items c.rows.result.now (c.in_ok-rows.ensures.rows (kept_parts c.args.plan.now) (c.deref.ensures.value ∙ c.requires.plan.exported_are ∙ ap (targets_of (kept_parts c.args.plan.now)) (sym (c.rows.ensures ∙ ap (λ (e : ExportsView). e.rows) c.exports-exports.ensures)))) c.deref-2.ensures.value (c.rows.ensures ∙ ap (λ (e : ExportsView). e.rows) c.exports-exports.ensures)) c.in_ok-rows.ensures.given
