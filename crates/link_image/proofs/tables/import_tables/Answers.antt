use Rattle.std.proofs.Common.{ℕ, length, map, take, List, ap, ◌∙◌, arith}
use Rattle.std.proofs.lemmas.Result.{IfOk-weaker}
use Rattle.import_tables.specs.declared.row.ImportRow.{ImportRow}
use Rattle.import_tables.specs.ImportTables.{tables_of}
use Rattle.link_words.specs.Outcome.{options_said}
use Rattle.piece_bytes.specs.Extents.{rva_of}
use Rattle.link_pieces.specs.TablePieces.{kept_rows}
use Rattle.link_plan.specs.Plan.{kept_parts}
use Rattle.link_image.specs.LinkedBytes.{import_tables_at}
use Rattle.link_image.proofs.HeldLemmas.{imports_are}
use Rattle.link_image.proofs.TableLemmas.{places_within, rvas_are, tables_end}
use Rattle.link_image.proofs.tables.import_tables.Goals as goal

pub table_rvas-rvas-requires : goal.table_rvas-rvas-requires
table_rvas-rvas-requires c = places_within (options_said c.args.options.now) c.args.plan.now c.requires.plan c.args.places.now (length c.deref.result.now) c.requires.places (omega (arith, ap length c.deref.ensures.value, c.requires.placed.room))

pub fill-requires-clause-below : goal.fill-requires-clause-below
fill-requires-clause-below c =
    let rvas = rvas_are (options_said c.args.options.now) c.args.plan.now c.requires.plan c.args.placement.now.layout c.args.places.now c.table_rvas-rvas.result c.requires.places (c.table_rvas-rvas.ensures ∙ ap (λ (rs : List ℕ). map (rva_of rs) (take 5 c.args.places.now)) c.deref.ensures.value) in
    tables_end (options_said c.args.options.now) c.args.plan.now c.requires.plan c.args.placement.now c.requires.placed c.table_rvas-rvas.result c.args.plan.now.imports.shape.lengths rvas (imports_are (options_said c.args.options.now) c.args.plan.now c.requires.plan).lengths (λ number lt. c.are_words.ensures number)

pub returns : goal.returns
unfolding import_tables_at
returns c =
    let rvas = rvas_are (options_said c.args.options.now) c.args.plan.now c.requires.plan c.args.placement.now.layout c.args.places.now c.table_rvas-rvas.result c.requires.places (c.table_rvas-rvas.ensures ∙ ap (λ (rs : List ℕ). map (rva_of rs) (take 5 c.args.places.now)) c.deref.ensures.value) in
    IfOk-weaker c.fill.result _ _ (λ tables are. are
    ∙ ap (λ (rows : List ImportRow). tables_of rows c.table_rvas-rvas.result) (c.deref-2.ensures.value ∙ (imports_are (options_said c.args.options.now) c.args.plan.now c.requires.plan).rows)
    ∙ ap (tables_of (kept_rows (kept_parts c.args.plan.now))) rvas) c.fill.ensures.bytes
