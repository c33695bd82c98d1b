use Rattle.std.proofs.Common.{◌+◌, ap, ◌∙◌, arith}
use Rattle.export_tables.specs.ExportTable.{name_size}
use Rattle.export_tables.proofs.FillLemmas.{first_rva, rva_more, rva_within, no_rvas, rvas_more}
use Rattle.export_tables.proofs.tables.push_name_rvas.Goals as goal

pub loop-index-init : goal.loop-index-init
loop-index-init c = record {
  written = no_rvas c.args.table.now.items c.args.start c.args.names.now;
  place = first_rva name_size c.args.start c.args.names.now;
}

pub overflow_cast-text_rva : goal.overflow_cast-text_rva
overflow_cast-text_rva c = omega (arith, c.loop-index.invariant.place, rva_within name_size c.args.start c.args.names.now c.loop-index.index, c.requires)

pub overflow_add-text_rva : goal.overflow_add-text_rva
overflow_add-text_rva c =
    let size = c.name_size-text_rva.ensures ∙ ap name_size c.index-names-index.is in
    omega (arith, c.loop-index.invariant.place, size, rva_more name_size c.args.start c.args.names.now c.loop-index.index c.index-names-index.result c.loop-index-test.true, rva_within name_size c.args.start c.args.names.now (c.loop-index.index + 1), c.requires)

pub loop-index-preserved : goal.loop-index-preserved
loop-index-preserved c = record {
  written =
      rvas_more c.args.start c.args.names.now c.loop-index.index c.loop-index.text_rva c.args.table.now.items c.loop-index.table.items c.push_number.new.table.items c.loop-index.invariant.place c.loop-index.invariant.written c.in_ok-push_number.ensures;
  place =
      let size = c.name_size-text_rva.ensures ∙ ap name_size c.index-names-index.is in
      omega (arith, c.loop-index.invariant.place, size, rva_more name_size c.args.start c.args.names.now c.loop-index.index c.index-names-index.result c.loop-index-test.true);
}
