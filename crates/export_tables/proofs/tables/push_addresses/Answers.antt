use Rattle.std.proofs.Common.{Option, ap, ◌∙◌, arith}
use Rattle.export_tables.specs.declared.row.ExportTo.{ExportTo}
use Rattle.export_tables.specs.ExportTable.{target_size, target_address}
use Rattle.export_tables.proofs.FillLemmas.{first_rva, rva_more, rva_within, no_addresses, address_more}
use Rattle.export_tables.proofs.tables.push_addresses.Goals as goal

pub loop-index-init : goal.loop-index-init
loop-index-init c = record {
  written = no_addresses c.args.table.now.items c.args.start c.args.targets.now;
  place = first_rva target_size c.args.start c.args.targets.now;
}

pub overflow_cast-text_rva : goal.overflow_cast-text_rva
overflow_cast-text_rva c = omega (arith, c.loop-index.invariant.place, rva_within target_size c.args.start c.args.targets.now c.loop-index.index, c.requires)

pub loop-index-preserved : goal.loop-index-preserved
loop-index-preserved c = record {
  written =
      address_more c.args.start c.args.targets.now c.loop-index.index c.loop-index.text_rva c.target_address.result c.index-targets-index.result c.args.table.now.items c.loop-index.table.items c.push_number.new.table.items c.loop-index-test.true c.loop-index.invariant.place (c.target_address.ensures ∙ ap (λ (t : Option ExportTo). target_address t c.loop-index.text_rva) c.index-targets-index.is) c.loop-index.invariant.written c.in_ok-push_number.ensures;
  place =
      let size = c.target_size-text_rva.ensures ∙ ap target_size c.index-targets-index-in-loop-index.is in
      omega (arith, c.loop-index.invariant.place, size, rva_more target_size c.args.start c.args.targets.now c.loop-index.index c.index-targets-index-in-loop-index.result c.loop-index-test.true);
}
