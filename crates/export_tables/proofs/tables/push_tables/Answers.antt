use Rattle.std.proofs.lemmas.Result.{on_ok_weaker}
use Rattle.export_tables.proofs.FillLemmas.{tables_written}
use Rattle.export_tables.proofs.tables.push_tables.Goals as goal

pub returns : goal.returns
returns c =
    on_ok_weaker c.push_indexes.result (λ last. tables_written c.args.time c.args.directory c.args.names_rva c.args.forwarders_rva c.args.targets.now c.args.names.now c.args.table.now.items c.push_directory.new.table.items c.push_addresses.new.table.items c.push_name_rvas.new.table.items c.push_indexes.new.table.items c.in_ok-push_directory.ensures c.in_ok-push_addresses.ensures c.in_ok-push_name_rvas.ensures last) c.push_indexes.ensures
