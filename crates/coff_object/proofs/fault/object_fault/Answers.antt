use Rattle.std.proofs.Common.{sym, ◌∙◌}
use Rattle.coff_records.proofs.CallerLemmas.{file_whole}
use Rattle.coff_object.proofs.WellFormedLemmas.{range_holds, table_stays}
use Rattle.coff_object.proofs.fault.object_fault.Goals as goal

pub read-file-requires : goal.read-file-requires
read-file-requires c = file_whole c.args.bytes.now (sym c.is_truncated.ensures ∙ c.if-is_truncated.false)

pub string_table_fault-requires-clause-records : goal.string_table_fault-requires-clause-records
string_table_fault-requires-clause-records c = range_holds c.read-file.result (sym c.in_default-symbol_range_fault.ensures)

pub string_table-strings-requires : goal.string_table-strings-requires
string_table-strings-requires c = table_stays c.read-file.result (sym c.in_default-string_table_fault.ensures)

pub section_number_fault-requires-clause-records : goal.section_number_fault-requires-clause-records
section_number_fault-requires-clause-records c = range_holds c.read-file.result (sym c.in_default-symbol_range_fault.ensures)

pub value_fault-requires-clause-records : goal.value_fault-requires-clause-records
value_fault-requires-clause-records c = range_holds c.read-file.result (sym c.in_default-symbol_range_fault.ensures)
