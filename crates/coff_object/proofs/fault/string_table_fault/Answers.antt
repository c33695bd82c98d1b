use Rattle.std.proofs.Common.{arith}
use Rattle.coff_records.proofs.CallerLemmas.{sections_fit, records_fit-whole}
use Rattle.coff_object.proofs.fault.string_table_fault.Goals as goal

pub overflow_add-result : goal.overflow_add-result
overflow_add-result c =
    omega (arith, c.section_count.ensures, c.in-Some-symbol_name_fault.ensures.bound, sections_fit c.args.file.now c.requires.headers, records_fit-whole c.args.file.now c.requires.records, c.requires.indexed)
