use Rattle.std.proofs.Common.{List, Option, length, ap, ◌∙◌, arith}
use Rattle.coff_aux.specs.declared.comdat.ComdatRecord.{ComdatRecord}
use Rattle.coff_aux.proofs.RecordLemmas.{record_count}
use Rattle.coff_aux.proofs.faults.comdat_fault.Goals as goal

pub record_fault-requires : goal.record_fault-requires
record_fault-requires c =
    omega (arith, c.requires.few, c.record_count.ensures, ap (λ (xs : List (Option ComdatRecord)). length xs) (c.deref.ensures.value ∙ c.in_ok-records.ensures) ∙ record_count c.args.object.now)
