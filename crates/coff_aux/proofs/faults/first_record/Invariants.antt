use Rattle.std.proofs.Common.{◌≡◌, Bool, None, get_or}
use Rattle.link_base.specs.Bytes.{first_below}
use Rattle.coff_aux.specs.declared.comdat.ComdatRecord.{ComdatRecord}
use Rattle.coff_aux.specs.AuxFaults.{fails_of}
use Rattle.coff_aux.specs.Steps.{DecidesRecords}
use Rattle.coff_aux.proofs.faults.first_record.Given as goal

abbrev pub invariant-loop-index : goal.invariant-loop-index
invariant-loop-index g l =
    (test : ComdatRecord → Bool) → DecidesRecords (goal.F-post g l.fails) test
    → first_below l.index (λ k. fails_of test (get_or l.records k None)) ≡ None
