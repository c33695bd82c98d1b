use Rattle.std.proofs.Common.{◌+◌, sym, ap, ◌∙◌, arith}
use Rattle.std.proofs.lemmas.Result.{err_from_is_err_and}
use Rattle.import_tables.specs.ImportDirectory.{Imports, then_walk}
use Rattle.import_tables.proofs.WalkLemmas.{rest_entries, entries_start, entries_end, entries_read, then_nothing, then_leaves, then_joins, slot_there}
use Rattle.import_tables.proofs.reading.read_entries.Goals as goal

pub loop-at-init : goal.loop-at-init
loop-at-init c = record {
  near = omega arith;
  beside = omega arith;
  same = ap (then_walk (Imports c.args.found.now.items)) (entries_start c.args.memory.now c.args.dll.now c.args.lookup c.args.slots);
}

pub returns-in-End-clause-more : goal.returns-in-End-clause-more
returns-in-End-clause-more c =
    sym (entries_read c.loop-at.found.items c.args.found.now.items c.args.memory.now c.args.dll.now c.loop-at.at c.loop-at.slot _ _ c.loop-at-test.true (sym c.in-End.is ∙ c.entry_at.ensures) c.loop-at.invariant.same)
    ∙ then_nothing c.loop-at.found.items

pub returns-in-Leaves-clause-refused : goal.returns-in-Leaves-clause-refused
returns-in-Leaves-clause-refused c =
    then_leaves c.args.found.now.items _ c.in-Leaves.rva
    (sym (entries_read c.loop-at.found.items c.args.found.now.items c.args.memory.now c.args.dll.now c.loop-at.at c.loop-at.slot _ _ c.loop-at-test.true (sym c.in-Leaves.is ∙ c.entry_at.ensures) c.loop-at.invariant.same))

pub overflow_cast-slot-in-Import : goal.overflow_cast-slot-in-Import
overflow_cast-slot-in-Import c =
    omega (arith, slot_there c.args.memory.now c.loop-at.at c.loop-at.slot c.in-Import.by (sym c.entry_at.ensures ∙ c.in-Import.is))

pub returns-in_err-push_import-in-Import-clause-refused :
    goal.returns-in_err-push_import-in-Import-clause-refused
returns-in_err-push_import-in-Import-clause-refused c =
    let given = err_from_is_err_and c.from_residual.result c.from_residual.ensures.1 in rw (given.1, given.2) tt

pub loop-at-preserved : goal.loop-at-preserved
loop-at-preserved c =
    let memory = c.args.memory.now in
    let dll = c.args.dll.now in
    let next = rest_entries memory dll (c.loop-at.at + 8) (c.loop-at.slot + 8) in
    record {
      near = omega arith;
      beside = omega arith;
      same =
          ap (λ found. then_walk (Imports found) next) c.in_ok-push_import-in-Import.ensures
          ∙ sym (then_joins c.loop-at.found.items _ next)
          ∙ entries_read c.loop-at.found.items c.args.found.now.items memory dll c.loop-at.at c.loop-at.slot _ _ c.loop-at-test.true (sym c.in-Import.is ∙ c.entry_at.ensures) c.loop-at.invariant.same;
    }

pub returns-clause-refused : goal.returns-clause-refused
returns-clause-refused c =
    then_leaves c.args.found.now.items _ c.loop-at.at
    (sym c.loop-at.invariant.same ∙ ap (then_walk (Imports c.loop-at.found.items)) (entries_end c.args.memory.now c.args.dll.now c.loop-at.at c.loop-at.slot c.loop-at-test.false))
